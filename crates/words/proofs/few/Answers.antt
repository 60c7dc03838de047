use Rattle.words.proofs.Ends.{turn, over}
use Rattle.words.specs.Front.{two}
use lib.Dec.{lit≤}
use native.Mathlib.Omega.{arith}
use Prim.Native.Nat.{◌+◌, ◌*◌}
use mathlib.Core.Path.{◌∙◌}
use Rattle.words.proofs.few.Goals as goal

pub loop-k-preserved : goal.loop-k-preserved
loop-k-preserved c = let l = c.loop-k in
    turn _ (c.args.at + 8 * l.k) _ c.word.result 128 127 (two l.t) (two c.carry_near-t.result) c.word.ensures (omega arith) (omega arith) (lit≤ tt)
    c.carry_near-t.ensures
    ∙ l.invariant

pub returns : goal.returns
returns c = let l = c.loop-k in
    c.last_two.ensures ∙ over c.args.s.now (c.args.at + 8 * l.k) 128 (two l.t) (omega arith) ∙ l.invariant
