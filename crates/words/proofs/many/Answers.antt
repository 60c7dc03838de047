use Rattle.words.proofs.Ends.{turn, over, three}
use Rattle.words.specs.Front.{five}
use Rattle.words.specs.Words.{on}
use Rattle.format.specs.Crc.{bit_steps}
use Rattle.format.specs.Bytes.{num}
use lib.ListN.{length, drop}
use lib.Dec.{lit≤}
use native.Mathlib.Omega.{arith}
use Prim.Native.Nat.{ℕ, ◌+◌, ◌-◌, ◌*◌}
use mathlib.Core.Path.{◌≡◌, sym, ap₂, ap, ◌∙◌}
use Rattle.words.proofs.many.Goals as goal

pub loop-k-init : goal.loop-k-init
loop-k-init c = let a = c.args in
    let s = a.s.now in
    let h = c.requires in
    let e : (a.at + 24) + 8 * 0 ≡ a.at + 24 = omega arith in
    let n : 320 + 8 * (length s - (a.at + 24)) ≡ 128 + 8 * (length s - a.at) = omega arith in
    ap (λ (i : ℕ). bit_steps (320 + 8 * (length s - i)) (on a.first (on a.second (on c.word.result (on c.word-2.result (on c.word-3.result (num (drop i s)))))))) e
    ∙ ap₂ (λ (m y : ℕ). bit_steps m (on a.first (on a.second y))) n
    (sym (three s a.at _ _ _ h.fact_1 c.word.ensures c.word-2.ensures c.word-3.ensures))

pub loop-k-preserved : goal.loop-k-preserved
loop-k-preserved c = let l = c.loop-k in
    turn _ (c.args.at + 24 + 8 * l.k) _ c.word-in-loop-k.result 320 268 (five l.f) (five c.carry_far-f.result) c.word-in-loop-k.ensures (omega arith)
    (omega arith) (lit≤ tt) c.carry_far-f.ensures
    ∙ l.invariant

pub returns : goal.returns
returns c = let l = c.loop-k in
    c.last_five.ensures ∙ over c.args.s.now (c.args.at + 24 + 8 * l.k) 320 (five l.f) (omega arith) ∙ l.invariant
