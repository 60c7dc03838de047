use Rattle.words.proofs.Ends.{empty, tiny, longer}
use lib.ListN.{length}
use lib.Bits.{bit_xor}
use native.Mathlib.Omega.{arith}
use Prim.Native.Nat.{ℕ, ◌+◌, ◌-◌, ◌*◌, ◌/◌, ◌%◌, ◌^◌}
use mathlib.Core.Path.{ap, ◌∙◌}
use borrow.Author.Rules.{rules}
use Rattle.words.proofs.after.Goals as goal

pub returns-then-n-eq0 : goal.returns-then-n-eq0
returns-then-n-eq0 c = empty c.args.c c.args.s.now (search rules)

pub returns-then-n-le8 : goal.returns-then-n-le8
returns-then-n-le8 c = let a = c.args in
    let s = a.s.now in
    let k = (length s - 1) % 8 + 1 in
    ap (λ (r : ℕ). bit_xor r (a.c / 2 ^ (4 * k) / 2 ^ (4 * k))) c.last_one.ensures
    ∙ tiny a.c s c.type_inv.s (search rules) (omega arith) (omega arith) _ c.number-w.ensures k (omega arith)

pub returns-then-n-le40 : goal.returns-then-n-le40
returns-then-n-le40 c = let a = c.args in
    let s = a.s.now in
    let k = (length s - 1) % 8 + 1 in
    c.few.ensures
    ∙ longer a.c s c.type_inv.s (search rules) (omega arith) k _ _ (omega arith) (omega arith) (omega arith)
    c.word.ensures c.word-2.ensures

pub returns-else-n-le40 : goal.returns-else-n-le40
returns-else-n-le40 c = let a = c.args in
    let s = a.s.now in
    let k = (length s - 1) % 8 + 1 in
    c.many.ensures
    ∙ longer a.c s c.type_inv.s (search rules) (omega arith) k _ _ (omega arith) (omega arith) (omega arith)
    c.word.ensures c.word-2.ensures
