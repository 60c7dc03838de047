use mathlib.Core.Path.{◌≡◌, refl, sym, subst, ap, ◌∙◌}
use mathlib.Core.List.{List}
use Prim.Native.Nat.{ℕ, ◌-◌, ◌*◌, ◌/◌, ◌^◌, ◌<◌}
use native.Mathlib.Omega.{arith}
use lib.Bits.{bit_xor}
use lib.ListN.{length, drop}
use Rattle.format.specs.Bytes.{num}
use Rattle.words.specs.Words.{mix}
use Rattle.crc.specs.Window.{folds, register, Filled}
use Rattle.crc.proofs.Window.{bytes_of, filled_none, small, fold_start, first, begun, started, first-filled, fold_end}
use borrow.Author.Rules.{rules}
use Rattle.crc.proofs.folded.Goals as goal

pub loop-k-init : goal.loop-k-init
loop-k-init c = let a = c.args in
    let h : a.c < 2 ^ 32 = search rules in
    let e = started a.c (c.copy_from_slice.ensures.after ∙ c.to_le_bytes.ensures) in
    (search rules, refl, subst (Filled 2944) (sym e) (first-filled a.c h), ap (λ (w : List ℕ). register a.s.now w 0 61) e ∙ fold_start a.c a.s.now (first a.c) 61 c.type_inv.s h (begun a.c h))

pub pay-requires-clause-fact_1 : goal.pay-requires-clause-fact_1
pay-requires-clause-fact_1 c = filled_none 579

pub pay-requires-clause-fact_4 : goal.pay-requires-clause-fact_4
pay-requires-clause-fact_4 c = let l = c.loop-k in
    small l.w l.q (bytes_of l.invariant.2) c.clear.ensures.fact_2

pub returns : goal.returns
returns c = let a = c.args in
    let s = a.s.now in
    let l = c.loop-k in
    let k = (length s - 515) / 64 in
    let e : k ≡ l.k = omega arith in
    let p = 64 * k in
    let r = c.pay.new.r in
    let f : Filled 579 r = c.pay.ensures.fact_1 in
    let n : length r ≡ 579 = f.size in
    c.after.ensures
    ∙ fold_end s l.w r p l.q (length s - p) a.c (bytes_of f) (omega arith) refl
    (c.pay.ensures.fact_2 ∙ ap (λ (y : ℕ). bit_xor (mix folds y) (num (drop p s))) c.clear.ensures.fact_2)
    (ap (λ (i : ℕ). register s l.w (64 * i) l.q) e ∙ l.invariant.3)
