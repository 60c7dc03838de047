use mathlib.Core.Path.{◌≡◌, refl, sym, ap, ◌∙◌}
use Prim.Native.Nat.{◌+◌, ◌-◌}
use native.Mathlib.Omega.{arith}
use lib.Bits.{bit_xor}
use lib.ListN.{length, get_or}
use Rattle.format.specs.Bytes.{field_at}
use Rattle.crc.specs.Window.{fallen, Filled}
use Rattle.crc.proofs.Window.{bytes_of, filled-set, taken_below, pay_turn, pay_start, pay_end}
use borrow.Author.Rules.{rules}
use Rattle.crc.proofs.fold.pay.Goals as goal

pub loop-i-init : goal.loop-i-init
loop-i-init c = let a = c.args in
    (search rules, pay_start a.s.now a.w.now a.r.now a.p a.q)

pub loop-i-preserved : goal.loop-i-preserved
loop-i-preserved c = let a = c.args in
    let l = c.loop-i in
    let s = a.s.now in
    let w = a.w.now in
    let bs = c.type_inv.s in
    let f : Filled 579 l.r = l.invariant.0 in
    let n : length l.r ≡ 579 = f.size in
    let g : Filled 2944 w = search rules in
    let m : length w ≡ 2944 = g.size in
    let k = a.q + l.i in
    let x = bit_xor (fallen w k) (get_or s (a.p + l.i) 0) in (
      filled-set l.r l.i x f (taken_below s w (a.p + l.i) k bs (bytes_of g)),
      pay_turn s w l.r a.p a.q l.i x bs (bytes_of g) (omega arith) (omega arith) (omega arith) refl
          ∙ l.invariant.1,
    )

pub returns-clause-fact_2 : goal.returns-clause-fact_2
returns-clause-fact_2 c = let a = c.args in
    let l = c.loop-i in
    let s = a.s.now in
    let w = a.w.now in
    let g : Filled 2944 w = search rules in
    let m : length w ≡ 2944 = g.size in
    let e : l.i ≡ length s - a.p = omega arith in
    ap (field_at l.r 0) (sym e)
    ∙ pay_end s w l.r a.p a.q l.i (bytes_of g) (search rules) (omega arith) (omega arith) (omega arith) l.invariant.1
