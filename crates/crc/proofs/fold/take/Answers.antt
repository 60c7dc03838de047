use mathlib.Core.Path.{◌≡◌, refl, ◌∙◌}
use Prim.Native.Nat.{◌+◌}
use native.Mathlib.Omega.{arith}
use lib.Bits.{bit_xor}
use lib.ListN.{length, get_or}
use Rattle.crc.specs.Window.{fallen, Filled}
use Rattle.crc.proofs.Window.{bytes_of, filled-set, taken_below, fold_turn}
use Rattle.crc.proofs.fold.take.Goals as goal

pub loop-i-preserved : goal.loop-i-preserved
loop-i-preserved c = let a = c.args in
    let l = c.loop-i in
    let s = a.s.now in
    let bs = c.type_inv.s in
    let f : Filled 2944 l.w = l.invariant.0 in
    let n : length l.w ≡ 2944 = f.size in
    let k = a.q + l.i in
    let x = bit_xor (fallen l.w k) (get_or s (a.p + l.i) 0) in (
      filled-set l.w (k + 515) x f (taken_below s l.w (a.p + l.i) k bs (bytes_of f)),
      fold_turn s l.w (a.p + l.i) k (a.p + (l.i + 1)) (a.q + (l.i + 1)) x bs (bytes_of f) (omega arith) (omega arith) (omega arith) (omega arith) refl
          ∙ l.invariant.1,
    )
