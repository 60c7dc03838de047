use mathlib.Core.Path.{◌≡◌}
use Prim.Native.Nat.{◌+◌, ◌*◌, ◌^◌}
use Rattle.format.specs.Bytes.{field_at}
use Rattle.crc.specs.Window.{Filled}
use Rattle.crc.proofs.Window.{Left}
use Rattle.crc.proofs.fold.pay.Given as goal

abbrev pub invariant-loop-i : goal.invariant-loop-i
invariant-loop-i l = Filled 579 l.r × (Left l.s l.w (l.p + l.i) (l.q + l.i) * 2 ^ (8 * l.i) + field_at l.r 0 l.i ≡ Left l.s l.w l.p l.q)
