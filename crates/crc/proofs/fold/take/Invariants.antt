use mathlib.Core.Path.{◌≡◌}
use Prim.Native.Nat.{◌+◌}
use Rattle.crc.specs.Window.{register, Filled}
use Rattle.crc.proofs.fold.take.Given as goal

abbrev pub invariant-loop-i : goal.invariant-loop-i
invariant-loop-i l = Filled 2944 l.w × (register l.s l.w (l.p + l.i) (l.q + l.i) ≡ register l.s l.initial.w l.p l.q)
