use mathlib.Core.Path.{◌≡◌}
use Prim.Native.Nat.{◌+◌, ◌-◌}
use Rattle.format.specs.Columns.{count, bits, bits_from}
use Rattle.wire.proofs.any_bit.Given as goal

abbrev pub invariant-loop-i : goal.invariant-loop-i
invariant-loop-i l = 0 + count (bits_from l.i (l.n - l.i) l.s) ≡ count (bits l.n l.s)
