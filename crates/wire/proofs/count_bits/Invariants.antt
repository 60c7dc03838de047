use Rattle.format.specs.Columns.{count, bits, bits_from}
use Prim.Native.Nat.{◌+◌, ◌-◌, ◌≤◌}
use mathlib.Core.Path.{◌≡◌}
use Rattle.wire.proofs.count_bits.Given as goal

abbrev pub invariant-loop-i : goal.invariant-loop-i
invariant-loop-i l = (l.k ≤ l.i) × (l.k + count (bits_from l.i (l.n - l.i) l.s) ≡ count (bits l.n l.s))
