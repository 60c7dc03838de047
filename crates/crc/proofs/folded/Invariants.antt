use mathlib.Core.Path.{◌≡◌}
use Prim.Native.Nat.{◌*◌, ◌%◌, ◌≤◌}
use Rattle.format.specs.Crc.{crc_from}
use Rattle.crc.specs.Window.{register, Filled}
use Rattle.crc.proofs.folded.Given as goal

abbrev pub invariant-loop-k : goal.invariant-loop-k
invariant-loop-k l = (l.q ≤ 2109) × (l.q % 64 ≡ 61) × Filled 2944 l.w × (register l.s l.w (64 * l.k) l.q ≡ crc_from l.c l.s)
