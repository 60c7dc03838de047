use mathlib.Core.Path.{ap}
use Prim.Native.Nat.{ℕ, ◌-◌, ◌^◌}
use Rattle.format.specs.Crc.{crc32}
use Rattle.crc.proofs.checksum.Goals as goal

pub returns : goal.returns
unfolding crc32
returns c = ap (λ (r : ℕ). (2 ^ 32 - 1) - r) c.more.ensures
