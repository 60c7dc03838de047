-- The checksum of the nine bytes 1 to 9.
-- Assumes nothing.
use mathlib.Core.Path.{◌≡◌, refl}
use mathlib.Core.List.{[], ◌∷◌}
use Rattle.format.specs.Crc.{bit_step, bit_steps, crc_from, crc32}

pub nine : crc32 (49 ∷ 50 ∷ 51 ∷ 52 ∷ 53 ∷ 54 ∷ 55 ∷ 56 ∷ 57 ∷ []) ≡ 0xCBF43926
unfolding bit_step bit_steps crc_from crc32
nine = refl
