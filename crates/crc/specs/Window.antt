-- A window of bytes, each carried into bytes that follow it.
use Rattle.std.specs.Prelude.{◌≡◌, ℕ, ◌+◌, ◌-◌, ◌*◌, ◌<◌, List, [], ◌∷◌, length, get_or, drop}
use Rattle.std.specs.Int.Bits.{bit_xor}
use Rattle.format.specs.Bytes.{num, field_at}
use Rattle.format.specs.Crc.{bit_steps}
use Rattle.words.specs.Words.{mix}

-- 1 + x^(8 * 281) + x^(8 * 285) + x^(8 * 344) + x^(8 * 515) is a multiple too: 8 times 515 less these
abbrev pub folds : List ℕ
folds = 0 ∷ 1368 ∷ 1840 ∷ 1872 ∷ []

-- what the 515 bytes of w from q owe to the bytes after them
abbrev pub owed : List ℕ → ℕ → ℕ
owed w q = mix folds (field_at w q 515)

-- the byte that falls on the one after them
abbrev pub fallen : List ℕ → ℕ → ℕ
fallen w q = bit_xor (get_or w q 0) (bit_xor (get_or w (q + 171) 0) (bit_xor (get_or w (q + 230) 0) (get_or w (q + 234) 0)))

-- an array of n bytes
pub record Filled (n : ℕ) (w : List ℕ) : Type 0 where
  pub size : length w ≡ n
  pub each : (i : ℕ) → get_or w i 0 < 256

-- the register that the bytes of s from p leave, after the 515 of w from q
abbrev pub register : List ℕ → List ℕ → ℕ → ℕ → ℕ
register s w p q = bit_steps (8 * (length s - p)) (bit_xor (owed w q) (num (drop p s)))
