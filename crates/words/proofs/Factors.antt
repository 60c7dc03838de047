-- Sums of shifts whose parts are used several times, shifted again.
-- Assumes nothing.
use mathlib.Core.Path.{◌≡◌, refl, sym, ap, ap₂, ◌∙◌}
use mathlib.Core.List.{List, [], ◌∷◌, ◌++◌}
use Prim.Native.Nat.{ℕ, zero, suc, ◌+◌, ◌*◌, ◌/◌, ◌%◌, ◌^◌}
use native.Mathlib.Nat.{mul_assoc, mul-one, div-one, mod-eq_of_lt}
use lib.Bits.{bit_xor, xor_self, xor_shr, xor_mod}
use lib.Pow.{pow-add, shr-shr}
use Rattle.words.specs.Words.{mix}
use Rattle.words.proofs.Laws.{xor_assoc}
use Rattle.words.proofs.Linear.{shl_xor, shl_linear, at-mod}
use Rattle.words.proofs.Carry.{Word, sum, sum_more}

-- a number, something shifted, a sum of two
pub data Shape : Type 0 where
  it : Shape
  moved : ℕ → Shape → Shape
  both : Shape → Shape → Shape

-- by how much the number is shifted in each part of the sum
abbrev raised : ℕ → List ℕ → List ℕ
raised k [] = []
raised k (p ∷ ps) = (p + k) ∷ raised k ps

abbrev pub places : Shape → List ℕ
places it = 0 ∷ []
places (moved k e) = raised k (places e)
places (both d e) = places d ++ places e

module _ (act : ℕ → ℕ → ℕ) where
  abbrev pub value : Shape → ℕ → ℕ
  value it x = x
  value (moved k e) x = act k (value e x)
  value (both d e) x = bit_xor (value d x) (value e x)

  -- a shift by nothing is not written
  abbrev pub part : ℕ → ℕ → ℕ
  part zero x = x
  part (suc k) x = act (suc k) x

  abbrev pub parts : List ℕ → ℕ → List ℕ
  parts [] x = []
  parts (p ∷ ps) x = part p x ∷ parts ps x

  module _ (act-xor : (a b j : ℕ) → act j (bit_xor a b) ≡ bit_xor (act j a) (act j b)) (act-act : (x i j : ℕ) → act j (act i x) ≡ act (i + j) x)
      (x : ℕ) (act-none : act 0 x ≡ x) where
    part-is : (p : ℕ) → part p x ≡ act p x
    part-is zero = sym act-none
    part-is (suc p) = refl

    act-zero : (k : ℕ) → act k 0 ≡ 0
    act-zero k = act-xor 0 0 k ∙ xor_self (act k 0)

    raise : (k : ℕ) (ps : List ℕ) → act k (sum (parts ps x)) ≡ sum (parts (raised k ps) x)
    raise k [] = act-zero k
    raise k (p ∷ ps) =
        ap (act k) (sum_more (part p x) (parts ps x))
        ∙ act-xor (part p x) (sum (parts ps x)) k
        ∙ ap₂ bit_xor (ap (act k) (part-is p) ∙ act-act x p k ∙ sym (part-is (p + k))) (raise k ps)
        ∙ sym (sum_more (part (p + k) x) (parts (raised k ps) x))

    join : (ps qs : List ℕ) → bit_xor (sum (parts ps x)) (sum (parts qs x)) ≡ sum (parts (ps ++ qs) x)
    join [] qs = refl
    join (p ∷ ps) qs =
        ap (λ (y : ℕ). bit_xor y (sum (parts qs x))) (sum_more (part p x) (parts ps x))
        ∙ xor_assoc (part p x) (sum (parts ps x)) (sum (parts qs x))
        ∙ ap (bit_xor (part p x)) (join ps qs)
        ∙ sym (sum_more (part p x) (parts (ps ++ qs) x))

    flat : (e : Shape) → value e x ≡ sum (parts (places e) x)
    flat it = refl
    flat (moved k e) = ap (act k) (flat e) ∙ raise k (places e)
    flat (both d e) = ap₂ bit_xor (flat d) (flat e) ∙ join (places d) (places e)

-- ---- up, in a machine's word

abbrev pub up : ℕ → ℕ → ℕ
up k x = x * 2 ^ k % 2 ^ 64

up_xor : (a b j : ℕ) → up j (bit_xor a b) ≡ bit_xor (up j a) (up j b)
up_xor a b j = ap (λ (y : ℕ). y % 2 ^ 64) (shl_xor a b j) ∙ xor_mod (a * 2 ^ j) (b * 2 ^ j) 64

up_up : (x i j : ℕ) → up j (up i x) ≡ up (i + j) x
up_up x i j =
    at-mod (λ y. y * 2 ^ j) (shl_linear j) 64 (x * 2 ^ i)
    ∙ ap (λ (y : ℕ). y % 2 ^ 64) (mul_assoc x (2 ^ i) (2 ^ j) ∙ ap (λ (y : ℕ). x * y) (sym (pow-add 2 i j)))

pub flat_up : (e : Shape) (x : ℕ) → Word x → value up e x ≡ sum (parts up (places e) x)
flat_up e x h = flat up up_xor up_up x (ap (λ (y : ℕ). y % 2 ^ 64) (mul-one x) ∙ mod-eq_of_lt h) e

-- ---- down

abbrev pub down : ℕ → ℕ → ℕ
down k x = x / 2 ^ k

pub flat_down : (e : Shape) (x : ℕ) → value down e x ≡ sum (parts down (places e) x)
flat_down e x = flat down xor_shr (λ x i j. shr-shr x i j) x (div-one x) e

pub mix-sum : (ss : List ℕ) (x : ℕ) → mix ss x ≡ sum (parts down ss x)
unfolding mix
mix-sum [] x = refl
mix-sum (zero ∷ ss) x = ap₂ bit_xor (div-one x) (mix-sum ss x) ∙ sym (sum_more x (parts down ss x))
mix-sum (suc s ∷ ss) x = ap (bit_xor (x / 2 ^ suc s)) (mix-sum ss x) ∙ sym (sum_more (x / 2 ^ suc s) (parts down ss x))
