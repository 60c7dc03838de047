-- Laws of numbers of whole bytes, over the width.
-- Assumes nothing.
use mathlib.Core.Path.{◌≡◌, refl, sym, ap, ◌∙◌}
use mathlib.Core.List.{List, [], ◌∷◌, ◌++◌}
use Prim.Native.Nat.{ℕ, zero, suc, ◌+◌, ◌-◌, ◌*◌, ◌/◌, ◌%◌, ◌^◌, ◌≤◌, ◌<◌}
use native.Mathlib.Nat.{lt_of_lt_of_le, mul-suc, add-zero, zero-add, add-suc, suc-add, mod-eq_of_lt, one-mul, mul_assoc}
use native.Mathlib.Numerals.{add-one}
use native.Mathlib.Omega.{arith}
use mir.Syntax.{w8, w64}
use mir.Val.{Fits, to_z, of_z}
use mir.ValLaws.{to_z_pos, to_z-of_z}
use mir.Facts.{Fits-lit}
use lib.IntN.{pos, negsuc, ◌-ℤ◌}
use borrow.Author.Tests.{lt-ltb, le-ltb}
use lib.Arith.{digits_lt}
use lib.Dec.{lit<}
use lib.ListN.{length, get_or, take, drop, length-take, length-drop}
use lib.Pow.{pow-add, pow_mono, pow_pos, high, low}
use lib.Seq.{drop-cons, take-suc, get_or-drop}
use Rattle.format.specs.Bytes.{num, big_from, num_big, field_at, big_at}
use Rattle.format.specs.Values.{signed}

-- every element is a byte
abbrev pub Bytes : List ℕ → Type 0
Bytes s = (i : ℕ) → Fits w8 (get_or s i 0)

pub bytes_drop : (n : ℕ) (s : List ℕ) → Bytes s → Bytes (drop n s)
bytes_drop n s h i = rw get_or-drop (h (n + i))

pub bytes_take : (n : ℕ) (s : List ℕ) → Bytes s → Bytes (take n s)
bytes_take zero s h i = Fits-lit tt
bytes_take (suc n) [] h i = Fits-lit tt
bytes_take (suc n) (x ∷ xs) h zero = h 0
bytes_take (suc n) (x ∷ xs) h (suc i) = bytes_take n xs (λ j. h (suc j)) i

-- one byte more at the low end
pub field_more : (s : List ℕ) (p k : ℕ) → p < length s → field_at s p (suc k) ≡ field_at s (suc p) k * 256 + get_or s p 0
unfolding field_at num
field_more s p k h = rw (drop-cons s p 0 h)

eight : (k : ℕ) → 2 ^ (8 * suc k) ≡ 2 ^ (8 * k) * 256
eight k = ap (λ (n : ℕ). 2 ^ n) (mul-suc 8 k) ∙ pow-add 2 (8 * k) 8

-- n bytes make a number below 2 ^ (8 n)
pub num-below : (bs : List ℕ) → Bytes bs → num bs < 2 ^ (8 * length bs)
unfolding num
num-below [] h = lit< tt
num-below (b ∷ bs) h = rw (eight (length bs)) (digits_lt (num-below bs (λ i. h (suc i))) (h 0).fits)

-- so do the bytes of a part, however many are there
pub field_below : (s : List ℕ) (p k m : ℕ) → Bytes s → k ≤ m → field_at s p k < 2 ^ (8 * m)
unfolding field_at
field_below s p k m h e =
    lt_of_lt_of_le (num-below (take k (drop p s)) (bytes_take k (drop p s) (bytes_drop p s h)))
    (pow_mono (omega (arith, length-take k (drop p s))))

big_from_append : (acc : ℕ) (bs : List ℕ) (b : ℕ) → big_from acc (bs ++ (b ∷ [])) ≡ big_from acc bs * 256 + b
unfolding big_from
big_from_append acc [] b = refl
big_from_append acc (x ∷ bs) b = big_from_append (acc * 256 + x) bs b

-- a turn of the loop that goes up
pub big_turn : (s : List ℕ) (at i : ℕ) → at + i < length s → big_at s at i * 256 + get_or s (at + i) 0 ≡ big_at s at (i + 1)
unfolding big_at num_big
big_turn s at i h =
    let h' : i < length (drop at s) = omega (arith, length-drop at s) in
    rw (add-one, take-suc (drop at s) i 0 h', big_from_append, get_or-drop)

-- the loop over the bytes of a part
pub big_start : (s : List ℕ) (at : ℕ) → 0 ≡ big_at s at 0
unfolding big_at num_big big_from
big_start s at = refl

big_below_from : (acc j : ℕ) (bs : List ℕ) → Bytes bs → acc < 2 ^ (8 * j) → big_from acc bs < 2 ^ (8 * (j + length bs))
unfolding big_from
big_below_from acc j [] h e = rw add-zero e
big_below_from acc j (b ∷ bs) h e =
    rw (add-suc, ← suc-add) (big_below_from (acc * 256 + b) (suc j) bs (λ i. h (suc i)) (rw (eight j) (digits_lt e (h 0).fits)))

pub big_below_at : (s : List ℕ) (p k m : ℕ) → Bytes s → k ≤ m → big_at s p k < 2 ^ (8 * m)
unfolding big_at num_big
big_below_at s p k m h e =
    lt_of_lt_of_le (big_below_from 0 0 (take k (drop p s)) (bytes_take k (drop p s) (bytes_drop p s h)) (lit< tt))
    (pow_mono (omega (arith, length-take k (drop p s))))

-- ---- numbers side by side

-- the highest k of some bytes, the lowest first
pub field_split : (s : List ℕ) (p j k : ℕ) → p + (j + k) ≤ length s → field_at s p (j + k) ≡ field_at s (p + j) k * 2 ^ (8 * j) + field_at s p j
unfolding field_at num
field_split s p zero k h = let a : field_at s p (0 + k) ≡ field_at s p k = ap (field_at s p) (zero-add k) in let b : field_at s (p + 0) k ≡ field_at s p k = ap (λ (x : ℕ). field_at s x k) (add-zero p) in let c : field_at s p 0 ≡ 0 = refl in omega arith
field_split s p (suc j) k h =
    let q : suc p + j ≡ p + suc j = omega arith in
    let i : field_at s (suc p) (j + k) ≡ field_at s (p + suc j) k * 2 ^ (8 * j) + field_at s (suc p) j = field_split s (suc p) j k (omega arith) ∙ ap (λ (x : ℕ). field_at s x k * 2 ^ (8 * j) + field_at s (suc p) j) q in
    let a : field_at s p (suc j + k) ≡ field_at s (suc p) (j + k) * 256 + get_or s p 0 = ap (field_at s p) (suc-add j k) ∙ field_more s p (j + k) (omega arith) in
    let b : field_at s p (suc j) ≡ field_at s (suc p) j * 256 + get_or s p 0 = field_more s p j (omega arith) in
    let e : field_at s (p + suc j) k * 2 ^ (8 * suc j) ≡ field_at s (p + suc j) k * 2 ^ (8 * j) * 256 = ap (λ (x : ℕ). field_at s (p + suc j) k * x) (eight j) ∙ sym (mul_assoc (field_at s (p + suc j) k) (2 ^ (8 * j)) 256) in
    omega arith

pub field_last : (s : List ℕ) (p j k : ℕ) → Bytes s → p + (j + k) ≤ length s → field_at s p (j + k) / 2 ^ (8 * j) ≡ field_at s (p + j) k
field_last s p j k b h = rw (field_split s p j k h) (high (field_at s (p + j) k) (8 * j) (field_below s p j j b (omega arith)))

-- some bytes, the highest first, before k others
pub big_split : (s : List ℕ) (p j k : ℕ) → p + (j + k) ≤ length s → big_at s p (j + k) ≡ big_at s p j * 2 ^ (8 * k) + big_at s (p + j) k
unfolding big_at num_big big_from
big_split s p j zero h = let a : big_at s p (j + 0) ≡ big_at s p j = ap (big_at s p) (add-zero j) in let b : big_at s (p + j) 0 ≡ 0 = refl in omega arith
big_split s p j (suc k) h =
    let i = big_split s p j k (omega arith) in
    let a : big_at s p (j + k) * 256 + get_or s (p + (j + k)) 0 ≡ big_at s p (j + suc k) = big_turn s p (j + k) (omega arith) ∙ ap (big_at s p) (let z : j + k + 1 ≡ j + suc k = omega arith in z) in
    let b : big_at s (p + j) k * 256 + get_or s (p + j + k) 0 ≡ big_at s (p + j) (suc k) = big_turn s (p + j) k (omega arith) ∙ ap (big_at s (p + j)) (add-one k) in
    let q : p + (j + k) ≡ p + j + k = omega arith in
    let g : get_or s (p + (j + k)) 0 ≡ get_or s (p + j + k) 0 = ap (λ (x : ℕ). get_or s x 0) q in
    let e : big_at s p j * 2 ^ (8 * suc k) ≡ big_at s p j * 2 ^ (8 * k) * 256 = ap (λ (x : ℕ). big_at s p j * x) (eight k) ∙ sym (mul_assoc (big_at s p j) (2 ^ (8 * k)) 256) in
    omega arith

-- k bytes before the last l
pub big_part : (s : List ℕ) (p j k l : ℕ) → Bytes s → p + (j + k + l) ≤ length s → big_at s p (j + k + l) / 2 ^ (8 * l) % 2 ^ (8 * k) ≡ big_at s (p + j) k
big_part s p j k l b h =
    let z : p + (j + k) ≤ length s = omega arith in
    rw (big_split s p (j + k) l h, high (big_at s p (j + k)) (8 * l) (big_below_at s (p + (j + k)) l l b (omega arith)), big_split s p j k z)
    (low (big_at s p j) (8 * k) (big_below_at s (p + j) k k b (omega arith)))

-- ---- two's complement

-- what the code computes as half of the range of n bytes
abbrev pub half : ℕ → ℕ
half n = (1 * 2 ^ (8 * n - 1)) % 2 ^ 64

-- that is half of the range, and no more than 2 ^ 63
pub record Half (n : ℕ) : Type 0 where
  pub is : half n ≡ 2 ^ (8 * n - 1)
  pub twice : half n * 2 ≡ 2 ^ (8 * n)
  pub some : 1 ≤ half n
  pub most : half n ≤ 2 ^ 63

pub half_of : (n : ℕ) → 1 ≤ n → n ≤ 8 → Half n
half_of n h₁ h₈ =
    let m : 2 ^ (8 * n - 1) ≤ 2 ^ 63 = pow_mono {j = 63} (omega arith) in
    let e : half n ≡ 2 ^ (8 * n - 1) = rw one-mul (mod-eq_of_lt (omega arith)) in
    let s : 8 * n ≡ (8 * n - 1) + 1 = omega arith in
    record {
      is = e;
      twice = ap (λ (x : ℕ). x * 2) e ∙ sym (pow-add 2 (8 * n - 1) 1) ∙ ap (λ (x : ℕ). 2 ^ x) (sym s);
      some = omega (arith, pow_pos (8 * n - 1));
      most = omega arith;
    }

minus_one : (k : ℕ) → negsuc 0 -ℤ pos k ≡ negsuc k
minus_one zero = refl
minus_one (suc k) = rw zero-add

-- -1 less k, as the machine computes it
pub below-zero : (k : ℕ) → k < 2 ^ 63 → negsuc 0 -ℤ to_z w64 k ≡ negsuc k
below-zero k h = rw (to_z_pos w64 k h) (minus_one k)

pub signed-pos : (n v : ℕ) → Half n → v < half n → to_z w64 v ≡ signed n v
unfolding signed
signed-pos n v f h =
    let h' : v < 2 ^ (8 * n - 1) = omega arith in
    rw (lt-ltb v (2 ^ (8 * n - 1)) h') (to_z_pos w64 v (omega arith))

pub signed_neg : (n v k : ℕ) → Half n → half n ≤ v → v < 2 ^ (8 * n) → k ≡ (half n - 1) - (v - half n)
    → to_z w64 (of_z w64 (negsuc 0 -ℤ to_z w64 k)) ≡ signed n v
unfolding signed
signed_neg n v k f h hv e =
    let h' : 2 ^ (8 * n - 1) ≤ v = omega arith in
    let b : k < 2 ^ 63 = omega arith in
    let e' : k ≡ 2 ^ (8 * n) - v - 1 = omega arith in
    rw (below-zero k b, to_z-of_z w64 (negsuc k) (record { sfits = b }), le-ltb v (2 ^ (8 * n - 1)) h') (ap negsuc e')
