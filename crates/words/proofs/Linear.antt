-- Maps that are linear over xor and commute with a shift, as the product by a constant polynomial is.
-- Assumes nothing.
use mathlib.Core.Path.{◌≡◌, refl, sym, ap, ap₂, ◌∙◌}
use Prim.Native.Nat.{ℕ, zero, suc, ◌+◌, ◌-◌, ◌*◌, ◌/◌, ◌%◌, ◌^◌, ◌≤◌, ◌<◌}
use native.Mathlib.Nat.{mod-lt, mul-one, mul_assoc, mul_comm, pow-suc, add-zero, mul-mod_left, not-suc-le-zero, le_of_suc-le-suc}
use native.Mathlib.Numerals.{add-one}
use native.Mathlib.Omega.{arith}
use lib.Arith.{lt-one}
use lib.Bits.{bit_xor, xor_block, xor_self, xor_zero_r, xor_mod}
use lib.Dec.{lit<}
use lib.Pow.{pow_pos, shr_lt}
use Rattle.format.specs.Crc.{bit_step, bit_steps}
use Rattle.words.proofs.Laws.{xor_assoc, xor_swap, split_xor, steps_xor, steps_shifted, steps-add}

pub record Linear (f : ℕ → ℕ) : Type 0 where
  pub add : (a b : ℕ) → f (bit_xor a b) ≡ bit_xor (f a) (f b)
  pub dbl : (a : ℕ) → f (a * 2) ≡ f a * 2

-- a shift up passes through xor
pub shl_xor : (a b k : ℕ) → bit_xor a b * 2 ^ k ≡ bit_xor (a * 2 ^ k) (b * 2 ^ k)
shl_xor a b k =
    sym (add-zero (bit_xor a b * 2 ^ k))
    ∙ sym (xor_block k a b 0 0 (pow_pos k) (pow_pos k))
    ∙ ap₂ bit_xor (add-zero (a * 2 ^ k)) (add-zero (b * 2 ^ k))

pub id_linear : Linear (λ x. x)
id_linear = record { add = λ a b. refl; dbl = λ a. refl }

pub xor_linear : (f g : ℕ → ℕ) → Linear f → Linear g → Linear (λ x. bit_xor (f x) (g x))
xor_linear f g p q = record {
  add = λ a b. ap₂ bit_xor (p.add a b) (q.add a b) ∙ xor_swap (f a) (f b) (g a) (g b);
  dbl = λ a. ap₂ bit_xor (p.dbl a) (q.dbl a) ∙ sym (shl_xor (f a) (g a) 1);
}

pub comp_linear : (f g : ℕ → ℕ) → Linear f → Linear g → Linear (λ x. f (g x))
comp_linear f g p q = record {
  add = λ a b. ap f (q.add a b) ∙ p.add (g a) (g b);
  dbl = λ a. ap f (q.dbl a) ∙ p.dbl (g a);
}

pub shl_linear : (k : ℕ) → Linear (λ x. x * 2 ^ k)
shl_linear k = record {
  add = λ a b. shl_xor a b k;
  dbl = λ a. mul_assoc a 2 (2 ^ k) ∙ ap (λ (x : ℕ). a * x) (mul_comm 2 (2 ^ k)) ∙ sym (mul_assoc a (2 ^ k) 2);
}

pub steps-zero : (n : ℕ) → bit_steps n 0 ≡ 0
unfolding bit_steps bit_step
steps-zero zero = refl
steps-zero (suc n) = steps-zero n

even_step : (n a : ℕ) → bit_steps (suc n) (a * 2) ≡ bit_steps n a
unfolding bit_steps
even_step n a = ap (bit_steps n) (steps_shifted 1 a)

pub xor_equal : (a b : ℕ) → bit_xor a b ≡ 0 → a ≡ b
xor_equal a b e =
    sym (xor_zero_r a) ∙ ap (bit_xor a) (sym (xor_self b)) ∙ sym (xor_assoc a b b) ∙ ap (λ (x : ℕ). bit_xor x b) e

module _ (f : ℕ → ℕ) (l : Linear f) where
  pub at_zero : f 0 ≡ 0
  at_zero = l.add 0 0 ∙ xor_self (f 0)

  -- a shift by any number of bits
  pub at-shl : (k a : ℕ) → f (a * 2 ^ k) ≡ f a * 2 ^ k
  at-shl zero a = ap f (mul-one a) ∙ sym (mul-one (f a))
  at-shl (suc k) a =
      ap f (ap (λ (x : ℕ). a * x) (pow-suc 2 k) ∙ sym (mul_assoc a (2 ^ k) 2))
      ∙ l.dbl (a * 2 ^ k)
      ∙ ap (λ (x : ℕ). x * 2) (at-shl k a)
      ∙ mul_assoc (f a) (2 ^ k) 2
      ∙ ap (λ (x : ℕ). f a * x) (sym (pow-suc 2 k))

  -- the low bit apart
  at-bit : (x : ℕ) → f x ≡ bit_xor (f (x / 2) * 2) (f (x % 2))
  at-bit x = ap f (split_xor 1 x) ∙ l.add (x / 2 * 2) (x % 2) ∙ ap (λ (y : ℕ). bit_xor y (f (x % 2))) (l.dbl (x / 2))

  bit-gone : (K N : ℕ) → bit_steps (suc K) (f 1) ≡ 0 → suc K ≤ N → (r : ℕ) → r < 2 → bit_steps N (f r) ≡ 0
  bit-gone K N e h zero hr = ap (bit_steps N) at_zero ∙ steps-zero N
  bit-gone K N e h (suc zero) hr =
      let n : N ≡ suc K + (N - suc K) = omega arith in
      rw n (steps-add (suc K) (N - suc K) (f 1) ∙ ap (bit_steps (N - suc K)) e ∙ steps-zero (N - suc K))
  bit-gone K N e h (suc (suc r)) hr = absurd (not-suc-le-zero (le_of_suc-le-suc (le_of_suc-le-suc hr)))

  -- where f 1 is gone after some steps, so is f x after as many and the bits of x
  pub vanish : (K : ℕ) → bit_steps (suc K) (f 1) ≡ 0 → (w x N : ℕ) → x < 2 ^ w → K + w ≤ N → bit_steps N (f x) ≡ 0
  vanish K e zero x N hx h = ap (λ (y : ℕ). bit_steps N (f y)) (lt-one hx) ∙ ap (bit_steps N) at_zero ∙ steps-zero N
  vanish K e (suc w) x zero hx h = absurd (omega arith)
  vanish K e (suc w) x (suc N) hx h =
      ap (bit_steps (suc N)) (at-bit x)
      ∙ steps_xor (suc N) (f (x / 2) * 2) (f (x % 2))
      ∙ ap₂ bit_xor
      (even_step N (f (x / 2)) ∙ vanish K e w (x / 2) N (shr_lt w 1 (rw add-one hx)) (omega arith))
      (bit-gone K (suc N) e (omega arith) (x % 2) (mod-lt x (lit< tt)))

  -- the low bits of f x depend on those of x alone
  pub at-mod : (k x : ℕ) → f (x % 2 ^ k) % 2 ^ k ≡ f x % 2 ^ k
  at-mod k x =
      sym (ap (λ (y : ℕ). f y % 2 ^ k) (split_xor k x)
      ∙ ap (λ (y : ℕ). y % 2 ^ k) (l.add (x / 2 ^ k * 2 ^ k) (x % 2 ^ k) ∙ ap (λ (y : ℕ). bit_xor y (f (x % 2 ^ k))) (at-shl k (x / 2 ^ k)))
      ∙ xor_mod (f (x / 2 ^ k) * 2 ^ k) (f (x % 2 ^ k)) k
      ∙ ap (λ (y : ℕ). bit_xor y (f (x % 2 ^ k) % 2 ^ k)) (mul-mod_left (f (x / 2 ^ k)) (2 ^ k)))

  bit_kept : f 1 % 2 ^ 64 ≡ 1 → (r : ℕ) → r < 2 → f r % 2 ^ 64 ≡ r % 2 ^ 64
  bit_kept e zero hr = ap (λ (y : ℕ). y % 2 ^ 64) at_zero
  bit_kept e (suc zero) hr = e
  bit_kept e (suc (suc r)) hr = absurd (not-suc-le-zero (le_of_suc-le-suc (le_of_suc-le-suc hr)))

  -- where f 1 is 1 but for high bits, so is f x x
  pub kept : f 1 % 2 ^ 64 ≡ 1 → (w x : ℕ) → x < 2 ^ w → f x % 2 ^ 64 ≡ x % 2 ^ 64
  kept e zero x hx = ap (λ (y : ℕ). f y % 2 ^ 64) (lt-one hx) ∙ ap (λ (y : ℕ). y % 2 ^ 64) (at_zero ∙ sym (lt-one hx))
  kept e (suc w) x hx =
      let i : f (x / 2) % 2 ^ 64 ≡ x / 2 % 2 ^ 64 = kept e w (x / 2) (shr_lt w 1 (rw add-one hx)) in
      let d : f (x / 2) * 2 % 2 ^ 64 ≡ x / 2 * 2 % 2 ^ 64 = omega arith in
      ap (λ (y : ℕ). y % 2 ^ 64) (at-bit x)
      ∙ xor_mod (f (x / 2) * 2) (f (x % 2)) 64
      ∙ ap₂ bit_xor d (bit_kept e (x % 2) (mod-lt x (lit< tt)))
      ∙ sym (xor_mod (x / 2 * 2) (x % 2) 64)
      ∙ ap (λ (y : ℕ). y % 2 ^ 64) (sym (split_xor 1 x))
