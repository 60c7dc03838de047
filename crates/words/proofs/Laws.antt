-- Laws of the CRC's bit steps: they are linear over xor, and undo a shift.
-- Assumes nothing.
use mathlib.Core.Path.{◌≡◌, refl, sym, ap, ap₂, ◌∙◌}
use mathlib.Core.Bool.{cond}
use Prim.Native.Nat.{ℕ, zero, suc, ◌+◌, ◌*◌, ◌/◌, ◌%◌, ◌^◌, ◌<◌}
use native.Mathlib.Nat.{mod-lt, le_of_suc-le-suc, not-suc-le-zero, mul-one, zero-add, suc-add}
use native.Mathlib.Omega.{arith}
use lib.Arith.{bin_ind, digits_mod}
use lib.Bits.{bit_xor, differ, xor_step, xor_shr, xor_comm, xor_self, xor_zero_r, xor_shifted, shifted_half, shifted_even}
use lib.Dec.{eqb, lit<}
use lib.Pow.{split, pow_pos}
use Rattle.format.specs.Crc.{bit_step, bit_steps}

-- ---- xor is associative

differ_assoc : (x y z : ℕ) → x < 2 → y < 2 → z < 2 → differ (differ x y) z ≡ differ x (differ y z)
differ_assoc zero y z hx hy hz = refl
differ_assoc (suc zero) zero z hx hy hz = refl
differ_assoc (suc zero) (suc zero) zero hx hy hz = refl
differ_assoc (suc zero) (suc zero) (suc zero) hx hy hz = refl
differ_assoc (suc zero) (suc zero) (suc (suc z)) hx hy hz = absurd (not-suc-le-zero (le_of_suc-le-suc (le_of_suc-le-suc hz)))
differ_assoc (suc zero) (suc (suc y)) z hx hy hz = absurd (not-suc-le-zero (le_of_suc-le-suc (le_of_suc-le-suc hy)))
differ_assoc (suc (suc x)) y z hx hy hz = absurd (not-suc-le-zero (le_of_suc-le-suc (le_of_suc-le-suc hx)))

differ_lt : (x y : ℕ) → x < 2 → y < 2 → differ x y < 2
differ_lt zero y hx hy = hy
differ_lt (suc x) zero hx hy = hx
differ_lt (suc x) (suc y) hx hy = differ_lt x y (omega arith) (omega arith)

low : (a : ℕ) → a % 2 < 2
low a = mod-lt a (lit< tt)

xor_half : (a b : ℕ) → bit_xor a b / 2 ≡ bit_xor (a / 2) (b / 2)
xor_half a b = xor_shr a b 1

xor_odd : (a b : ℕ) → bit_xor a b % 2 ≡ differ (a % 2) (b % 2)
xor_odd a b = ap (λ (x : ℕ). x % 2) (xor_step a b) ∙ digits_mod (bit_xor (a / 2) (b / 2)) (differ_lt (a % 2) (b % 2) (low a) (low b))

pub xor_assoc : (a b c : ℕ) → bit_xor (bit_xor a b) c ≡ bit_xor a (bit_xor b c)
xor_assoc a =
    bin_ind (λ (n : ℕ). (b c : ℕ) → bit_xor (bit_xor n b) c ≡ bit_xor n (bit_xor b c)) (λ b c. refl)
    (λ n ih b c.
    xor_step (bit_xor n b) c
    ∙ ap₂ (λ (x y : ℕ). bit_xor x (c / 2) * 2 + differ y (c % 2)) (xor_half n b) (xor_odd n b)
    ∙ ap₂ (λ (x y : ℕ). x * 2 + y) (ih (b / 2) (c / 2)) (differ_assoc (n % 2) (b % 2) (c % 2) (low n) (low b) (low c))
    ∙ sym (ap₂ (λ (x y : ℕ). bit_xor (n / 2) x * 2 + differ (n % 2) y) (xor_half b c) (xor_odd b c))
    ∙ sym (xor_step n (bit_xor b c)))
    a

-- the middle two change places
pub xor_swap : (a b c d : ℕ) → bit_xor (bit_xor a b) (bit_xor c d) ≡ bit_xor (bit_xor a c) (bit_xor b d)
xor_swap a b c d =
    xor_assoc a b (bit_xor c d)
    ∙ ap (bit_xor a) (sym (xor_assoc b c d) ∙ ap (λ (x : ℕ). bit_xor x d) (xor_comm b c) ∙ xor_assoc c b d)
    ∙ sym (xor_assoc a c (bit_xor b d))

-- ---- the steps are linear

poly : ℕ → ℕ
poly r = cond (eqb r 1) 0xEDB88320 0

poly_xor : (x y : ℕ) → x < 2 → y < 2 → poly (differ x y) ≡ bit_xor (poly x) (poly y)
unfolding poly
poly_xor zero zero hx hy = refl
poly_xor zero (suc y) hx hy = refl
poly_xor (suc zero) zero hx hy = sym (xor_zero_r 0xEDB88320)
poly_xor (suc zero) (suc zero) hx hy = sym (xor_self 0xEDB88320)
poly_xor (suc zero) (suc (suc y)) hx hy = absurd (not-suc-le-zero (le_of_suc-le-suc (le_of_suc-le-suc hy)))
poly_xor (suc (suc x)) y hx hy = absurd (not-suc-le-zero (le_of_suc-le-suc (le_of_suc-le-suc hx)))

step_is : (c : ℕ) → bit_step c ≡ bit_xor (c / 2) (poly (c % 2))
unfolding bit_step poly
step_is c = refl

step_xor : (x y : ℕ) → bit_step (bit_xor x y) ≡ bit_xor (bit_step x) (bit_step y)
step_xor x y =
    step_is (bit_xor x y)
    ∙ ap₂ (λ (p q : ℕ). bit_xor p (poly q)) (xor_half x y) (xor_odd x y)
    ∙ ap (bit_xor (bit_xor (x / 2) (y / 2))) (poly_xor (x % 2) (y % 2) (low x) (low y))
    ∙ xor_swap (x / 2) (y / 2) (poly (x % 2)) (poly (y % 2))
    ∙ sym (ap₂ bit_xor (step_is x) (step_is y))

pub steps_xor : (n x y : ℕ) → bit_steps n (bit_xor x y) ≡ bit_xor (bit_steps n x) (bit_steps n y)
unfolding bit_steps
steps_xor zero x y = refl
steps_xor (suc n) x y = ap (bit_steps n) (step_xor x y) ∙ steps_xor n (bit_step x) (bit_step y)

-- ---- n steps undo a shift by n

step_even : (a k : ℕ) → bit_step (a * 2 ^ suc k) ≡ a * 2 ^ k
unfolding poly
step_even a k =
    step_is (a * 2 ^ suc k)
    ∙ ap₂ (λ (p q : ℕ). bit_xor p (poly q)) (shifted_half a k) (shifted_even a k)
    ∙ xor_zero_r (a * 2 ^ k)

pub steps_shifted : (n a : ℕ) → bit_steps n (a * 2 ^ n) ≡ a
unfolding bit_steps
steps_shifted zero a = mul-one a
steps_shifted (suc n) a = ap (bit_steps n) (step_even a n) ∙ steps_shifted n a

pub steps-add : (m n c : ℕ) → bit_steps (m + n) c ≡ bit_steps n (bit_steps m c)
unfolding bit_steps
steps-add zero n c = ap (λ (k : ℕ). bit_steps k c) (zero-add n)
steps-add (suc m) n c = ap (λ (k : ℕ). bit_steps k c) (suc-add m n) ∙ steps-add m n (bit_step c)

-- a number is its high part and its w low bits
pub split_xor : (w x : ℕ) → x ≡ bit_xor (x / 2 ^ w * 2 ^ w) (x % 2 ^ w)
split_xor w x = sym (split x w) ∙ sym (xor_shifted (x / 2 ^ w) w (x % 2 ^ w) (mod-lt x (pow_pos w)))

-- w + n steps: those of the w low bits, and n of what is above them
pub steps_split : (w n x : ℕ) → bit_steps (w + n) x ≡ bit_xor (bit_steps n (x / 2 ^ w)) (bit_steps (w + n) (x % 2 ^ w))
steps_split w n x =
    ap (bit_steps (w + n)) (split_xor w x)
    ∙ steps_xor (w + n) (x / 2 ^ w * 2 ^ w) (x % 2 ^ w)
    ∙ ap (λ (y : ℕ). bit_xor y (bit_steps (w + n) (x % 2 ^ w)))
    (steps-add w n (x / 2 ^ w * 2 ^ w) ∙ ap (bit_steps n) (steps_shifted w (x / 2 ^ w)))
