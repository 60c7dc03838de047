-- A word is carried into those that follow it, by a multiple of the polynomial.
-- Assumes nothing.
use mathlib.Core.Path.{◌≡◌, refl, sym, ap, ap₂, ◌∙◌}
use mathlib.Core.Bool.{Bool, true, false, cond, ◌&&◌}
use mathlib.Core.List.{List, [], ◌∷◌}
use Prim.Native.Nat.{ℕ, suc, ◌+◌, ◌-◌, ◌*◌, ◌/◌, ◌%◌, ◌^◌, ◌≤◌, ◌<◌}
use native.Mathlib.Nat.{mod-lt, zero-mul, zero-add, add_comm, mul_assoc, mul-one, mul-mod_left, mod-eq_of_lt, div-eq_of_lt, lt_of_le_of_lt, lt_of_lt_of_le}
use native.Mathlib.Omega.{arith}
use lib.Bits.{bit_xor, xor_block, xor_comm, xor_shr, xor_mod, xor_lt, xor_zero_r}
use lib.Dec.{T, leb, ltb, leb→le}
use lib.ListN.{length}
use lib.Pow.{pow_pos, pow-add, pow_mono, split, high, low, shl-shr, shr-shr, shr_le}
use borrow.Author.Tests.{ltb-false, leb-true, leb-false}
use Rattle.format.specs.Crc.{bit_steps}
use Rattle.words.specs.Words.{on, mix}
use Rattle.words.proofs.Laws.{xor_assoc, xor_swap, steps_xor, steps_shifted, steps-add, steps_split}
use Rattle.words.proofs.Linear.{Linear, shl_xor, shl_linear, id_linear, xor_linear, comp_linear, xor_equal, vanish}

abbrev pub Word : ℕ → Type 0
Word w = w < 2 ^ 64

-- ---- a word with a number above it

pub on-low : (w n : ℕ) → Word w → on w n % 2 ^ 64 ≡ w
unfolding on
on-low w n h = low n 64 h

pub on-high : (w n : ℕ) → Word w → on w n / 2 ^ 64 ≡ n
unfolding on
on-high w n h = high n 64 h

pub on_xor : (v m w n : ℕ) → Word v → Word w → bit_xor (on v m) (on w n) ≡ on (bit_xor v w) (bit_xor m n)
unfolding on
on_xor v m w n hv hw = xor_block 64 m n v w hv hw

pub on_parts : (n : ℕ) → n ≡ on (n % 2 ^ 64) (n / 2 ^ 64)
unfolding on
on_parts n = sym (split n 64)

pub on-zero : (w : ℕ) → on w 0 ≡ w
unfolding on
on-zero w = zero-add w

-- a word alone falls on the first
pub on_meet : (w n x : ℕ) → Word w → Word x → bit_xor (on w n) x ≡ on (bit_xor w x) n
on_meet w n x hw hx =
    ap (bit_xor (on w n)) (sym (on-zero x)) ∙ on_xor w n x 0 hw hx ∙ ap (on (bit_xor w x)) (xor_zero_r n)

-- ---- shifts by several places

pub down : (x D s : ℕ) → s ≤ D → x * 2 ^ D / 2 ^ s ≡ x * 2 ^ (D - s)
down x D s h =
    let e : D ≡ (D - s) + s = omega arith in
    ap (λ (y : ℕ). x * 2 ^ y / 2 ^ s) e
    ∙ ap (λ (y : ℕ). x * y / 2 ^ s) (pow-add 2 (D - s) s)
    ∙ ap (λ (y : ℕ). y / 2 ^ s) (sym (mul_assoc x (2 ^ (D - s)) (2 ^ s)))
    ∙ shl-shr (x * 2 ^ (D - s)) s

pub mix_xor : (ss : List ℕ) (a b : ℕ) → mix ss (bit_xor a b) ≡ bit_xor (mix ss a) (mix ss b)
unfolding mix
mix_xor [] a b = refl
mix_xor (s ∷ ss) a b = ap₂ bit_xor (xor_shr a b s) (mix_xor ss a b) ∙ xor_swap (a / 2 ^ s) (b / 2 ^ s) (mix ss a) (mix ss b)

zero_shr : (k : ℕ) → 0 / 2 ^ k ≡ 0
zero_shr k = ap (λ (y : ℕ). y / 2 ^ k) (sym (zero-mul (2 ^ k))) ∙ shl-shr 0 k

pub mix_shr : (ss : List ℕ) (a k : ℕ) → mix ss (a / 2 ^ k) ≡ mix ss a / 2 ^ k
unfolding mix
mix_shr [] a k = sym (zero_shr k)
mix_shr (s ∷ ss) a k =
    ap₂ bit_xor (shr-shr a k s ∙ ap (λ (y : ℕ). a / 2 ^ y) (add_comm k s) ∙ sym (shr-shr a s k)) (mix_shr ss a k)
    ∙ sym (xor_shr (a / 2 ^ s) (mix ss a) k)

pub mix_lt : (ss : List ℕ) (h k : ℕ) → h < 2 ^ k → mix ss h < 2 ^ k
unfolding mix
mix_lt [] h k e = pow_pos k
mix_lt (s ∷ ss) h k e = xor_lt k (h / 2 ^ s) (mix ss h) (lt_of_le_of_lt (shr_le h s) e) (mix_lt ss h k e)

-- the places are no more than D
abbrev pub within : ℕ → List ℕ → Bool
within D [] = true
within D (s ∷ ss) = leb s D && within D ss

left : (a b : Bool) → T (a && b) → T a
left true b t = tt
left false b t = t

right : (a b : Bool) → T (a && b) → T b
right true b t = t
right false b t = absurd t

mix_dbl : (ss : List ℕ) (D : ℕ) → T (within D ss) → (a : ℕ) → mix ss (a * 2 * 2 ^ D) ≡ mix ss (a * 2 ^ D) * 2
unfolding mix
mix_dbl [] D t a = refl
mix_dbl (s ∷ ss) D t a =
    let h : s ≤ D = leb→le s D (left (leb s D) (within D ss) t) in
    ap₂ bit_xor
    (down (a * 2) D s h ∙ (shl_linear (D - s)).dbl a ∙ ap (λ (y : ℕ). y * 2) (sym (down a D s h)))
    (mix_dbl ss D (right (leb s D) (within D ss) t) a)
    ∙ sym (shl_xor (a * 2 ^ D / 2 ^ s) (mix ss (a * 2 ^ D)) 1)

pub mix_linear : (ss : List ℕ) (D : ℕ) → T (within D ss) → Linear (λ x. mix ss (x * 2 ^ D))
mix_linear ss D t = record {
  add = λ a b. ap (mix ss) (shl_xor a b D) ∙ mix_xor ss (a * 2 ^ D) (b * 2 ^ D);
  dbl = mix_dbl ss D t;
}

-- the low word of b bits of the shifts, place by place
abbrev pub words : ℕ → List ℕ → ℕ → ℕ
words b [] h = 0
words b (s ∷ ss) h = bit_xor (h / 2 ^ s % 2 ^ b) (words b ss h)

pub words_are : (b : ℕ) (ss : List ℕ) (h : ℕ) → mix ss h % 2 ^ b ≡ words b ss h
unfolding mix
words_are b [] h = mod-eq_of_lt (pow_pos b)
words_are b (s ∷ ss) h = xor_mod (h / 2 ^ s) (mix ss h) b ∙ ap (bit_xor (h / 2 ^ s % 2 ^ b)) (words_are b ss h)

-- what the words before h carry into w and into what follows it, for words of b bits
pub flush_by : (b : ℕ) (ss : List ℕ) (h G w R : ℕ) → h < 2 ^ b → w < 2 ^ b
    → bit_xor (mix ss (G * 2 ^ b + h)) (R * 2 ^ b + w) ≡ bit_xor (mix ss G) R * 2 ^ b + bit_xor (mix ss (G * 2 ^ b + h) % 2 ^ b) w
flush_by b ss h G w R hh hw =
    let m = mix ss (G * 2 ^ b + h) in
    let up : m / 2 ^ b ≡ mix ss G = sym (mix_shr ss (G * 2 ^ b + h) b) ∙ ap (mix ss) (high G b hh) in
    ap (λ (y : ℕ). bit_xor y (R * 2 ^ b + w)) (sym (split m b) ∙ ap (λ (y : ℕ). y * 2 ^ b + m % 2 ^ b) up)
    ∙ xor_block b (mix ss G) R (m % 2 ^ b) w (mod-lt m (pow_pos b)) hw

-- ---- one word less

-- x, of b bits, less what it is carried to
abbrev pub multiple_by : ℕ → List ℕ → ℕ → ℕ → ℕ
multiple_by b ss D x = bit_xor x (mix ss (x * 2 ^ D) * 2 ^ b)

abbrev pub multiple : List ℕ → ℕ → ℕ → ℕ
multiple = multiple_by 64

module _ (b : ℕ) (ss : List ℕ) (D K : ℕ) (t : T (within D ss)) (gone : bit_steps (suc K) (multiple_by b ss D 1) ≡ 0) where
  multiples : Linear (multiple_by b ss D)
  multiples =
      xor_linear (λ x. x) (λ x. mix ss (x * 2 ^ D) * 2 ^ b) id_linear
      (comp_linear (λ x. x * 2 ^ b) (λ x. mix ss (x * 2 ^ D)) (shl_linear b) (mix_linear ss D t))

  carry : (x M : ℕ) → x < 2 ^ b → K ≤ M → bit_steps (b + M) x ≡ bit_steps M (mix ss (x * 2 ^ D))
  carry x M hx hM =
      xor_equal (bit_steps (b + M) x) (bit_steps M (mix ss (x * 2 ^ D)))
      (ap (bit_xor (bit_steps (b + M) x))
      (sym (steps-add b M (mix ss (x * 2 ^ D) * 2 ^ b) ∙ ap (bit_steps M) (steps_shifted b (mix ss (x * 2 ^ D)))))
      ∙ sym (steps_xor (b + M) x (mix ss (x * 2 ^ D) * 2 ^ b))
      ∙ vanish (multiple_by b ss D) multiples K gone b x (b + M) hx (omega arith))

  carry-by : (x R M : ℕ) → x < 2 ^ b → K ≤ M → bit_steps (b + M) (R * 2 ^ b + x) ≡ bit_steps M (bit_xor (mix ss (x * 2 ^ D)) R)
  carry-by x R M hx hM =
      steps_split b M (R * 2 ^ b + x)
      ∙ ap₂ bit_xor (ap (bit_steps M) (high R b hx)) (ap (bit_steps (b + M)) (low R b hx) ∙ carry x M hx hM)
      ∙ sym (steps_xor M R (mix ss (x * 2 ^ D)))
      ∙ ap (bit_steps M) (xor_comm R (mix ss (x * 2 ^ D)))

  -- one turn: the word w, with what is carried into it, joins those that are carried on
  pub turn_by : (h G w R M : ℕ) → h < 2 ^ b → w < 2 ^ b → K ≤ M → (x : ℕ) → x < 2 ^ b → x ≡ bit_xor (mix ss (G * 2 ^ b + h) % 2 ^ b) w
      → bit_steps (b + M) (bit_xor (mix ss (G * 2 ^ b + h)) (R * 2 ^ b + w)) ≡ bit_steps M (bit_xor (mix ss (bit_xor (x * 2 ^ D) G)) R)
  turn_by h G w R M hh hw hM x hx e =
      ap (bit_steps (b + M)) (flush_by b ss h G w R hh hw ∙ ap (λ (y : ℕ). bit_xor (mix ss G) R * 2 ^ b + y) (sym e))
      ∙ carry-by x (bit_xor (mix ss G) R) M hx hM
      ∙ ap (bit_steps M)
      (sym (xor_assoc (mix ss (x * 2 ^ D)) (mix ss G) R) ∙ ap (λ (y : ℕ). bit_xor y R) (sym (mix_xor ss (x * 2 ^ D) G)))

-- ---- words that follow, and what falls on them

-- the words, one above the other, and n above them
abbrev pub stack : List ℕ → ℕ → ℕ
stack [] n = n
stack (w ∷ ws) n = on w (stack ws n)

abbrev pub Words : List ℕ → Type 0
Words [] = Unit
Words (w ∷ ws) = Word w × Words ws

-- a word more of what x carries
peel : (ss : List ℕ) (x d : ℕ) → mix ss (x * 2 ^ (64 + d)) ≡ on (mix ss (x * 2 ^ (64 + d)) % 2 ^ 64) (mix ss (x * 2 ^ d))
peel ss x d =
    on_parts (mix ss (x * 2 ^ (64 + d)))
    ∙ ap (on (mix ss (x * 2 ^ (64 + d)) % 2 ^ 64))
    (sym (mix_shr ss (x * 2 ^ (64 + d)) 64)
    ∙ ap (mix ss) (ap (λ (k : ℕ). x * 2 ^ k / 2 ^ 64) (add_comm 64 d) ∙ ap (λ (y : ℕ). x * y / 2 ^ 64) (pow-add 2 d 64) ∙ ap (λ (y : ℕ). y / 2 ^ 64) (sym (mul_assoc x (2 ^ d) (2 ^ 64))) ∙ shl-shr (x * 2 ^ d) 64))

-- each word with what x, so many words before the first of them, carries into it
abbrev pub falls : List ℕ → ℕ → List ℕ → List ℕ
falls ss x [] = []
falls ss x (w ∷ ws) = bit_xor w (mix ss (x * 2 ^ (64 * length (w ∷ ws))) % 2 ^ 64) ∷ falls ss x ws

fallen : (ss : List ℕ) (x : ℕ) (ws : List ℕ) (R : ℕ) → Words ws
    → bit_xor (stack ws R) (mix ss (x * 2 ^ (64 * length ws))) ≡ stack (falls ss x ws) (bit_xor R (mix ss x))
fallen ss x [] R h = ap (λ (y : ℕ). bit_xor R (mix ss y)) (mul-one x)
fallen ss x (w ∷ ws) R h =
    let k = 64 * length ws in
    let e : 64 * length (w ∷ ws) ≡ 64 + k = omega arith in
    let p : ℕ = mix ss (x * 2 ^ (64 + k)) % 2 ^ 64 in
    ap (bit_xor (on w (stack ws R))) (ap (λ (n : ℕ). mix ss (x * 2 ^ n)) e ∙ peel ss x k)
    ∙ on_xor w (stack ws R) p (mix ss (x * 2 ^ k)) h.0 (mod-lt (mix ss (x * 2 ^ (64 + k))) (pow_pos 64))
    ∙ ap₂ on (ap (λ (n : ℕ). bit_xor w (mix ss (x * 2 ^ n) % 2 ^ 64)) (sym e)) (fallen ss x ws R h.1)

-- x is carried into them
pub carried : (ss ws : List ℕ) (K : ℕ) → T (within (64 * length ws) ss) → bit_steps (suc K) (multiple ss (64 * length ws) 1) ≡ 0
    → (x R M : ℕ) → Word x → Words ws → K ≤ M
    → bit_steps M (stack (falls ss x ws) (bit_xor R (mix ss x))) ≡ bit_steps (64 + M) (on x (stack ws R))
unfolding on
carried ss ws K t gone x R M hx hws hM =
    let m = mix ss (x * 2 ^ (64 * length ws)) in
    sym
    (carry-by 64 ss (64 * length ws) K t gone x (stack ws R) M hx hM
    ∙ ap (bit_steps M) (xor_comm m (stack ws R) ∙ fallen ss x ws R hws))

-- ---- as shifts of words

-- x shifted up by d and down by s, in a machine's word, where that is not nothing; and ys
abbrev pub shifted : ℕ → ℕ → ℕ → List ℕ → List ℕ
shifted d s x ys =
    cond (leb s d) (cond (ltb (d - s) 64) (x * 2 ^ (d - s) % 2 ^ 64 ∷ ys) ys) (cond (ltb (s - d) 64) (x / 2 ^ (s - d) ∷ ys) ys)

abbrev pub shifts : ℕ → List ℕ → ℕ → List ℕ
shifts d [] x = []
shifts d (s ∷ ss) x = shifted d s x (shifts d ss x)

-- their sum, and that of a word and them
abbrev pub sum : List ℕ → ℕ
sum [] = 0
sum (y ∷ []) = y
sum (y ∷ z ∷ ys) = bit_xor y (sum (z ∷ ys))

abbrev pub meet : ℕ → List ℕ → ℕ
meet w [] = w
meet w (y ∷ ys) = bit_xor w (sum (y ∷ ys))

pub sum_more : (y : ℕ) (ys : List ℕ) → sum (y ∷ ys) ≡ bit_xor y (sum ys)
sum_more y [] = sym (xor_zero_r y)
sum_more y (z ∷ ys) = refl

meet_is : (w : ℕ) (ys : List ℕ) → meet w ys ≡ bit_xor w (sum ys)
meet_is w [] = sym (xor_zero_r w)
meet_is w (y ∷ ys) = refl

shifted_is : (d s x : ℕ) (ys : List ℕ) → Word x → sum (shifted d s x ys) ≡ bit_xor (x * 2 ^ d / 2 ^ s % 2 ^ 64) (sum ys)
shifted_is d s x ys hx = go (leb s d) refl
  where
    nothing : (n : ℕ) → n ≡ 0 → sum ys ≡ bit_xor n (sum ys)
    nothing n e = sym (ap (λ (y : ℕ). bit_xor y (sum ys)) e)

    up : (k : ℕ) (t : Bool) → ltb k 64 ≡ t → sum (cond t (x * 2 ^ k % 2 ^ 64 ∷ ys) ys) ≡ bit_xor (x * 2 ^ k % 2 ^ 64) (sum ys)
    up k true e = sum_more (x * 2 ^ k % 2 ^ 64) ys
    up k false e =
        let h : 64 ≤ k = ltb-false k 64 e in
        let n : k ≡ (k - 64) + 64 = omega arith in
        nothing (x * 2 ^ k % 2 ^ 64)
        (ap (λ (j : ℕ). x * 2 ^ j % 2 ^ 64) n
        ∙ ap (λ (y : ℕ). x * y % 2 ^ 64) (pow-add 2 (k - 64) 64)
        ∙ ap (λ (y : ℕ). y % 2 ^ 64) (sym (mul_assoc x (2 ^ (k - 64)) (2 ^ 64)))
        ∙ mul-mod_left (x * 2 ^ (k - 64)) (2 ^ 64))

    below : (k : ℕ) (t : Bool) → ltb k 64 ≡ t → sum (cond t (x / 2 ^ k ∷ ys) ys) ≡ bit_xor (x / 2 ^ k) (sum ys)
    below k true e = sum_more (x / 2 ^ k) ys
    below k false e = nothing (x / 2 ^ k) (div-eq_of_lt (lt_of_lt_of_le hx (pow_mono {i = 64} (ltb-false k 64 e))))

    go : (t : Bool) → leb s d ≡ t
        → sum (cond t (cond (ltb (d - s) 64) (x * 2 ^ (d - s) % 2 ^ 64 ∷ ys) ys) (cond (ltb (s - d) 64) (x / 2 ^ (s - d) ∷ ys) ys))
        ≡ bit_xor (x * 2 ^ d / 2 ^ s % 2 ^ 64) (sum ys)
    go true e =
        up (d - s) (ltb (d - s) 64) refl
        ∙ ap (λ (y : ℕ). bit_xor (y % 2 ^ 64) (sum ys)) (sym (down x d s (leb-true s d e)))
    go false e =
        let h : d < s = leb-false s d e in
        let n : s ≡ d + (s - d) = omega arith in
        below (s - d) (ltb (s - d) 64) refl
        ∙ ap (λ (y : ℕ). bit_xor y (sum ys))
        (sym
        (ap (λ (k : ℕ). x * 2 ^ d / 2 ^ k % 2 ^ 64) n
        ∙ ap (λ (y : ℕ). y % 2 ^ 64)
        (sym (shr-shr (x * 2 ^ d) d (s - d)) ∙ ap (λ (y : ℕ). y / 2 ^ (s - d)) (shl-shr x d))
        ∙ mod-eq_of_lt (lt_of_le_of_lt (shr_le x (s - d)) hx)))

pub shifts_are : (d : ℕ) (ss : List ℕ) (x : ℕ) → Word x → mix ss (x * 2 ^ d) % 2 ^ 64 ≡ sum (shifts d ss x)
unfolding mix
shifts_are d [] x hx = refl
shifts_are d (s ∷ ss) x hx =
    xor_mod (x * 2 ^ d / 2 ^ s) (mix ss (x * 2 ^ d)) 64
    ∙ ap (bit_xor (x * 2 ^ d / 2 ^ s % 2 ^ 64)) (shifts_are d ss x hx)
    ∙ sym (shifted_is d s x (shifts d ss x) hx)

-- what x carries beyond them
pub rest-is : (ss : List ℕ) (x : ℕ) → Word x → mix ss x ≡ sum (shifts 0 ss x)
rest-is ss x hx = sym (mod-eq_of_lt (mix_lt ss x 64 hx)) ∙ ap (λ (y : ℕ). mix ss y % 2 ^ 64) (sym (mul-one x)) ∙ shifts_are 0 ss x hx

abbrev pub meets : List ℕ → ℕ → List ℕ → List ℕ
meets ss x [] = []
meets ss x (w ∷ ws) = meet w (shifts (64 * length (w ∷ ws)) ss x) ∷ meets ss x ws

pub falls_are : (ss : List ℕ) (x : ℕ) (ws : List ℕ) (R : ℕ) → Word x → stack (meets ss x ws) R ≡ stack (falls ss x ws) R
falls_are ss x [] R hx = refl
falls_are ss x (w ∷ ws) R hx =
    ap₂ on
    (meet_is w (shifts (64 * length (w ∷ ws)) ss x) ∙ ap (bit_xor w) (sym (shifts_are (64 * length (w ∷ ws)) ss x hx)))
    (falls_are ss x ws R hx)
