-- The multiples of the polynomial that the code uses.
-- Assumes nothing.
use mathlib.Core.Path.{◌≡◌, refl, sym, ap, ap₂, ◌∙◌}
use mathlib.Core.List.{List, [], ◌∷◌}
use Prim.Native.Nat.{ℕ, suc, ◌+◌, ◌*◌, ◌/◌, ◌%◌, ◌^◌, ◌≤◌}
use native.Mathlib.Nat.{mod-lt, mod-eq_of_lt, div-eq_of_lt, lt_of_le_of_lt}
use lib.Bits.{bit_xor, xor_comm, xor_shr, xor_mod, xor_lt}
use lib.Dec.{T, lit≤}
use lib.ListN.{length}
use lib.Pow.{pow_pos, shl-shr, shr-shr, shr_le}
use Rattle.format.specs.Crc.{bit_step, bit_steps}
use Rattle.words.specs.Words.{on, mix, far, middle, near, next, itself, inverse₁, inverse₂}
use Rattle.words.proofs.Laws.{steps_split}
use Rattle.words.proofs.Linear.{Linear, id_linear, xor_linear, comp_linear, xor_equal, vanish, at-mod, kept}
use Rattle.words.proofs.Carry.{Word, Words, stack, falls, meets, shifts, sum, within, multiple, on-low, on-high, on_meet, mix_linear, mix_shr, carried, falls_are, rest-is}

-- ---- each is a multiple: its steps come to nothing

far_gone : bit_steps 269 (multiple far 256 1) ≡ 0
unfolding bit_steps bit_step mix
far_gone = refl

middle_gone : bit_steps 243 (multiple middle 256 1) ≡ 0
unfolding bit_steps bit_step mix
middle_gone = refl

near_gone : bit_steps 128 (multiple near 128 1) ≡ 0
unfolding bit_steps bit_step mix
near_gone = refl

next_gone : bit_steps 64 (multiple next 64 1) ≡ 0
unfolding bit_steps bit_step mix
next_gone = refl

-- ---- a word is carried by shifts

module _ (ss ws : List ℕ) (K : ℕ) (t : T (within (64 * length ws) ss)) (gone : bit_steps (suc K) (multiple ss (64 * length ws) 1) ≡ 0)
    (x : ℕ) (hx : Word x) (hws : Words ws) (M : ℕ) (hM : K ≤ M) where
  pushed : (R : ℕ) → bit_steps M (stack (meets ss x ws) (bit_xor R (sum (shifts 0 ss x)))) ≡ bit_steps (64 + M) (on x (stack ws R))
  pushed R =
      ap (bit_steps M) (falls_are ss x ws (bit_xor R (sum (shifts 0 ss x))) hx)
      ∙ ap (λ (y : ℕ). bit_steps M (stack (falls ss x ws) (bit_xor R y))) (sym (rest-is ss x hx))
      ∙ carried ss ws K t gone x R M hx hws hM

pub far-push : (a b c d e w : ℕ) → Word a → Word b → Word c → Word d → Word e → Word w → (M R : ℕ) → 268 ≤ M
    → bit_steps M (stack (meets far a (b ∷ c ∷ d ∷ e ∷ [])) (on (bit_xor w (sum (shifts 0 far a))) R))
    ≡ bit_steps (64 + M) (on a (on b (on c (on d (on e (on w R))))))
far-push a b c d e w ha hb hc hd he hw M R hM =
    ap (λ (y : ℕ). bit_steps M (stack (meets far a (b ∷ c ∷ d ∷ e ∷ [])) y))
    (sym (on_meet w R (a / 2 ^ 20) hw (lt_of_le_of_lt (shr_le a 20) ha)))
    ∙ pushed far (b ∷ c ∷ d ∷ e ∷ []) 268 tt far_gone a ha (hb, (hc, (hd, (he, tt)))) M hM (on w R)

pub middle-push : (a b c d e : ℕ) → Word a → Word b → Word c → Word d → Word e
    → bit_steps 256 (stack (meets middle a (b ∷ c ∷ d ∷ e ∷ [])) (sum (shifts 0 middle a))) ≡ bit_steps 320 (on a (on b (on c (on d (on e 0)))))
middle-push a b c d e ha hb hc hd he =
    pushed middle (b ∷ c ∷ d ∷ e ∷ []) 242 tt middle_gone a ha (hb, (hc, (hd, (he, tt)))) 256 (lit≤ tt) 0

pub near-push : (a b c w : ℕ) → Word a → Word b → Word c → Word w → (M R : ℕ) → 127 ≤ M
    → bit_steps M (stack (meets near a (b ∷ bit_xor w c ∷ [])) (bit_xor R (sum (shifts 0 near a))))
    ≡ bit_steps (64 + M) (on a (on b (bit_xor (on w R) c)))
near-push a b c w ha hb hc hw M R hM =
    pushed near (b ∷ bit_xor w c ∷ []) 127 tt near_gone a ha (hb, (xor_lt 64 w c hw hc, tt)) M hM R
    ∙ ap (λ (y : ℕ). bit_steps (64 + M) (on a (on b y))) (sym (on_meet w R c hw hc))

-- ---- the last word

abbrev times : List ℕ → ℕ → ℕ → ℕ
times ss D x = bit_xor x (mix ss (x * 2 ^ D))

by_itself : Linear (times itself 32)
by_itself = xor_linear (λ x. x) (λ x. mix itself (x * 2 ^ 32)) id_linear (mix_linear itself 32 tt)

by_one : Linear (times inverse₁ 64)
by_one = xor_linear (λ x. x) (λ x. mix inverse₁ (x * 2 ^ 64)) id_linear (mix_linear inverse₁ 64 tt)

by_two : Linear (times inverse₂ 64)
by_two = xor_linear (λ x. x) (λ x. mix inverse₂ (x * 2 ^ 64)) id_linear (mix_linear inverse₂ 64 tt)

abbrev first_two : ℕ → ℕ
first_two x = times itself 32 (times inverse₂ 64 x)

abbrev all_three : ℕ → ℕ
all_three x = first_two (times inverse₁ 64 x)

itself_gone : bit_steps 1 (times itself 32 1) ≡ 0
unfolding bit_steps bit_step mix
itself_gone = refl

-- the factors are inverse to the polynomial
inverses : all_three 1 % 2 ^ 64 ≡ 1
unfolding mix
inverses = refl

-- what the code computes is the low word of a product
product : (ss : List ℕ) (x : ℕ) → Word x → bit_xor x (mix ss (x * 2 ^ 64) % 2 ^ 64) ≡ times ss 64 x % 2 ^ 64
product ss x h =
    let m = mix ss (x * 2 ^ 64) in
    ap (λ (y : ℕ). bit_xor y (m % 2 ^ 64)) (sym (mod-eq_of_lt h)) ∙ sym (xor_mod x m 64)

pub last_word : (x y z : ℕ) → Word x → y ≡ bit_xor x (mix inverse₁ (x * 2 ^ 64) % 2 ^ 64) → z ≡ bit_xor y (mix inverse₂ (y * 2 ^ 64) % 2 ^ 64)
    → mix itself (z / 2 ^ 32) ≡ bit_steps 64 x
unfolding bit_steps
last_word x y z hx ey ez =
    let y' : y ≡ times inverse₁ 64 x % 2 ^ 64 = ey ∙ product inverse₁ x hx in
    let hy : Word y = rw y' (mod-lt (times inverse₁ 64 x) (pow_pos 64)) in
    let z' : z ≡ times inverse₂ 64 y % 2 ^ 64 = ez ∙ product inverse₂ y hy in
    let hz : Word z = rw z' (mod-lt (times inverse₂ 64 y) (pow_pos 64)) in
    let r = mix itself (z / 2 ^ 32) in
    let lo : times itself 32 z % 2 ^ 64 ≡ x =
    ap (λ (v : ℕ). times itself 32 v % 2 ^ 64) z'
    ∙ at-mod (times itself 32) by_itself 64 (times inverse₂ 64 y)
    ∙ ap (λ (v : ℕ). first_two v % 2 ^ 64) y'
    ∙ at-mod first_two (comp_linear (times itself 32) (times inverse₂ 64) by_itself by_two) 64 (times inverse₁ 64 x)
    ∙ kept all_three
    (comp_linear first_two (times inverse₁ 64) (comp_linear (times itself 32) (times inverse₂ 64) by_itself by_two) by_one)
    inverses 64 x hx
    ∙ mod-eq_of_lt hx in
    let hi : times itself 32 z / 2 ^ 64 ≡ r =
    xor_shr z (mix itself (z * 2 ^ 32)) 64
    ∙ ap₂ bit_xor (div-eq_of_lt hz)
    (sym (mix_shr itself (z * 2 ^ 32) 64)
    ∙ ap (mix itself) (sym (shr-shr (z * 2 ^ 32) 32 32) ∙ ap (λ (v : ℕ). v / 2 ^ 32) (shl-shr z 32))) in
    xor_equal r (bit_steps 64 x)
    (ap₂ (λ (p q : ℕ). bit_xor p (bit_steps 64 q)) (sym hi) (sym lo)
    ∙ sym (steps_split 64 0 (times itself 32 z))
    ∙ vanish (times itself 32) by_itself 0 itself_gone 64 z 64 hz (lit≤ tt))

-- a word and what is above it, after 64 steps
pub steps_on : (x r : ℕ) → Word x → bit_steps 64 (on x r) ≡ bit_xor (bit_steps 64 x) r
unfolding bit_steps
steps_on x r hx =
    steps_split 64 0 (on x r)
    ∙ ap₂ (λ (p q : ℕ). bit_xor p (bit_steps 64 q)) (on-high x r hx) (on-low x r hx)
    ∙ xor_comm r (bit_steps 64 x)

-- the last two words
pub last_words : (a b c : ℕ) → Word a → Word b
    → bit_xor (bit_steps 64 (bit_xor (mix next (a * 2 ^ 64) % 2 ^ 64) b)) (bit_xor (mix next a) c) ≡ bit_steps 128 (on a (on b c))
last_words a b c ha hb =
    let m = mix next (a * 2 ^ 64) % 2 ^ 64 in
    let hm : Word m = mod-lt (mix next (a * 2 ^ 64)) (pow_pos 64) in
    sym (steps_on (bit_xor m b) (bit_xor (mix next a) c) (xor_lt 64 m b hm hb))
    ∙ ap₂ (λ (p q : ℕ). bit_steps 64 (on p q)) (xor_comm m b) (xor_comm (mix next a) c)
    ∙ carried next (b ∷ []) 63 tt next_gone a c 64 ha (hb, tt) (lit≤ tt)
