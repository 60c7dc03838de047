-- The bytes as words: the first ones, a turn of a loop, the last ones.
-- Assumes nothing.
use mathlib.Core.Path.{◌≡◌, refl, sym, ap, ap₂, ◌∙◌}
use mathlib.Core.List.{List, [], ◌∷◌}
use Prim.Native.Nat.{ℕ, ◌+◌, ◌-◌, ◌*◌, ◌/◌, ◌%◌, ◌^◌, ◌≤◌, ◌<◌}
use native.Mathlib.Nat.{lt_of_le_of_lt, mod-eq_of_lt, mod-lt}
use native.Mathlib.Omega.{arith}
use lib.Bits.{bit_xor, xor_comm, xor_zero_r}
use lib.Dec.{lit≤}
use lib.ListN.{length, drop, drop_of_length-le}
use lib.Pow.{pow_pos, shr_le, shr-shr}
use lib.Seq.{take_all}
use Rattle.format.specs.Bytes.{num, field_at}
use Rattle.wire.proofs.Laws.{Bytes, field_below}
use Rattle.format.specs.Crc.{bit_steps, crc_from}
use Rattle.words.specs.Words.{on}
use Rattle.words.proofs.Carry.{Word, on-low, on_meet}
use Rattle.words.proofs.Taps.{steps_on}
use Rattle.words.proofs.Start.{num_word, start}

pub word_at : (s : List ℕ) (i : ℕ) → Bytes s → Word (field_at s i 8)
word_at s i h = field_below s i 8 8 h (lit≤ tt)

pub nothing : (s : List ℕ) (i : ℕ) → length s ≤ i → num (drop i s) ≡ 0
unfolding num
nothing s i h = ap num (drop_of_length-le s {i = i} h)

-- ---- the words

-- one turn: where a step over a word w leads from g to g', so it does with the word at i
pub turn : (s : List ℕ) (i j w k K : ℕ) (g g' : ℕ → ℕ) → w ≡ field_at s i 8 → i + 8 ≤ length s → j ≡ i + 8 → K ≤ k
    → ((M R : ℕ) → K ≤ M → bit_steps M (g' R) ≡ bit_steps (64 + M) (g (on w R)))
    → bit_steps (k + 8 * (length s - j)) (g' (num (drop j s))) ≡ bit_steps (k + 8 * (length s - i)) (g (num (drop i s)))
turn s i j w k K g g' ew h ej hK step =
    let M = k + 8 * (length s - (i + 8)) in
    let n : 64 + M ≡ k + 8 * (length s - i) = omega arith in
    ap (λ (p : ℕ). bit_steps (k + 8 * (length s - p)) (g' (num (drop p s)))) ej
    ∙ step M (num (drop (i + 8) s)) (omega arith)
    ∙ ap₂ (λ (m y : ℕ). bit_steps m (g y)) n (ap (λ (y : ℕ). on y (num (drop (i + 8) s))) ew ∙ sym (num_word s i h))

-- the end of the loop
pub over : (s : List ℕ) (i k : ℕ) (g : ℕ → ℕ) → length s ≤ i → bit_steps k (g 0) ≡ bit_steps (k + 8 * (length s - i)) (g (num (drop i s)))
over s i k g h =
    let n : k ≡ k + 8 * (length s - i) = omega arith in
    ap₂ (λ (m y : ℕ). bit_steps m (g y)) n (sym (nothing s i h))

-- three words in front
pub three : (s : List ℕ) (i p q r : ℕ) → i + 24 ≤ length s → p ≡ field_at s i 8 → q ≡ field_at s (i + 8) 8 → r ≡ field_at s (i + 16) 8
    → num (drop i s) ≡ on p (on q (on r (num (drop (i + 24) s))))
three s i p q r h ep eq er =
    let e₁ : (i + 8) + 8 ≡ i + 16 = omega arith in
    let e₂ : (i + 16) + 8 ≡ i + 24 = omega arith in
    rw (ep, eq, er)
    (num_word s i (omega arith)
    ∙ ap (on (field_at s i 8))
    (num_word s (i + 8) (omega arith)
    ∙ ap (λ (k : ℕ). on (field_at s (i + 8) 8) (num (drop k s))) e₁
    ∙ ap (on (field_at s (i + 8) 8)) (num_word s (i + 16) (omega arith) ∙ ap (λ (k : ℕ). on (field_at s (i + 16) 8) (num (drop k s))) e₂)))

pub three_less : (n i : ℕ) → i + 24 ≤ n → (n - i) % 8 ≡ 0 → (n - (i + 24)) % 8 ≡ 0
three_less n i h e = omega arith

-- ---- the beginning

pub empty : (c : ℕ) (s : List ℕ) → length s ≡ 0 → c ≡ crc_from c s
unfolding crc_from
empty c [] e = refl
empty c (x ∷ s) e = absurd (omega arith)

twice : (c k : ℕ) → c / 2 ^ (4 * k) / 2 ^ (4 * k) ≡ c / 2 ^ (8 * k)
twice c k =
    let e : 4 * k + 4 * k ≡ 8 * k = omega arith in
    shr-shr c (4 * k) (4 * k) ∙ ap (λ (n : ℕ). c / 2 ^ n) e

-- no more than eight bytes
pub tiny : (c : ℕ) (s : List ℕ) → Bytes s → c < 2 ^ 32 → 1 ≤ length s → length s ≤ 8 → (w : ℕ) → w ≡ field_at s 0 (length s) → (k : ℕ) → k ≡ length s
    → bit_xor (bit_steps 64 (bit_xor w c * 2 ^ (64 - 8 * k) % 2 ^ 64)) (c / 2 ^ (4 * k) / 2 ^ (4 * k)) ≡ crc_from c s
unfolding field_at
tiny c s hs hc h₁ h₈ w e k ek =
    let p : w ≡ num s = e ∙ ap num (take_all (length s) s (omega arith)) in
    let q : Word w = rw e (field_below s 0 (length s) 8 hs h₈) in
    let w' : w ≡ num s % 2 ^ 64 = sym (mod-eq_of_lt q) ∙ ap (λ (x : ℕ). x % 2 ^ 64) p in
    let n : (64 - 8 * k) + 8 * length s ≡ 64 = omega arith in
    let f = bit_xor w c * 2 ^ (64 - 8 * k) % 2 ^ 64 in
    ap (bit_xor (bit_steps 64 f)) (twice c k)
    ∙ sym
    (start c w k s hs hc (omega arith) (omega arith) (omega arith) w'
    ∙ ap₂ (λ (m x : ℕ). bit_steps m (on f x)) n
    (ap (bit_xor (c / 2 ^ (8 * k))) (nothing s k (omega arith)) ∙ xor_zero_r (c / 2 ^ (8 * k)))
    ∙ steps_on f (c / 2 ^ (8 * k)) (mod-lt (bit_xor w c * 2 ^ (64 - 8 * k)) (pow_pos 64)))

-- the first word and the second
pub longer : (c : ℕ) (s : List ℕ) → Bytes s → c < 2 ^ 32 → 9 ≤ length s → (k p q : ℕ) → 1 ≤ k → k ≤ 8 → k + 8 ≤ length s
    → p ≡ field_at s 0 8 → q ≡ field_at s k 8
    → bit_steps (128 + 8 * (length s - (k + 8)))
    (on (bit_xor p c * 2 ^ (64 - 8 * k) % 2 ^ 64) (on (bit_xor q (c / 2 ^ (4 * k) / 2 ^ (4 * k))) (num (drop (k + 8) s))))
    ≡ crc_from c s
longer c s hs hc h₉ k p q h₁ h₈ hk ep eq =
    let w = field_at s 0 8 in
    let w' : w ≡ num s % 2 ^ 64 = sym (ap (λ (x : ℕ). x % 2 ^ 64) (num_word s 0 (omega arith)) ∙ on-low w (num (drop 8 s)) (word_at s 0 hs)) in
    let n : (64 - 8 * k) + 8 * length s ≡ 128 + 8 * (length s - (k + 8)) = omega arith in
    let f = bit_xor w c * 2 ^ (64 - 8 * k) % 2 ^ 64 in
    let v = c / 2 ^ (8 * k) in
    let hv : Word v = lt_of_le_of_lt (shr_le c (8 * k)) (omega arith) in
    let second : bit_xor v (num (drop k s)) ≡ on (bit_xor (field_at s k 8) (c / 2 ^ (4 * k) / 2 ^ (4 * k))) (num (drop (k + 8) s)) =
    xor_comm v (num (drop k s))
    ∙ ap (λ (x : ℕ). bit_xor x v) (num_word s k hk)
    ∙ on_meet (field_at s k 8) (num (drop (k + 8) s)) v (word_at s k hs) hv
    ∙ ap (λ (x : ℕ). on (bit_xor (field_at s k 8) x) (num (drop (k + 8) s))) (sym (twice c k)) in
    rw (ep, eq)
    (sym (start c w k s hs hc h₁ h₈ (omega arith) w' ∙ ap₂ (λ (m x : ℕ). bit_steps m (on f x)) n second))
