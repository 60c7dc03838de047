-- From bytes to words, and the words that are left at the end.
-- Assumes nothing.
use mathlib.Core.Path.{◌≡◌, sym, ap, ap₂, ◌∙◌}
use mathlib.Core.Bool.{Bool, true, false, cond}
use mathlib.Core.List.{List, [], ◌∷◌}
use Prim.Native.Nat.{ℕ, zero, suc, ◌+◌, ◌-◌, ◌*◌, ◌/◌, ◌%◌, ◌^◌, ◌≤◌, ◌<◌}
use native.Mathlib.Nat.{mul-suc, mul-one, add-zero, add_comm, add_assoc, add-mul, mul_assoc, mod-eq_of_lt, not-suc-le-zero, le_of_suc-le-suc}
use native.Mathlib.Omega.{arith}
use lib.Bits.{bit_xor, xor_comm, xor_zero_r, xor_shifted, xor_shr, xor_mod, xor_lt}
use lib.Dec.{eqb, lit<}
use lib.ListN.{length, take, drop, length-drop}
use lib.Pow.{pow-add, high, shl-shr, shr-shr}
use lib.Seq.{drop-drop, length-take-le}
use Rattle.format.specs.Bytes.{num, field_at}
use Rattle.wire.proofs.Laws.{Bytes, bytes_take, num-below}
use Rattle.format.specs.Crc.{bit_step, bit_steps, crc_from}
use Rattle.words.specs.Words.{on}
use Rattle.words.proofs.Laws.{xor_assoc, steps_xor, steps_shifted, steps-add}
use Rattle.words.proofs.Linear.{shl_linear, at-mod}
use Rattle.words.proofs.Carry.{on_parts}

-- bytes one after the other are one number at once
pub crc_word : (c : ℕ) (bs : List ℕ) → Bytes bs → crc_from c bs ≡ bit_steps (8 * length bs) (bit_xor c (num bs))
unfolding crc_from bit_steps num
crc_word c [] h = sym (xor_zero_r c)
crc_word c (b ∷ bs) h =
    crc_word (bit_steps 8 (bit_xor c b)) bs (λ i. h (suc i))
    ∙ ap (bit_steps (8 * length bs))
    (ap (bit_xor (bit_steps 8 (bit_xor c b))) (sym (steps_shifted 8 (num bs)))
    ∙ sym (steps_xor 8 (bit_xor c b) (num bs * 2 ^ 8)))
    ∙ sym (steps-add 8 (8 * length bs) (bit_xor (bit_xor c b) (num bs * 2 ^ 8)))
    ∙ ap₂ bit_steps (add_comm 8 (8 * length bs) ∙ sym (mul-suc 8 (length bs)))
    (xor_assoc c b (num bs * 2 ^ 8) ∙ ap (bit_xor c) (xor_comm b (num bs * 2 ^ 8) ∙ xor_shifted (num bs) 8 b (h 0).fits))

eight : (k : ℕ) → 2 ^ (8 * suc k) ≡ 2 ^ (8 * k) * 256
eight k = ap (λ (n : ℕ). 2 ^ n) (mul-suc 8 k) ∙ pow-add 2 (8 * k) 8

-- the first k bytes, and those above them
pub le_split : (k : ℕ) (bs : List ℕ) → k ≤ length bs → num bs ≡ num (drop k bs) * 2 ^ (8 * k) + num (take k bs)
unfolding num
le_split zero bs h = sym (add-zero (num bs * 1) ∙ mul-one (num bs))
le_split (suc k) [] h = absurd (not-suc-le-zero h)
le_split (suc k) (b ∷ bs) h =
    ap (λ (x : ℕ). x * 256 + b) (le_split k bs (le_of_suc-le-suc h))
    ∙ ap (λ (x : ℕ). x + b) (add-mul (num (drop k bs) * 2 ^ (8 * k)) (num (take k bs)) 256)
    ∙ add_assoc (num (drop k bs) * 2 ^ (8 * k) * 256) (num (take k bs) * 256) b
    ∙ ap (λ (x : ℕ). x + (num (take k bs) * 256 + b))
    (mul_assoc (num (drop k bs)) (2 ^ (8 * k)) 256 ∙ ap (λ (x : ℕ). num (drop k bs) * x) (sym (eight k)))

-- a word of eight bytes, and those above it
pub num_word : (s : List ℕ) (i : ℕ) → i + 8 ≤ length s → num (drop i s) ≡ on (field_at s i 8) (num (drop (i + 8) s))
unfolding field_at on
num_word s i h =
    le_split 8 (drop i s) (omega (arith, length-drop i s))
    ∙ ap (λ (l : List ℕ). num l * 2 ^ 64 + num (take 8 (drop i s))) (drop-drop 8 i s)

-- the register stays below 2 ^ 32
step_lt : (c : ℕ) → c < 2 ^ 32 → bit_step c < 2 ^ 32
unfolding bit_step
step_lt c h = xor_lt 32 (c / 2) (cond (eqb (c % 2) 1) 0xEDB88320 0) (omega arith) (go (eqb (c % 2) 1))
  where
    go : (t : Bool) → cond t 0xEDB88320 0 < 2 ^ 32
    go true = lit< tt
    go false = lit< tt

steps_lt : (n c : ℕ) → c < 2 ^ 32 → bit_steps n c < 2 ^ 32
unfolding bit_steps
steps_lt zero c h = h
steps_lt (suc n) c h = steps_lt n (bit_step c) (step_lt c h)

pub crc_lt : (c : ℕ) (bs : List ℕ) → Bytes bs → c < 2 ^ 32 → crc_from c bs < 2 ^ 32
unfolding crc_from
crc_lt c [] h hc = hc
crc_lt c (b ∷ bs) h hc =
    crc_lt (bit_steps 8 (bit_xor c b)) bs (λ i. h (suc i)) (steps_lt 8 (bit_xor c b) (xor_lt 32 c b hc (omega (arith, (h 0).fits))))

pub crc_fits : {r : ℕ} (c : ℕ) (bs : List ℕ) → Bytes bs → c < 2 ^ 32 → r ≡ crc_from c bs → r < 2 ^ 32
crc_fits c bs h hc e = rw e (crc_lt c bs h hc)

-- the first k bytes fill the top of a word, and the register goes on into the next
pub start : (c w k : ℕ) (s : List ℕ) → Bytes s → c < 2 ^ 32 → 1 ≤ k → k ≤ 8 → k ≤ length s → w ≡ num s % 2 ^ 64
    → crc_from c s ≡ bit_steps ((64 - 8 * k) + 8 * length s) (on (bit_xor w c * 2 ^ (64 - 8 * k) % 2 ^ 64) (bit_xor (c / 2 ^ (8 * k)) (num (drop k s))))
start c w k s hb hc h₁ h₈ hk e =
    let u = 64 - 8 * k in
    let hc' : c < 2 ^ 64 = omega arith in
    let y = bit_xor c (num s) in
    let lo : y * 2 ^ u % 2 ^ 64 ≡ bit_xor w c * 2 ^ u % 2 ^ 64 =
    sym (ap (λ (x : ℕ). x * 2 ^ u % 2 ^ 64)
    (xor_comm w c ∙ ap₂ bit_xor (sym (mod-eq_of_lt hc')) e ∙ sym (xor_mod c (num s) 64))
    ∙ at-mod (λ x. x * 2 ^ u) (shl_linear u) 64 y) in
    let t : num (take k s) < 2 ^ (8 * k) =
    rw (length-take-le k s hk) at (num-below (take k s) (bytes_take k s hb)) in
    let n : 64 ≡ u + 8 * k = omega arith in
    let hi : y * 2 ^ u / 2 ^ 64 ≡ bit_xor (c / 2 ^ (8 * k)) (num (drop k s)) =
    ap (λ (x : ℕ). y * 2 ^ u / 2 ^ x) n
    ∙ sym (shr-shr (y * 2 ^ u) u (8 * k))
    ∙ ap (λ (x : ℕ). x / 2 ^ (8 * k)) (shl-shr y u)
    ∙ xor_shr c (num s) (8 * k)
    ∙ ap (bit_xor (c / 2 ^ (8 * k)))
    (ap (λ (x : ℕ). x / 2 ^ (8 * k)) (le_split k s hk) ∙ high (num (drop k s)) (8 * k) t) in
    crc_word c s hb
    ∙ sym (steps-add u (8 * length s) (y * 2 ^ u) ∙ ap (bit_steps (8 * length s)) (steps_shifted u y))
    ∙ ap (bit_steps (u + 8 * length s)) (on_parts (y * 2 ^ u) ∙ ap₂ on lo hi)
