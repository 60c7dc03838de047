-- Bytes are carried into those that follow them, in a window of the last ones.
-- Assumes nothing.
use mathlib.Core.Path.{◌≡◌, refl, sym, ap, ap₂, ◌∙◌}
use mathlib.Core.List.{List, [], ◌∷◌, ◌++◌}
use Prim.Native.Nat.{ℕ, zero, suc, ◌+◌, ◌-◌, ◌*◌, ◌/◌, ◌%◌, ◌^◌, ◌≤◌, ◌<◌}
use native.Mathlib.Nat.{mod-lt, div-eq_of_lt, lt_of_lt_of_le, mul_assoc, add-mul, add_assoc, zero-add, zero-mul, add-zero, mul-one}
use native.Mathlib.Numerals.{add-one}
use native.Mathlib.Omega.{arith}
use lib.Bits.{bit_xor, xor_zero_r, xor_shifted, xor_lt}
use lib.Dec.{lit<, lit≤}
use lib.ListN.{length, get_or, take, drop, set, replicate, length-replicate, length-set, length-append, length-drop, drop_of_length-le}
use lib.Pow.{pow_pos, pow-add, pow_mono, high, low}
use lib.Seq.{paste, drop-cons, drop-drop, take-add, take_all, take-suc-set, drop-set-add, length-take-le, take-append_seam, drop-append_seam}
use Rattle.std.proofs.lemmas.List.{drop_at, drop-take, drop-append-le, drop_all, append-nil}
use Rattle.std.proofs.lemmas.List.Edits.{take-paste}
use Rattle.std.specs.Int.{w32, to_le_bytes}
use borrow.Rule.Slice.PartMut.{put_mid}
use Rattle.format.specs.Bytes.{num, field_at}
use Rattle.wire.proofs.Laws.{Bytes, bytes_take, field_below, field_more}
use Rattle.format.specs.Crc.{bit_step, bit_steps, crc_from}
use Rattle.words.specs.Words.{mix}
use Rattle.crc.specs.Window.{folds, owed, fallen, register, Filled}
use Rattle.words.proofs.Laws.{steps_xor, steps_shifted, steps-add}
use Rattle.words.proofs.Carry.{words_are, flush_by, multiple_by, turn_by}
use Rattle.words.proofs.Start.{crc_word, le_split}

-- ---- the multiple: its terms one after the other, as registers of 32 bits

apart : (k n a : ℕ) → 1 ≤ k → bit_steps (k + n) (a * 2 ^ k + 1) ≡ bit_xor (bit_steps n a) (bit_steps (k + n) 1)
apart k n a h =
    ap (bit_steps (k + n)) (sym (xor_shifted a k 1 (lt_of_lt_of_le (lit< tt) (pow_mono {i = 1} h))))
    ∙ steps_xor (k + n) (a * 2 ^ k) 1
    ∙ ap (λ (y : ℕ). bit_xor y (bit_steps (k + n) 1)) (steps-add k n (a * 2 ^ k) ∙ ap (bit_steps n) (steps_shifted k a))

terms : bit_xor (bit_xor (bit_xor (bit_xor (2 ^ 31) (bit_steps 1337 1)) (bit_steps 1809 1)) (bit_steps 1841 1)) (bit_steps 4089 1) ≡ 0
unfolding bit_steps bit_step
terms = refl

fold_is : multiple_by 8 folds 4112 1 ≡ (((2 ^ 31 * 2 ^ 1337 + 1) * 2 ^ 472 + 1) * 2 ^ 32 + 1) * 2 ^ 2248 + 1
unfolding mix
fold_is = refl

last_term : bit_steps 1337 (2 ^ 31 * 2 ^ 1337 + 1) ≡ bit_xor (2 ^ 31) (bit_steps 1337 1)
unfolding bit_steps
last_term = apart 1337 0 (2 ^ 31) (lit≤ tt)

fold_gone : bit_steps 4089 (multiple_by 8 folds 4112 1) ≡ 0
fold_gone =
    let a₂ = 2 ^ 31 * 2 ^ 1337 + 1 in
    let a₁ = a₂ * 2 ^ 472 + 1 in
    let a₀ = a₁ * 2 ^ 32 + 1 in
    ap (bit_steps 4089) fold_is
    ∙ apart 2248 1841 a₀ (lit≤ tt)
    ∙ ap (λ (y : ℕ). bit_xor y (bit_steps 4089 1))
    (apart 32 1809 a₁ (lit≤ tt)
    ∙ ap (λ (y : ℕ). bit_xor y (bit_steps 1841 1))
    (apart 472 1337 a₂ (lit≤ tt) ∙ ap (λ (y : ℕ). bit_xor y (bit_steps 1809 1)) last_term))
    ∙ terms

-- ---- numbers of the bytes of a window

num_++ : (xs ys : List ℕ) → num (xs ++ ys) ≡ num ys * 2 ^ (8 * length xs) + num xs
num_++ xs ys =
    le_split (length xs) (xs ++ ys) (omega (arith, length-append xs ys))
    ∙ ap₂ (λ (a b : List ℕ). num a * 2 ^ (8 * length xs) + num b) (drop-append_seam xs ys) (take-append_seam xs ys)

length_part : (w : List ℕ) (q k : ℕ) → q + k ≤ length w → length (take k (drop q w)) ≡ k
length_part w q k h = length-take-le k (drop q w) (omega (arith, length-drop q w))

-- k bytes, and m above them
field_split : (w : List ℕ) (q k m : ℕ) → q + k ≤ length w → field_at w q (k + m) ≡ field_at w (q + k) m * 2 ^ (8 * k) + field_at w q k
unfolding field_at
field_split w q k m h =
    ap num (take-add k m (drop q w))
    ∙ num_++ (take k (drop q w)) (take m (drop k (drop q w)))
    ∙ ap₂ (λ (l : List ℕ) (n : ℕ). num (take m l) * 2 ^ (8 * n) + num (take k (drop q w))) (drop-drop k q w) (length_part w q k h)

-- one byte of them
byte_of : (w : List ℕ) (q n k : ℕ) → Bytes w → k < n → q + k < length w → field_at w q n / 2 ^ (8 * k) % 2 ^ 8 ≡ get_or w (q + k) 0
byte_of w q n k hw h hq =
    let m = n - (k + 1) in
    let e : n ≡ k + suc m = omega arith in
    ap (λ (y : ℕ). field_at w q y / 2 ^ (8 * k) % 2 ^ 8) e
    ∙ ap (λ (y : ℕ). y / 2 ^ (8 * k) % 2 ^ 8) (field_split w q k (suc m) (omega arith))
    ∙ ap (λ (y : ℕ). y % 2 ^ 8) (high (field_at w (q + k) (suc m)) (8 * k) (field_below w q k k hw (omega arith)) ∙ field_more w (q + k) m hq)
    ∙ low (field_at w (suc (q + k)) m) 8 (hw (q + k)).fits

-- one byte more, at the high end
pub field_put : (w : List ℕ) (q k x : ℕ) → q + k < length w → field_at (set w (q + k) x) q (suc k) ≡ x * 2 ^ (8 * k) + field_at w q k
unfolding field_at num
field_put w q k x h =
    ap (λ (l : List ℕ). num (take (suc k) l)) (drop-set-add q w k x)
    ∙ ap num (take-suc-set (drop q w) k x (omega (arith, length-drop q w)))
    ∙ num_++ (take k (drop q w)) (x ∷ [])
    ∙ ap₂ (λ (a n : ℕ). a * 2 ^ (8 * n) + num (take k (drop q w))) (zero-add x) (length_part w q k (omega arith))

-- all from q on
pub field_all : (w : List ℕ) (q n : ℕ) → length w ≤ q + n → field_at w q n ≡ num (drop q w)
unfolding field_at
field_all w q n h = ap num (take_all n (drop q w) (omega (arith, length-drop q w)))

pub num_cons : (s : List ℕ) (i : ℕ) → i < length s → num (drop i s) ≡ num (drop (suc i) s) * 2 ^ 8 + get_or s i 0
unfolding num
num_cons s i h = ap num (drop-cons s i 0 h)

-- ---- what falls on a byte

falls : (w : List ℕ) (q n : ℕ) → Bytes w → 235 ≤ n → q + 235 ≤ length w → mix folds (field_at w q n) % 2 ^ 8 ≡ fallen w q
falls w q n hw hn h =
    let H = field_at w q n in
    words_are 8 folds H
    ∙ ap₂ bit_xor (byte_of w q n 0 hw (omega arith) (omega arith) ∙ ap (λ (k : ℕ). get_or w k 0) (add-zero q))
    (ap₂ bit_xor (byte_of w q n 171 hw (omega arith) (omega arith))
    (ap₂ bit_xor (byte_of w q n 230 hw (omega arith) (omega arith))
    (xor_zero_r (H / 2 ^ 1872 % 2 ^ 8) ∙ byte_of w q n 234 hw (omega arith) (omega arith))))

byte-below : (m b x : ℕ) → b < 2 ^ 8 → x ≡ bit_xor (m % 2 ^ 8) b → x < 2 ^ 8
byte-below m b x h e = rw e (xor_lt 8 (m % 2 ^ 8) b (mod-lt m (pow_pos 8)) h)

-- ---- arrays of bytes

pub bytes_of : {n : ℕ} {w : List ℕ} → Filled n w → Bytes w
bytes_of h i = record { fits = h.each i }

set-each : (w : List ℕ) (i j x : ℕ) → ((k : ℕ) → get_or w k 0 < 256) → x < 256 → get_or (set w i x) j 0 < 256
set-each [] i j x h hx = h j
set-each (y ∷ w) zero zero x h hx = hx
set-each (y ∷ w) zero (suc j) x h hx = h (suc j)
set-each (y ∷ w) (suc i) zero x h hx = h 0
set-each (y ∷ w) (suc i) (suc j) x h hx = set-each w i j x (λ k. h (suc k)) hx

pub filled-set : {n : ℕ} (w : List ℕ) (i x : ℕ) → Filled n w → x < 256 → Filled n (set w i x)
filled-set w i x h hx = record { size = length-set w i x ∙ h.size; each = λ j. set-each w i j x h.each hx }

none_each : (n i : ℕ) → get_or (replicate n 0) i 0 < 256
none_each zero i = lit< tt
none_each (suc n) zero = lit< tt
none_each (suc n) (suc i) = none_each n i

pub filled_none : (n : ℕ) → Filled n (replicate n 0)
filled_none n = record { size = length-replicate n 0; each = none_each n }

pub taken_below : (s w : List ℕ) (i q : ℕ) → Bytes s → Bytes w → bit_xor (fallen w q) (get_or s i 0) < 256
taken_below s w i q hs hw =
    let f : (j : ℕ) → get_or w j 0 < 2 ^ 8 = λ j. (hw j).fits in
    let x : (a b : ℕ) → a < 2 ^ 8 → b < 2 ^ 8 → bit_xor a b < 2 ^ 8 = xor_lt 8 in
    x (fallen w q) (get_or s i 0)
    (x (get_or w q 0) _ (f q) (x (get_or w (q + 171) 0) _ (f (q + 171)) (x (get_or w (q + 230) 0) _ (f (q + 230)) (f (q + 234)))))
    (hs i).fits

-- one byte is taken into the window
pub fold_turn : (s w : List ℕ) (i q i' q' x : ℕ) → Bytes s → Bytes w → i + 516 ≤ length s → q + 515 < length w → i' ≡ suc i → q' ≡ suc q → x ≡ bit_xor (fallen w q) (get_or s i 0)
    → register s (set w (q + 515) x) i' q' ≡ register s w i q
fold_turn s w i q i' q' x hs hw hi hq eᵢ eₚ e =
    let M = 8 * (length s - suc i) in
    let n : 8 * (length s - i) ≡ 8 + M = omega arith in
    let h = get_or w q 0 in
    let G = field_at w (suc q) 514 in
    let b = get_or s i 0 in
    let R = num (drop (suc i) s) in
    let H : field_at w q 515 ≡ G * 2 ^ 8 + h = field_more w q 514 (omega arith) in
    let e' : x ≡ bit_xor (mix folds (G * 2 ^ 8 + h) % 2 ^ 8) b =
    e ∙ ap (λ (y : ℕ). bit_xor y b) (sym (falls w q 515 hw (lit≤ tt) (omega arith)) ∙ ap (λ (y : ℕ). mix folds y % 2 ^ 8) H) in
    let p : q + 515 ≡ suc q + 514 = omega arith in
    let w' : field_at (set w (q + 515) x) (suc q) 515 ≡ bit_xor (x * 2 ^ 4112) G =
    ap (λ (y : ℕ). field_at (set w y x) (suc q) 515) p
    ∙ field_put w (suc q) 514 x (omega arith)
    ∙ sym (xor_shifted x 4112 G (field_below w (suc q) 514 514 hw (lit≤ tt))) in
    sym
    (ap₂ (λ (k y : ℕ). bit_steps k (bit_xor (mix folds y) (num (drop i s)))) n H
    ∙ ap (λ (y : ℕ). bit_steps (8 + M) (bit_xor (mix folds (G * 2 ^ 8 + h)) y)) (num_cons s i (omega arith))
    ∙ turn_by 8 folds 4112 4088 tt fold_gone h G b R M (hw q).fits (hs i).fits (omega arith) x
    (byte-below (mix folds (G * 2 ^ 8 + h)) b x (hs i).fits e') e'
    ∙ ap (λ (y : ℕ). bit_steps M (bit_xor (mix folds y) R)) (sym w')
    ∙ ap₂ (register s (set w (q + 515) x)) (sym eᵢ) (sym eₚ))

-- ---- the last bytes of the window, moved to its front

-- n bytes copied from b to a
pub moved : (w : List ℕ) (a b n : ℕ) → a + n ≤ length w → b + n ≤ length w → field_at (paste w a (drop b w) n) a n ≡ field_at w b n
unfolding field_at
moved w a b n ha hb =
    let v = take n (drop b w) in
    let e : length (take a w) ≡ a = length-take-le a w (omega arith) in
    ap num
    (sym (drop-take a n (paste w a (drop b w) n))
    ∙ ap (drop a) (take-paste w a (drop b w) n (omega arith) (omega (arith, length-drop b w)))
    ∙ drop_at (take a w) v a e)

-- ---- nothing after them

num_none : (n : ℕ) → num (replicate n 0) ≡ 0
unfolding num
num_none zero = refl
num_none (suc n) = ap (λ (y : ℕ). y * 256 + 0) (num_none n)

-- zeros written after 515 bytes, to the end
pub cleared : (w v : List ℕ) (q m k : ℕ) → q + 515 ≤ length w → length w ≤ q + 515 + m → v ≡ replicate k 0 → num (drop q (put_mid (q + 515) m w v)) ≡ field_at w q 515
unfolding field_at
cleared w v q m k h hm e =
    let a = q + 515 in
    let n : length (take a w) ≡ a = length-take-le a w h in
    let p : put_mid a m w v ≡ take a w ++ replicate k 0 =
    ap₂ (λ (x y : List ℕ). take a w ++ (x ++ y)) e (drop_all m (drop a w) (omega (arith, length-drop a w))) ∙ ap (λ (x : List ℕ). take a w ++ x) (append-nil (replicate k 0)) in
    ap (λ (x : List ℕ). num (drop q x)) p
    ∙ ap num (drop-append-le q (take a w) (replicate k 0) (omega arith))
    ∙ num_++ (drop q (take a w)) (replicate k 0)
    ∙ ap₂ (λ (x : ℕ) (y : List ℕ). x * 2 ^ (8 * length (drop q (take a w))) + num y) (num_none k) (drop-take q 515 w)
    ∙ ap (λ (x : ℕ). x + num (take 515 (drop q w))) (zero-mul (2 ^ (8 * length (drop q (take a w)))))
    ∙ zero-add (num (take 515 (drop q w)))

-- ---- the bytes that are left, with what is owed to them

abbrev pub Left : List ℕ → List ℕ → ℕ → ℕ → ℕ
Left s w p q = bit_xor (mix folds (num (drop q w))) (num (drop p s))

digits : (y x f P : ℕ) → (y * 2 ^ 8 + x) * P + f ≡ y * (2 ^ 8 * P) + (x * P + f)
digits y x f P =
    ap (λ (z : ℕ). z + f) (add-mul (y * 2 ^ 8) x P)
    ∙ add_assoc (y * 2 ^ 8 * P) (x * P) f
    ∙ ap (λ (z : ℕ). z + (x * P + f)) (mul_assoc y (2 ^ 8) P)

pub pay_turn : (s w r : List ℕ) (p q j x : ℕ) → Bytes s → Bytes w → p + j < length s → q + j + 235 ≤ length w → j < length r
    → x ≡ bit_xor (fallen w (q + j)) (get_or s (p + j) 0)
    → Left s w (p + (j + 1)) (q + (j + 1)) * 2 ^ (8 * (j + 1)) + field_at (set r j x) 0 (j + 1) ≡ Left s w (p + j) (q + j) * 2 ^ (8 * j) + field_at r 0 j
pay_turn s w r p q j x hs hw hp hq hr e =
    let a = q + j in
    let i = p + j in
    let h = get_or w a 0 in
    let b = get_or s i 0 in
    let G = num (drop (suc a) w) in
    let R = num (drop (suc i) s) in
    let Y = bit_xor (mix folds G) R in
    let N : num (drop a w) ≡ G * 2 ^ 8 + h = num_cons w a (omega arith) in
    let e' : x ≡ bit_xor (mix folds (G * 2 ^ 8 + h) % 2 ^ 8) b =
    e ∙ ap (λ (y : ℕ). bit_xor y b)
    (sym (falls w a (length w - a) hw (omega arith) hq) ∙ ap (λ (y : ℕ). mix folds y % 2 ^ 8) (field_all w a (length w - a) (omega arith) ∙ N)) in
    let F : Left s w i a ≡ Y * 2 ^ 8 + x =
    ap₂ (λ (u v : ℕ). bit_xor (mix folds u) v) N (num_cons s i hp)
    ∙ flush_by 8 folds h G b R (hw a).fits (hs i).fits
    ∙ ap (λ (y : ℕ). Y * 2 ^ 8 + y) (sym e') in
    let eᵢ : p + (j + 1) ≡ suc i = omega arith in
    let eₐ : q + (j + 1) ≡ suc a = omega arith in
    let e₈ : 8 * (j + 1) ≡ 8 + 8 * j = omega arith in
    sym
    (ap (λ (y : ℕ). y * 2 ^ (8 * j) + field_at r 0 j) F
    ∙ digits Y x (field_at r 0 j) (2 ^ (8 * j))
    ∙ ap₂ (λ (u v : ℕ). Y * u + v) (sym (ap (λ (y : ℕ). 2 ^ y) e₈ ∙ pow-add 2 8 (8 * j)))
    (sym (ap₂ (λ (k m : ℕ). field_at (set r k x) 0 m) (sym (zero-add j)) (add-one j) ∙ field_put r 0 j x (omega arith)))
    ∙ ap₂ (λ (u v : ℕ). Left s w u v * 2 ^ (8 * (j + 1)) + field_at (set r j x) 0 (j + 1)) (sym eᵢ) (sym eₐ))

pub pay_start : (s w r : List ℕ) (p q : ℕ) → Left s w (p + 0) (q + 0) * 2 ^ (8 * 0) + field_at r 0 0 ≡ Left s w p q
unfolding field_at num
pay_start s w r p q =
    add-zero (Left s w (p + 0) (q + 0) * 1) ∙ mul-one (Left s w (p + 0) (q + 0)) ∙ ap₂ (Left s w) (add-zero p) (add-zero q)

none_after : (w : List ℕ) (q n : ℕ) → Bytes w → num (drop q w) < 2 ^ 4120 → 515 ≤ n → q + n ≤ length w → num (drop (q + n) w) ≡ 0
unfolding field_at
none_after w q n hw h hn l =
    let e : num (drop q w) / 2 ^ (8 * n) ≡ num (drop (q + n) w) =
    ap (λ (y : ℕ). y / 2 ^ (8 * n)) (le_split n (drop q w) (omega (arith, length-drop q w)))
    ∙ high (num (drop n (drop q w))) (8 * n) (field_below w q n n hw (omega arith))
    ∙ ap num (drop-drop n q w) in
    sym e ∙ div-eq_of_lt (lt_of_lt_of_le h (pow_mono {i = 4120} (omega arith)))

mix-none : mix folds 0 ≡ 0
unfolding mix
mix-none = refl

pub pay_end : (s w r : List ℕ) (p q n : ℕ) → Bytes w → num (drop q w) < 2 ^ 4120 → 515 ≤ n → q + n ≤ length w → length s ≤ p + n
    → Left s w (p + n) (q + n) * 2 ^ (8 * n) + field_at r 0 n ≡ Left s w p q → field_at r 0 n ≡ Left s w p q
unfolding num
pay_end s w r p q n hw h hn l hs e =
    sym
    (ap₂ (λ (u : ℕ) (v : List ℕ). bit_xor (mix folds u) (num v) * 2 ^ (8 * n) + field_at r 0 n) (none_after w q n hw h hn l) (drop_of_length-le s {i = p + n} hs)
    ∙ ap (λ (y : ℕ). bit_xor y 0 * 2 ^ (8 * n) + field_at r 0 n) mix-none
    ∙ ap (λ (y : ℕ). y + field_at r 0 n) (zero-mul (2 ^ (8 * n)))
    ∙ zero-add (field_at r 0 n))
    ∙ e

-- ---- the register at the start, and at the end

mix-small : (c : ℕ) → c < 2 ^ 32 → mix folds c ≡ c
unfolding mix
mix-small c h =
    let gone : (k : ℕ) → 32 ≤ k → c / 2 ^ k ≡ 0 = λ k hk. div-eq_of_lt (lt_of_lt_of_le h (pow_mono {i = 32} hk)) in
    let one : c / 2 ^ 0 ≡ c = omega arith in
    ap₂ bit_xor one (ap₂ bit_xor (gone 1368 (lit≤ tt)) (ap₂ bit_xor (gone 1840 (lit≤ tt)) (ap (λ (y : ℕ). bit_xor y 0) (gone 1872 (lit≤ tt)))))
    ∙ xor_zero_r c

pub fold_start : (c : ℕ) (s w : List ℕ) (q : ℕ) → Bytes s → c < 2 ^ 32 → field_at w q 515 ≡ c
    → register s w 0 q ≡ crc_from c s
fold_start c s w q hs hc e =
    let n : length s - 0 ≡ length s = omega arith in
    ap₂ (λ (k y : ℕ). bit_steps (8 * k) (bit_xor y (num s))) n (ap (mix folds) e ∙ mix-small c hc)
    ∙ sym (crc_word c s hs)

-- the window at the start
abbrev pub first : ℕ → List ℕ
first c = set (set (set (set (replicate 2944 0) 61 (c % 256)) 62 (c / 256 % 256)) 63 (c / 65536 % 256)) 64 (c / 16777216 % 256)

pub started : (c : ℕ) {v : List ℕ} → v ≡ to_le_bytes w32 c → put_mid 61 4 (replicate 2944 0) v ≡ first c
started c e = ap (put_mid 61 4 (replicate 2944 0)) e

pub begun : (c : ℕ) → c < 2 ^ 32 → field_at (first c) 61 515 ≡ c
unfolding field_at num
begun c h = omega arith

pub first-filled : (c : ℕ) → c < 2 ^ 32 → Filled 2944 (first c)
first-filled c h =
    filled-set _ 64 (c / 16777216 % 256)
    (filled-set _ 63 (c / 65536 % 256)
    (filled-set _ 62 (c / 256 % 256) (filled-set _ 61 (c % 256) (filled_none 2944) (omega arith)) (omega arith)) (omega arith))
    (omega arith)

-- what 515 bytes make
pub small : {x : ℕ} (w : List ℕ) (q : ℕ) → Bytes w → x ≡ field_at w q 515 → x < 2 ^ 4120
small w q h e = rw e (field_below w q 515 515 h (lit≤ tt))

pub fold_end : (s w r : List ℕ) (p q n c : ℕ) → Bytes r → n ≤ length r → n ≡ length s - p → field_at r 0 n ≡ bit_xor (owed w q) (num (drop p s))
    → register s w p q ≡ crc_from c s
    → crc_from 0 (take n r) ≡ crc_from c s
unfolding field_at
fold_end s w r p q n c hr hn e f g =
    crc_word 0 (take n r) (bytes_take n r hr)
    ∙ ap₂ (λ (k y : ℕ). bit_steps (8 * k) y) (length-take-le n r hn ∙ e) f
    ∙ g
