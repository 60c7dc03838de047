-- Eight bytes at once, and a part by its two places.
-- Assumes nothing.
use mathlib.Core.Path.{◌≡◌, refl}
use mathlib.Core.List.{List}
use Prim.Native.Nat.{ℕ, suc, ◌+◌, ◌-◌, ◌*◌, ◌≤◌, ◌<◌}
use native.Mathlib.Omega.{arith}
use lib.ListN.{length, get_or, take, drop}
use Rattle.format.specs.Bytes.{num, field_at}
use Rattle.wire.proofs.Laws.{field_more}

-- eight bytes, one by one
below : (s : List ℕ) (p q k : ℕ) → q ≡ suc p → p < length s → field_at s p (suc k) ≡ field_at s q k * 256 + get_or s p 0
below s p q k e h = rw e (field_more s p k h)

none_left : (s : List ℕ) (p : ℕ) → field_at s p 0 ≡ 0
unfolding field_at num
none_left s p = refl

pub by_bytes : (s : List ℕ) (at x : ℕ) → at + 8 ≤ length s
    → x ≡ ((((((get_or s (at + 7) 0 * 256 + get_or s (at + 6) 0) * 256 + get_or s (at + 5) 0) * 256 + get_or s (at + 4) 0) * 256 + get_or s (at + 3) 0) * 256 + get_or s (at + 2) 0) * 256
    + get_or s (at + 1) 0) * 256 + get_or s at 0
    → x ≡ field_at s at 8
by_bytes s at x h e =
    let l₀ : field_at s at 8 ≡ field_at s (at + 1) 7 * 256 + get_or s at 0 = below s at (at + 1) 7 (omega arith) (omega arith) in
    let l₁ : field_at s (at + 1) 7 ≡ field_at s (at + 2) 6 * 256 + get_or s (at + 1) 0 = below s (at + 1) (at + 2) 6 (omega arith) (omega arith) in
    let l₂ : field_at s (at + 2) 6 ≡ field_at s (at + 3) 5 * 256 + get_or s (at + 2) 0 = below s (at + 2) (at + 3) 5 (omega arith) (omega arith) in
    let l₃ : field_at s (at + 3) 5 ≡ field_at s (at + 4) 4 * 256 + get_or s (at + 3) 0 = below s (at + 3) (at + 4) 4 (omega arith) (omega arith) in
    let l₄ : field_at s (at + 4) 4 ≡ field_at s (at + 5) 3 * 256 + get_or s (at + 4) 0 = below s (at + 4) (at + 5) 3 (omega arith) (omega arith) in
    let l₅ : field_at s (at + 5) 3 ≡ field_at s (at + 6) 2 * 256 + get_or s (at + 5) 0 = below s (at + 5) (at + 6) 2 (omega arith) (omega arith) in
    let l₆ : field_at s (at + 6) 2 ≡ field_at s (at + 7) 1 * 256 + get_or s (at + 6) 0 = below s (at + 6) (at + 7) 1 (omega arith) (omega arith) in
    let l₇ : field_at s (at + 7) 1 ≡ field_at s (at + 8) 0 * 256 + get_or s (at + 7) 0 = below s (at + 7) (at + 8) 0 (omega arith) (omega arith) in
    let l₈ : field_at s (at + 8) 0 ≡ 0 = none_left s (at + 8) in
    omega arith

-- ---- a part by its two places

pub same-take : (s : List ℕ) (at n : ℕ) → take (at + n - at) (drop at s) ≡ take n (drop at s)
same-take s at n = let z : at + n - at ≡ n = omega arith in rw z
