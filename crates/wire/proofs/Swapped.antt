-- Eight bytes in the opposite order, as `swap_bytes` makes them.
-- Assumes nothing.
use mathlib.Core.Path.{◌≡◌, refl, sym, ap, ◌∙◌}
use native.Mathlib.Nat.{add-zero}
use Prim.Native.Nat.{ℕ, ◌+◌, ◌*◌, ◌/◌, ◌%◌, ◌<◌}
use native.Mathlib.Omega.{arith}
use mir.Syntax.{w64}
use lib.ListN.{get_or}
use Rattle.std.specs.Int.{swap_bytes}
use Rattle.wire.specs.Answer.{TurnedIs}
use Rattle.wire.proofs.Laws.{big_start, big_turn}
use Rattle.wire.proofs.Same.{by_bytes}

swap_is : (x : ℕ) → swap_bytes w64 x
    ≡ x % 256 * 72057594037927936 + x / 256 % 256 * 281474976710656 + x / 65536 % 256 * 1099511627776 + x / 16777216 % 256 * 4294967296
    + x / 4294967296 % 256 * 16777216 + x / 1099511627776 % 256 * 65536 + x / 281474976710656 % 256 * 256 + x / 72057594037927936 % 256
swap_is x = refl

-- the digits of eight bytes
digits : (x a b c d e f g h : ℕ) → a < 256 → b < 256 → c < 256 → d < 256 → e < 256 → f < 256 → g < 256 → h < 256
    → x ≡ ((((((h * 256 + g) * 256 + f) * 256 + e) * 256 + d) * 256 + c) * 256 + b) * 256 + a
    → swap_bytes w64 x ≡ ((((((a * 256 + b) * 256 + c) * 256 + d) * 256 + e) * 256 + f) * 256 + g) * 256 + h
digits x a b c d e f g h ka kb kc kd ke kf kg kh z =
    let d₀ : x % 256 ≡ a = omega arith in
    let d₁ : x / 256 % 256 ≡ b = omega arith in
    let d₂ : x / 65536 % 256 ≡ c = omega arith in
    let d₃ : x / 16777216 % 256 ≡ d = omega arith in
    let d₄ : x / 4294967296 % 256 ≡ e = omega arith in
    let d₅ : x / 1099511627776 % 256 ≡ f = omega arith in
    let d₆ : x / 281474976710656 % 256 ≡ g = omega arith in
    let d₇ : x / 72057594037927936 % 256 ≡ h = omega arith in
    omega (arith, swap_is x)

pub swapped : (x r : ℕ) → r ≡ swap_bytes w64 x → TurnedIs x r
swapped x r e s at b l z =
    let t₀ = big_turn s at 0 (omega arith) in
    let t₁ = big_turn s at 1 (omega arith) in
    let t₂ = big_turn s at 2 (omega arith) in
    let t₃ = big_turn s at 3 (omega arith) in
    let t₄ = big_turn s at 4 (omega arith) in
    let t₅ = big_turn s at 5 (omega arith) in
    let t₆ = big_turn s at 6 (omega arith) in
    let t₇ = big_turn s at 7 (omega arith) in
    let o = big_start s at in
    let p : get_or s (at + 0) 0 ≡ get_or s at 0 = ap (λ (y : ℕ). get_or s y 0) (add-zero at) in
    let g : ℕ → ℕ = λ i. get_or s (at + i) 0 in
    let n = by_bytes s at (((((((g 7 * 256 + g 6) * 256 + g 5) * 256 + g 4) * 256 + g 3) * 256 + g 2) * 256 + g 1) * 256 + get_or s at 0) l refl in
    let d = digits x (get_or s at 0) (g 1) (g 2) (g 3) (g 4) (g 5) (g 6) (g 7) (b at) (b (at + 1)) (b (at + 2)) (b (at + 3)) (b (at + 4)) (b (at + 5)) (b (at + 6)) (b (at + 7)) (z ∙ sym n) in
    omega arith
