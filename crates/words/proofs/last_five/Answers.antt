use Rattle.words.proofs.Taps.{middle-push}
use Rattle.words.proofs.Carry.{meet, shifts, sum}
use Rattle.words.specs.Words.{on, middle}
use Rattle.format.specs.Crc.{bit_steps}
use lib.Dec.{lit≤}
use lib.Bits.{xor_zero_r}
use Prim.Native.Nat.{ℕ}
use mathlib.Core.Path.{ap, ◌∙◌}
use Rattle.words.proofs.last_five.Goals as goal

pub returns : goal.returns
returns c = let f = c.args.f in
    let k = c.struct_known-1.given in
    let d = meet f.d (shifts 128 middle f.a) in
    let e = meet f.e (shifts 64 middle f.a) in
    let z = sum (shifts 0 middle f.a) in
    c.last_two.ensures
    ∙ c.carry_near-r.ensures 128 z (lit≤ tt)
    ∙ c.carry_near.ensures 192 (on e z) (lit≤ tt)
    ∙ ap (λ (y : ℕ). bit_steps 256 (on f.b (on (meet f.c (shifts 192 middle f.a)) y))) (xor_zero_r (on d (on e z)))
    ∙ middle-push f.a f.b f.c f.d f.e k.0.fits k.1.0.fits k.1.1.0.fits k.1.1.1.0.fits k.1.1.1.1.0.fits
