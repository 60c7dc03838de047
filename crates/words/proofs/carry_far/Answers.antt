use Rattle.words.proofs.Taps.{far-push}
use Rattle.words.proofs.carry_far.Goals as goal

pub returns : goal.returns
returns c = let a = c.args in
    let k = c.struct_known-1.given in
    far-push a.f.a a.f.b a.f.c a.f.d a.f.e a.w k.0.fits k.1.0.fits k.1.1.0.fits k.1.1.1.0.fits k.1.1.1.1.0.fits
    c.ranges.w.fits
