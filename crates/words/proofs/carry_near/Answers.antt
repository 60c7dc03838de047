use Rattle.words.proofs.Taps.{near-push}
use Rattle.words.proofs.carry_near.Goals as goal

pub returns : goal.returns
returns c = let a = c.args in
    let k = c.struct_known-1.given in
    near-push a.t.a a.t.b a.t.c a.w k.0.fits k.1.0.fits k.1.1.0.fits c.ranges.w.fits
