use Rattle.words.proofs.Taps.{last_words}
use Rattle.words.proofs.last_two.Goals as goal

pub returns : goal.returns
returns c = let a = c.args in
    let f = c.ranges in
    cc (last_words a.a a.b a.c f.a.fits f.b.fits)
