use Rattle.words.proofs.Taps.{last_word}
use mathlib.Core.Path.{◌∙◌}
use Rattle.words.proofs.last_one.Goals as goal

pub returns : goal.returns
returns c = let x = c.args.x in
    c.above.ensures
    ∙ last_word x c.inverse_one.result c.inverse_two.result c.ranges.x.fits
    c.inverse_one.ensures c.inverse_two.ensures
