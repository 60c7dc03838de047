use Rattle.words.proofs.Factors.{it, moved, both, flat_up}
use Rattle.words.proofs.Carry.{shifts_are}
use Rattle.words.specs.Words.{inverse₂}
use lib.Bits.{bit_xor}
use mathlib.Core.Path.{sym, ap, ◌∙◌}
use Rattle.words.proofs.inverse_two.Goals as goal

pub returns : goal.returns
returns c = let x = c.args.x in
    let h = c.ranges.x.fits in
    let u = both it (moved 1 it) in
    let v = both it (moved 3 it) in
    flat_up
    (both v (both (moved 9 u) (both (moved 13 v) (both (moved 24 v) (both (moved 28 it) (both (moved 34 it) (both (moved 40 it)
    (both (moved 45 it) (both (moved 50 it) (moved 54 u)))))))))) x h
    ∙ ap (bit_xor x) (sym (shifts_are 64 inverse₂ x h))
