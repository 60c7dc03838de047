use Rattle.words.proofs.Factors.{it, moved, both, flat_up}
use Rattle.words.proofs.Carry.{shifts_are}
use Rattle.words.specs.Words.{next}
use mathlib.Core.Path.{sym, ◌∙◌}
use Rattle.words.proofs.next_low.Goals as goal

pub returns : goal.returns
returns c = let x = c.args.x in
    let h = c.ranges.x.fits in
    let u = both (moved 1 it) it in
    let v = both (moved 2 it) it in
    flat_up (both (moved 26 (both (moved 4 u) u)) (both (moved 17 (both (moved 4 v) v)) (both (moved 7 it) (moved 1 (both (moved 2 u) u))))) x h
    ∙ sym (shifts_are 64 next x h)
