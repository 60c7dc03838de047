use Rattle.words.proofs.Factors.{it, moved, both, flat_down, mix-sum}
use Rattle.words.specs.Words.{next}
use mathlib.Core.Path.{sym, ◌∙◌}
use Rattle.words.proofs.next_high.Goals as goal

pub returns : goal.returns
returns c = let x = c.args.x in
    let h = moved 33 it in
    let u = both h (moved 1 h) in
    let v = both h (moved 2 h) in
    flat_down (both (both u (moved 4 u)) (both (moved 8 (both v (moved 4 v))) (both (moved 24 h) (moved 27 (both u (moved 2 u)))))) x ∙ sym (mix-sum next x)
