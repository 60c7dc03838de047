use Rattle.words.proofs.Factors.{it, moved, both, flat_down, mix-sum}
use Rattle.words.specs.Words.{itself}
use mathlib.Core.Path.{sym, ◌∙◌}
use Rattle.words.proofs.above.Goals as goal

pub returns : goal.returns
returns c = let u = both it (moved 1 it) in
    flat_down
    (both u (both (moved 2 it) (both (moved 4 (both u (moved 3 u))) (both (moved 10 u) (both (moved 12 it) (both (moved 16 it)
    (both (moved 22 u) (moved 26 it)))))))) c.args.t
    ∙ sym (mix-sum itself c.args.t)
