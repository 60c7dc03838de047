use mathlib.Core.Path.{sym, ap, ◌∙◌}
use Rattle.numbers.specs.Answer.{telling}
use Rattle.numbers.proofs.Told.{checked_told}
use Rattle.numbers.proofs.put_checked.Goals as goal

pub returns-in-Err : goal.returns-in-Err
returns-in-Err c = λ y i. let t = checked_told _ y (sym (ap telling c.in-Err.is) ∙ i) in (c.from.ensures ∙ t.0, t.1, t.2, t.3)

pub returns-in-Ok : goal.returns-in-Ok
returns-in-Ok c = λ y i. checked_told _ y (sym (ap telling c.in-Ok.is) ∙ i)
