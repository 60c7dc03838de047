-- What is returned and written for the code's answer is what the definition's asks.
use Rattle.std.proofs.Common.{◌∙◌}
use Rattle.numbers.proofs.Told.{valued_told}
use Rattle.tegmeadow.proofs.tegmeadow_value.Goals as goal

pub returns-clause-answer : goal.returns-clause-answer
returns-clause-answer c = let t = valued_told _ _ _ (c.by_number-x.ensures ∙ c.value.ensures) in c.put_cell.ensures.0 ∙ t.0

pub returns-clause-place : goal.returns-clause-place
returns-clause-place c = let t = valued_told _ _ _ (c.by_number-x.ensures ∙ c.value.ensures) in c.place_of.ensures ∙ t.1

pub returns-clause-cell : goal.returns-clause-cell
returns-clause-cell c = let t = valued_told _ _ _ (c.by_number-x.ensures ∙ c.value.ensures) in c.put_cell.ensures.1 ∙ t.2 _
