-- A listing answers as Check does.
use Rattle.std.proofs.Common.{◌∙◌}
use Rattle.numbers.proofs.Told.{listed-is}
use Rattle.tegmeadow.proofs.tegmeadow_list.Goals as goal

pub returns-clause-answer : goal.returns-clause-answer
returns-clause-answer c = let t = c.put_checked.ensures _ (c.by_number.ensures ∙ c.list.ensures.answer ∙ listed-is _) in t.0

pub returns-clause-place : goal.returns-clause-place
returns-clause-place c = let t = c.put_checked.ensures _ (c.by_number.ensures ∙ c.list.ensures.answer ∙ listed-is _) in t.1

pub returns-clause-events : goal.returns-clause-events
returns-clause-events c = let t = c.put_checked.ensures _ (c.by_number.ensures ∙ c.list.ensures.answer ∙ listed-is _) in t.2

pub returns-clause-changes : goal.returns-clause-changes
returns-clause-changes c = let t = c.put_checked.ensures _ (c.by_number.ensures ∙ c.list.ensures.answer ∙ listed-is _) in t.3
