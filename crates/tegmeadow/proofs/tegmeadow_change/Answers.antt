-- What is returned and written for the code's answer is what the definition's asks.
use Rattle.std.proofs.Common.{◌∙◌}
use Rattle.numbers.proofs.Told.{changed_told}
use Rattle.tegmeadow.proofs.tegmeadow_change.Goals as goal

pub returns-in-Err-clause-answer : goal.returns-in-Err-clause-answer
returns-in-Err-clause-answer c = let t = changed_told _ _ c.in-Err.ensures in c.from.ensures ∙ c.number.ensures ∙ t.0

pub returns-in-Err-clause-place : goal.returns-in-Err-clause-place
returns-in-Err-clause-place c = let t = changed_told _ _ c.in-Err.ensures in t.1

pub returns-in-Err-clause-entry : goal.returns-in-Err-clause-entry
returns-in-Err-clause-entry c = let t = changed_told _ _ c.in-Err.ensures in t.2 _

pub returns-in-Err-clause-table : goal.returns-in-Err-clause-table
returns-in-Err-clause-table c = let t = changed_told _ _ c.in-Err.ensures in t.3 _

pub returns-in-Err-clause-columns : goal.returns-in-Err-clause-columns
returns-in-Err-clause-columns c = let t = changed_told _ _ c.in-Err.ensures in t.4 _

pub returns-in-Ok-clause-answer : goal.returns-in-Ok-clause-answer
returns-in-Ok-clause-answer c = let t = changed_told _ _ c.in-Ok.ensures in t.0

pub returns-in-Ok-clause-place : goal.returns-in-Ok-clause-place
returns-in-Ok-clause-place c = let t = changed_told _ _ c.in-Ok.ensures in t.1

pub returns-in-Ok-clause-entry : goal.returns-in-Ok-clause-entry
returns-in-Ok-clause-entry c = let t = changed_told _ _ c.in-Ok.ensures in c.put_entry.ensures ∙ t.2 _

pub returns-in-Ok-clause-table : goal.returns-in-Ok-clause-table
returns-in-Ok-clause-table c = let t = changed_told _ _ c.in-Ok.ensures in c.put_table.ensures.table ∙ t.3 _

pub returns-in-Ok-clause-columns : goal.returns-in-Ok-clause-columns
returns-in-Ok-clause-columns c = let t = changed_told _ _ c.in-Ok.ensures in c.put_table.ensures.columns ∙ t.4 _
