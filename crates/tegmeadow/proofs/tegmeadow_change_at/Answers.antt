-- The same as a change by its number, at the entry that the numbers make.
use Rattle.std.proofs.Common.{◌∙◌, ap}
use Rattle.format.specs.AtEntry.{change_at_entry}
use Rattle.format.specs.declared.Entry.{Entry}
use Rattle.entry.specs.Answer.{changed_answer}
use Rattle.numbers.proofs.Told.{changed_told}
use Rattle.tegmeadow.proofs.tegmeadow_change_at.Goals as goal

pub returns-in-Err-clause-answer : goal.returns-in-Err-clause-answer
returns-in-Err-clause-answer c = let t = changed_told _ _ (c.in-Err.ensures ∙ ap (λ (e : Entry). changed_answer (change_at_entry c.args.log.now e)) c.entry_in.ensures) in c.from.ensures ∙ c.number.ensures ∙ t.0

pub returns-in-Err-clause-table : goal.returns-in-Err-clause-table
returns-in-Err-clause-table c = let t = changed_told _ _ (c.in-Err.ensures ∙ ap (λ (e : Entry). changed_answer (change_at_entry c.args.log.now e)) c.entry_in.ensures) in t.3 _

pub returns-in-Err-clause-columns : goal.returns-in-Err-clause-columns
returns-in-Err-clause-columns c = let t = changed_told _ _ (c.in-Err.ensures ∙ ap (λ (e : Entry). changed_answer (change_at_entry c.args.log.now e)) c.entry_in.ensures) in t.4 _

pub returns-in-Ok-clause-answer : goal.returns-in-Ok-clause-answer
returns-in-Ok-clause-answer c = let t = changed_told _ _ (c.in-Ok.ensures ∙ ap (λ (e : Entry). changed_answer (change_at_entry c.args.log.now e)) c.entry_in.ensures) in t.0

pub returns-in-Ok-clause-table : goal.returns-in-Ok-clause-table
returns-in-Ok-clause-table c = let t = changed_told _ _ (c.in-Ok.ensures ∙ ap (λ (e : Entry). changed_answer (change_at_entry c.args.log.now e)) c.entry_in.ensures) in c.put_table.ensures.table ∙ t.3 _

pub returns-in-Ok-clause-columns : goal.returns-in-Ok-clause-columns
returns-in-Ok-clause-columns c = let t = changed_told _ _ (c.in-Ok.ensures ∙ ap (λ (e : Entry). changed_answer (change_at_entry c.args.log.now e)) c.entry_in.ensures) in c.put_table.ensures.columns ∙ t.4 _
