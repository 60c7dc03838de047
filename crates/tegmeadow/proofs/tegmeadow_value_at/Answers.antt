-- The same as a value by its change's number, at the entry that the numbers make.
use Rattle.std.proofs.Common.{◌∙◌, ap}
use Rattle.format.specs.AtEntry.{text_at_entry, value_at}
use Rattle.format.specs.declared.Entry.{Entry}
use Rattle.entry.specs.Answer.{valued_answer}
use Rattle.numbers.proofs.Told.{valued_told}
use Rattle.tegmeadow.proofs.tegmeadow_value_at.Goals as goal

pub returns-clause-answer : goal.returns-clause-answer
returns-clause-answer c = let t = valued_told _ _ _ (c.by_number.ensures ∙ c.value_at-x.ensures ∙ ap (λ (e : Entry). valued_answer (text_at_entry c.args.log.now e c.args.side c.args.column) (value_at c.args.log.now e c.args.side c.args.column)) c.entry_in.ensures) in c.put_cell.ensures.0 ∙ t.0

pub returns-clause-cell : goal.returns-clause-cell
returns-clause-cell c = let t = valued_told _ _ _ (c.by_number.ensures ∙ c.value_at-x.ensures ∙ ap (λ (e : Entry). valued_answer (text_at_entry c.args.log.now e c.args.side c.args.column) (value_at c.args.log.now e c.args.side c.args.column)) c.entry_in.ensures) in c.put_cell.ensures.1 ∙ t.2 _
