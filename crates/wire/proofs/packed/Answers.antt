use mathlib.Core.Path.{◌∙◌}
use borrow.Author.Rules.{rules}
use Rattle.wire.proofs.PackedAt.{packed-end, packed-one, packed-two, packed-three, packed-eight, packed_no}
use Rattle.wire.proofs.packed.Goals as goal

pub returns-then-s-at : goal.returns-then-s-at
returns-then-s-at c = search (rules, packed-end)

pub returns-in-252 : goal.returns-in-252
returns-in-252 c = c.long.ensures ∙ search (rules, packed-two)

pub returns-in-253 : goal.returns-in-253
returns-in-253 c = c.long-in-253.ensures ∙ search (rules, packed-three)

pub returns-in-254 : goal.returns-in-254
returns-in-254 c = c.long-in-254.ensures ∙ search (rules, packed-eight)

pub returns-in-251 : goal.returns-in-251
returns-in-251 c = search (rules, packed_no)

pub returns-in_default : goal.returns-in_default
returns-in_default c = search (rules, packed-one)
