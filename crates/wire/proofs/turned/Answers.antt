use Rattle.wire.proofs.Swapped.{swapped}
use borrow.Author.Rules.{rules}
use Rattle.wire.proofs.turned.Goals as goal

pub returns : goal.returns
returns c = search (rules, swapped)
