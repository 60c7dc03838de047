use Rattle.wire.proofs.Same.{by_bytes}
use borrow.Author.Rules.{rules}
use Rattle.wire.proofs.word.Goals as goal

pub returns : goal.returns
returns c = search (rules, by_bytes)
