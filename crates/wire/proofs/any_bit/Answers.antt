use Rattle.wire.proofs.Bits.{bit-room, count_start, any-hit, any-miss, any_none}
use borrow.Author.Rules.{rules}
use Rattle.wire.proofs.any_bit.Goals as goal

pub loop-i-init : goal.loop-i-init
loop-i-init c = count_start _ _

pub bit_at-requires : goal.bit_at-requires
bit_at-requires c = search (rules, bit-room)

pub returns-then-bit_at : goal.returns-then-bit_at
returns-then-bit_at c = search (rules, any-hit)

pub loop-i-preserved : goal.loop-i-preserved
loop-i-preserved c = search (rules, any-miss)

pub returns : goal.returns
returns c = search (rules, any_none)
