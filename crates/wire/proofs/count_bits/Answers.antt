use Rattle.wire.proofs.Bits.{more-most}
use Rattle.wire.proofs.Bits.{bit-room, count-end, count-more, count_start}
use borrow.Author.Rules.{rules}
use Rattle.wire.proofs.count_bits.Goals as goal

pub loop-i-init : goal.loop-i-init
loop-i-init c = (search rules, count_start _ _)

pub bit_at-set-requires : goal.bit_at-set-requires
bit_at-set-requires c = search (rules, bit-room)

pub loop-i-preserved : goal.loop-i-preserved
loop-i-preserved c = (search (rules, more-most), search (rules, count-more))

pub returns : goal.returns
returns c = search (rules, count-end)
