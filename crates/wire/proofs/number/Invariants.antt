use Rattle.format.proofs.Fields.{Digits}
use Rattle.wire.proofs.number.Given as goal

-- `wire::number` reads from the highest byte down.
abbrev pub invariant-loop-i : goal.invariant-loop-i
invariant-loop-i l = Digits l.s l.at l.k l.i l.v

abbrev pub decreases-loop-i : goal.decreases-loop-i
decreases-loop-i l = l.i
