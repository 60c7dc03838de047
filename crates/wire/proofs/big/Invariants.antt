use mathlib.Core.Path.{◌≡◌}
use Rattle.format.specs.Bytes.{big_at}
use Rattle.wire.proofs.big.Given as goal

abbrev pub invariant-loop-i : goal.invariant-loop-i
invariant-loop-i l = l.v ≡ big_at l.s l.at l.i
