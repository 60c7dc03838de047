use Rattle.words.specs.Front.{five}
use Rattle.words.specs.Words.{on}
use Rattle.format.specs.Crc.{bit_steps}
use Rattle.format.specs.Bytes.{num}
use lib.ListN.{length, drop}
use Prim.Native.Nat.{◌+◌, ◌-◌, ◌*◌}
use mathlib.Core.Path.{◌≡◌}
use Rattle.words.proofs.many.Given as goal

abbrev pub invariant-loop-k : goal.invariant-loop-k
invariant-loop-k l = bit_steps (320 + 8 * (length l.s - (l.from + 8 * l.k))) (five l.f (num (drop (l.from + 8 * l.k) l.s)))
    ≡ bit_steps (128 + 8 * (length l.s - l.at)) (on l.first (on l.second (num (drop l.at l.s))))
