-- What the first words stand for, with n after them.
use Rattle.std.specs.Prelude.{ℕ}
use Rattle.std.specs.Int.Bits.{bit_xor}
use Rattle.words.specs.Words.{on}
use Rattle.words.specs.declared.Five.{Five}
use Rattle.words.specs.declared.Two.{Two}

abbrev pub five : Five → ℕ → ℕ
five f n = on f.a (on f.b (on f.c (on f.d (on f.e n))))

abbrev pub two : Two → ℕ → ℕ
two t n = on t.a (on t.b (bit_xor n t.c))
