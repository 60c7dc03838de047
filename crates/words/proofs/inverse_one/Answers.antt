use Rattle.words.proofs.Carry.{shifts_are}
use Rattle.words.specs.Words.{inverse₁}
use lib.Bits.{bit_xor}
use mathlib.Core.Path.{sym, ap}
use Rattle.words.proofs.inverse_one.Goals as goal

pub returns : goal.returns
returns c = ap (bit_xor c.args.x) (sym (shifts_are 64 inverse₁ c.args.x c.ranges.x.fits))
