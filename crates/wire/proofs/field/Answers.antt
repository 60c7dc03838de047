use Prim.Native.Nat.{◌/◌, ◌^◌}
use Rattle.wire.proofs.Differences.{shifted_one}
use lib.Bits.{and_mask}
use Rattle.wire.proofs.field.Goals as goal

pub returns : goal.returns
returns c = rw (shifted_one c.args.n c.requires.1) (and_mask (c.args.x / 2 ^ c.args.from) c.args.n)
