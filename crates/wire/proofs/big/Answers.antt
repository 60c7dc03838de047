use Prim.Native.Nat.{◌+◌}
use native.Mathlib.Omega.{arith}
use Rattle.wire.proofs.Laws.{big_start, big_turn, big_below_at}
use Rattle.wire.proofs.big.Goals as goal

pub loop-i-init : goal.loop-i-init
loop-i-init c = big_start c.args.s.now c.args.at

pub overflow_mul-v : goal.overflow_mul-v
overflow_mul-v c = omega (arith, big_below_at c.args.s.now c.args.at c.loop-i.i 7 c.type_inv.s (omega arith))

pub overflow_add-v : goal.overflow_add-v
overflow_add-v c = omega (arith, big_below_at c.args.s.now c.args.at c.loop-i.i 7 c.type_inv.s (omega arith), c.type_inv.s (c.args.at + c.loop-i.i))

pub loop-i-preserved : goal.loop-i-preserved
loop-i-preserved c = let t = big_turn c.args.s.now c.args.at c.loop-i.i (omega arith) in omega arith
