use Prim.Native.Nat.{◌+◌, ◌-◌}
use native.Mathlib.Omega.{arith}
use borrow.Author.Rules.{rules}
use Rattle.format.proofs.Fields.{digits_start, digits-room, digits_step}
use Rattle.wire.proofs.number.Goals as goal

pub loop-i-init : goal.loop-i-init
loop-i-init c = digits_start c.args.s.now c.args.at c.args.k

pub overflow_mul-v : goal.overflow_mul-v
overflow_mul-v c = omega (arith, digits-room c.loop-i.invariant (search rules) (search rules))

pub overflow_add-v-in-loop-i : goal.overflow_add-v-in-loop-i
overflow_add-v-in-loop-i c = omega (arith, digits-room c.loop-i.invariant (search rules) (search rules), c.type_inv.s (c.args.at + (c.loop-i.i - 1)))

pub loop-i-preserved : goal.loop-i-preserved
loop-i-preserved c = digits_step c.loop-i.invariant (search rules) (search rules) (omega (arith, c.type_inv.s (c.args.at + (c.loop-i.i - 1))))
