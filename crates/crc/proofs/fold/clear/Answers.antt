use Rattle.std.proofs.Common.{◌+◌, ◌-◌, arith}
use Rattle.crc.proofs.Window.{cleared}
use Rattle.crc.proofs.fold.clear.Goals as goal

pub returns-clause-fact_2 : goal.returns-clause-fact_2
returns-clause-fact_2 c = let q = c.args.q in
    cleared c.args.w.now c.fill.new.self q (2944 - (q + 515)) _ (omega arith) (omega arith) (c.fill.ensures.after (λ y e. e))
