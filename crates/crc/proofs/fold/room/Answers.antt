use Rattle.std.proofs.Common.{◌≡◌, ℕ, List, arith, sym, ap, ◌∙◌}
use Rattle.format.specs.Bytes.{field_at}
use Rattle.crc.proofs.Window.{moved}
use Rattle.crc.proofs.fold.room.Goals as goal

pub returns-clause-fact_4 : goal.returns-clause-fact_4
returns-clause-fact_4 c = let w = c.args.w.now in
    let e : c.args.q ≡ 2109 = omega arith in
    ap (λ (x : List ℕ). field_at x 61 515) c.copy_within.ensures.after
    ∙ moved w 61 2109 515 (omega arith) (omega arith)
    ∙ ap (λ (k : ℕ). field_at w k 515) (sym e)
