use borrow.Author.Rules.{rules}
use mathlib.Core.Path.{refl}
use Rattle.wire.proofs.Laws.{half_of, signed-pos, signed_neg}
use Rattle.wire.proofs.two_complement.Goals as goal

pub returns-then-v-half : goal.returns-then-v-half
returns-then-v-half c = let a = c.args in
    let p = c.requires in
    let f = half_of a.n p.fact_1 p.fact_2 in
    signed-pos a.n a.v f (search rules)

pub returns-else-v-half : goal.returns-else-v-half
returns-else-v-half c = let a = c.args in
    let p = c.requires in
    let f = half_of a.n p.fact_1 p.fact_2 in
    signed_neg a.n a.v _ f (search rules) p.fact_3 refl
