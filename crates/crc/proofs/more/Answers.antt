use Prim.Native.Nat.{◌^◌, ◌<◌}
use Rattle.words.proofs.Start.{crc_fits}
use borrow.Author.Rules.{rules}
use Rattle.crc.proofs.more.Goals as goal

pub overflow_cast-result : goal.overflow_cast-result
overflow_cast-result c = let a = c.args in
    let h : a.c < 2 ^ 32 = search rules in
    record { fits = crc_fits a.c a.s.now c.type_inv.s h c.after.ensures }

pub overflow_cast-result-2 : goal.overflow_cast-result-2
overflow_cast-result-2 c = let a = c.args in
    let h : a.c < 2 ^ 32 = search rules in
    record { fits = crc_fits a.c a.s.now c.type_inv.s h c.folded.ensures }
