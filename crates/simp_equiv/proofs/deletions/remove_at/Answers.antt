use Rattle.std.proofs.Common.{subst}
use Rattle.simp_equiv.specs.Tables.{stand_in}
use Rattle.simp_equiv.specs.Rewritten.{IsReplacedAt}
use Rattle.simp_equiv.proofs.Removing.{was_removed, removed_none}
use Rattle.simp_equiv.proofs.deletions.remove_at.Goals as goal

pub returns-then-is_replaced_at-clause-removed : goal.returns-then-is_replaced_at-clause-removed
returns-then-is_replaced_at-clause-removed g c =
    let w = c.args.work.now in let sin = stand_in c.args.table.now in
    let t = subst (IsReplacedAt w sin c.args.number) c.if-is_replaced_at.true c.is_replaced_at.ensures in
    was_removed w c.delete.new.self sin c.args.number t.0 c.requires.work c.delete.ensures.work c.requires.going c.requires.unspent (_, c.delete.ensures.log) t.1 t.2 c.delete.result c.delete.ensures.deleted

pub returns-else-is_replaced_at-clause-removed : goal.returns-else-is_replaced_at-clause-removed
returns-else-is_replaced_at-clause-removed g c =
    let w = c.args.work.now in let sin = stand_in c.args.table.now in
    removed_none w sin c.args.number c.requires.going c.requires.unspent c.requires.work (subst (IsReplacedAt w sin c.args.number) c.if-is_replaced_at.false c.is_replaced_at.ensures)
