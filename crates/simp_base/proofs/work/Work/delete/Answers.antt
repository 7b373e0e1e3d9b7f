use Rattle.std.proofs.Common.{subst}
use Rattle.simp_base.specs.WorkState.{IsWork}
use Rattle.simp_base.proofs.Steps.{deleted_keeps}
use Rattle.simp_base.proofs.work.Work.delete.Goals as goal

pub returns-clause-log : goal.returns-clause-log
returns-clause-log g c =
    deleted_keeps c.args.self.now c.take_clause.new.self c.args.number c.requires.alive.0 c.take_clause.result (subst IsWork c.self.view_is c.self.invariant.0) c.requires.unspent c.requires.going c.requires.alive.1 c.requires.alive.2 c.take_clause.ensures.deleted
