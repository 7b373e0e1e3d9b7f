use Rattle.std.proofs.Common.{subst}
use Rattle.simp_base.specs.WorkState.{IsWork}
use Rattle.simp_base.proofs.Validity.{rat_valid}
use Rattle.simp_base.proofs.Steps.{added_keeps}
use Rattle.simp_base.proofs.Keeping.{kept_after_add}
use Rattle.simp_base.proofs.work.Work.add_rat.Goals as goal

pub returns-clause-log : goal.returns-clause-log
returns-clause-log g c = added_keeps c.args.self.now c.put_clause.new.self c.args.lits.now c.put_clause.result c.requires.unspent c.requires.going (rat_valid c.args.self.now c.args.lits.now c.requires.above c.requires.rat) c.requires.on c.put_clause.ensures

pub returns-clause-work : goal.returns-clause-work
returns-clause-work g c = kept_after_add c.args.self.now c.put_clause.new.self c.args.lits.now c.put_clause.result (subst IsWork c.self.view_is c.self.invariant.0) c.requires.on c.put_clause.ensures
