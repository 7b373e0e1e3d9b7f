use Rattle.std.proofs.Common.{subst}
use Rattle.simp_base.specs.WorkState.{IsWork}
use Rattle.simp_base.proofs.Widening.{kept_widened, grows_widened}
use Rattle.simp_base.proofs.work.Work.fresh.Goals as goal

pub returns-clause-log : goal.returns-clause-log
returns-clause-log g c = grows_widened c.args.self.now c.widen.new.self c.widen.result c.widen.ensures

pub returns-clause-work : goal.returns-clause-work
returns-clause-work g c = kept_widened c.args.self.now c.widen.new.self c.widen.result (subst IsWork c.self.view_is c.self.invariant.0) c.widen.ensures
