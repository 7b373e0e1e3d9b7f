use Rattle.std.proofs.Common.{◌≡◌, ◌+◌, ◌-◌, subst, arith}
use Rattle.simp_elim.specs.Stages.{Passed}
use Rattle.simp_elim.proofs.Stepping.{passed_none, passed_next, stopped_passing, ends_done}
use Rattle.simp_elim.proofs.passes.run.Goals as goal

pub loop-var-init : goal.loop-var-init
loop-var-init g c = record {
  low = omega arith;
  high = omega arith;
  passed = passed_none c.args.work.now c.requires.going c.requires.unspent c.clauses-clauses.ensures.work;
}

pub returns-in-Err-clause-ends : goal.returns-in-Err-clause-ends
returns-in-Err-clause-ends g c =
    (stopped_passing c.args.work.now c.loop-var.work c.eliminate.new.work (c.loop-var.var - 1) c.loop-var.var c.in-Err.stop c.loop-var.invariant.passed c.in-Err.ensures.stepped).0

pub returns-in-Err-clause-log : goal.returns-in-Err-clause-log
returns-in-Err-clause-log g c =
    (stopped_passing c.args.work.now c.loop-var.work c.eliminate.new.work (c.loop-var.var - 1) c.loop-var.var c.in-Err.stop c.loop-var.invariant.passed c.in-Err.ensures.stepped).1

pub loop-var-preserved : goal.loop-var-preserved
loop-var-preserved g c = record {
  low = (let a = c.loop-var.invariant.low in omega arith);
  high = omega arith;
  passed = passed_next c.args.work.now c.loop-var.work c.eliminate.new.work c.loop-var.var (c.loop-var.var + 1 - 1) c.loop-var.invariant.low (omega arith) c.loop-var.invariant.passed c.in-Ok.ensures.stepped;
}

pub returns-clause-ends : goal.returns-clause-ends
returns-clause-ends g c =
    let lo = c.loop-var.invariant.low in let hi = c.loop-var.invariant.high in
    ends_done c.args.work.now c.loop-var.work c.highest_var-highest.result c.highest_var-highest.ensures (subst (λ n. Passed c.args.work.now c.loop-var.work n) (let e : c.loop-var.var - 1 ≡ c.highest_var-highest.result = omega arith in e) c.loop-var.invariant.passed)

pub returns-in-Ok-clause-ends : goal.returns-in-Ok-clause-ends
returns-in-Ok-clause-ends g c =
    ends_done c.args.work.now c.eliminate.new.work c.highest_var-highest.result c.highest_var-highest.ensures
    (passed_next c.args.work.now c.loop-var.work c.eliminate.new.work c.loop-var.var c.highest_var-highest.result c.loop-var.invariant.low (omega arith) c.loop-var.invariant.passed c.in-Ok.ensures.stepped)

pub returns-in-Ok-clause-log : goal.returns-in-Ok-clause-log
returns-in-Ok-clause-log g c =
    (passed_next c.args.work.now c.loop-var.work c.eliminate.new.work c.loop-var.var c.loop-var.var c.loop-var.invariant.low (omega arith) c.loop-var.invariant.passed c.in-Ok.ensures.stepped).on.log
