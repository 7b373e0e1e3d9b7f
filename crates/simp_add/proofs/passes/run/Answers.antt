use Rattle.std.proofs.Common.{◌∙◌, ◌+◌, ◌-◌, ◌*◌, ℕ, refl, ap, subst, arith, inr}
use Rattle.std.specs.Prelude.{Ok}
use Rattle.simp_add.specs.Stages.{WasStepped}
use Rattle.simp_add.proofs.Stepping.{passing_none, passing_at, stopped_passing, shortened, over_at, without_variable}
use Rattle.simp_add.proofs.passes.run.Goals as goal

pub loop-code-init : goal.loop-code-init
loop-code-init g c = record {
  passing = passing_none c.args.work.now c.requires.going c.requires.unspent c.clauses-clauses.ensures.work;
  wide = c.in-Ok.ensures.wide ∙ ap (λ (v : ℕ). 2 * (v + 1)) c.vars.ensures;
  clear = c.in-Ok.ensures.clear;
  none = c.in-Ok.ensures.none;
}

pub returns-in_default-literal_of-clause-ends : goal.returns-in_default-literal_of-clause-ends
returns-in_default-literal_of-clause-ends g c =
    shortened c.args.work.now c.loop-code.work (c.loop-code.code - 2) c.loop-code.invariant.passing
    (over_at c.loop-code.work c.loop-code.code c.vars-in-loop-code.result c.loop-code.auto.code c.vars-in-loop-code.ensures c.in_default-literal_of.ensures.none)

pub returns-in-Ok-NoVariable-clause-ends : goal.returns-in-Ok-NoVariable-clause-ends
returns-in-Ok-NoVariable-clause-ends g c =
    without_variable c.args.work.now c.loop-code.work c.take_turn.new.work c.loop-code.code c.in-Some.lit c.loop-code.auto.code c.in-Some.ensures.some.0 c.loop-code.invariant.passing
    (subst (λ e. WasStepped c.loop-code.work c.take_turn.new.work c.in-Some.lit (Ok e)) c.in-Ok-NoVariable.field-0-is c.in-Ok-NoVariable.ensures.stepped)

pub returns-in-Err-clause-log : goal.returns-in-Err-clause-log
returns-in-Err-clause-log g c =
    (stopped_passing c.args.work.now c.loop-code.work c.take_turn.new.work (c.loop-code.code - 2) c.in-Err.stop c.loop-code.invariant.passing c.in-Err.ensures.stepped).1

pub loop-code-preserved : goal.loop-code-preserved
loop-code-preserved g c = record {
  passing = passing_at c.args.work.now c.loop-code.work c.take_turn.new.work c.loop-code.code c.in-Some.lit c.loop-code.auto.code c.in-Some.ensures.some.0 c.loop-code.invariant.passing
      (subst (λ e. WasStepped c.loop-code.work c.take_turn.new.work c.in-Some.lit (Ok e)) c.in-Ok-Over.field-0-is c.in-Ok-Over.ensures.stepped);
  wide = c.in-Ok-Over.ensures.wide c.in-Ok-Over.field-0-is;
  clear = c.in-Ok-Over.ensures.clear;
  none = c.in-Ok-Over.ensures.none;
}

pub returns-clause-ends : goal.returns-clause-ends
returns-clause-ends g c =
    shortened c.args.work.now c.loop-code.work (c.loop-code.code - 2) c.loop-code.invariant.passing
    (over_at c.loop-code.work c.loop-code.code c.loop-code.work.vars c.loop-code.auto.code refl (inr (let e = c.loop-code-test.false in omega arith)))
