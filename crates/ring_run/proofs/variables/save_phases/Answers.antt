use Rattle.ring_run.proofs.Phases.{saved_none, saved_all}
use Rattle.ring_run.proofs.variables.save_phases.Goals as goal
use Rattle.std.proofs.Common.{◌∙◌, ℕ, drop, ap, sym, arith}
use Rattle.ring_run.specs.Strategy.{saved}

pub returns-then-decision_level-level-clause-saved : goal.returns-then-decision_level-level-clause-saved
returns-then-decision_level-level-clause-saved c = saved_none c.args.decider.now c.args.trail.now c.args.level c.requires.trail (omega (arith, c.if-decision_level-level.true, c.decision_level.ensures.level))

pub returns-clause-saved : goal.returns-clause-saved
returns-clause-saved c =
    let start = c.start-place.ensures in
    saved_all c.args.decider.now c.loop-place.decider c.args.trail.now.steps c.args.level c.start-place.result c.loop-place.place (omega (arith, c.loop-place-test.false, c.len-place-end.ensures.len)) c.loop-place.invariant.active
    (c.loop-place.invariant.rest ∙ ap (λ (n : ℕ). saved c.args.decider.now.phase (drop n c.args.trail.now.steps)) (sym start.start)) start.below start.above
