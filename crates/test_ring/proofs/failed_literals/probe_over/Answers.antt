use Rattle.std.proofs.Common.{◌∙◌, subst, sym, ap}
use Rattle.ring_port.specs.PortState.{PortState, lits_at}
use Rattle.ring_port.specs.Port.{is_usable}
use Rattle.watch_prop.specs.WatchData.{attached}
use Rattle.watch_prop.specs.Watched.{Watched}
use Rattle.watch_prop.specs.Propagation.{HasReasons, IsQuiet}
use Rattle.test_ring.proofs.failed_literals.probe_over.Goals as goal

pub probe-requires-clause-level : goal.probe-requires-clause-level
probe-requires-clause-level g c = c.in_ok-stepping.ensures.grown.level

pub probe-requires-clause-quiet : goal.probe-requires-clause-quiet
probe-requires-clause-quiet g c =
    subst (λ (s : PortState). IsQuiet c.in_ok-stepping.stepping.watches (lits_at s) c.in_ok-stepping.stepping.trail) (sym c.quiet_start.ensures.same) c.in_ok-stepping.ensures.quiet

pub probe-requires-clause-watched : goal.probe-requires-clause-watched
probe-requires-clause-watched g c =
    subst (λ (s : PortState). Watched c.in_ok-stepping.stepping.watches (lits_at s) c.in_ok-stepping.stepping.trail) (sym c.quiet_start.ensures.same) c.in_ok-stepping.ensures.stepping.watched

pub probe-requires-clause-reasons : goal.probe-requires-clause-reasons
probe-requires-clause-reasons g c =
    subst (λ (s : PortState). HasReasons (attached c.in_ok-stepping.stepping.watches) s c.in_ok-stepping.stepping.trail.steps) (sym c.quiet_start.ensures.same) c.in_ok-stepping.ensures.stepping.reasons

pub probe-requires-clause-vars : goal.probe-requires-clause-vars
probe-requires-clause-vars g c =
    ap (λ (s : PortState). s.vars) c.quiet_start.ensures.same ∙ sym c.in_ok-stepping.ensures.grown.vars ∙ c.in_ok-stepping.ensures.stepping.watched.vars

pub probe-requires-clause-usable : goal.probe-requires-clause-usable
probe-requires-clause-usable g c = ap (λ (s : PortState). is_usable s.refused) c.quiet_start.ensures.same ∙ c.requires.usable
