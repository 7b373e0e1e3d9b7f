use Rattle.std.proofs.Common.{◌≡◌, ◌∙◌, ◌==◌, ◌<◌, ℕ, List, [], get_or, length, Contains, IsSome, subst, sym, ap, arith, rules}
use Rattle.std.specs.List.{list_any}
use Rattle.sat_words.specs.declared.shared.Cref.{Cref}
use Rattle.rup_model.proofs.Lists.{In_get_or, In_Contains}
use Rattle.ring_port.specs.PortState.{PortState, held_at, lits_at}
use Rattle.ring_port.specs.Port.{is_usable}
use Rattle.ring_trail.specs.declared.step.TrailStep.{TrailStep}
use Rattle.watch_prop.specs.WatchData.{attached}
use Rattle.watch_prop.specs.Watched.{Watched}
use Rattle.watch_prop.specs.Propagation.{HasReasons, IsQuiet}
use Rattle.vivify.specs.Walking.{IsNoReason}
use Rattle.test_ring.proofs.VivificationRow.{no_reason, none_taken, one_held, one_among}
use Rattle.test_ring.proofs.vivification.vivify_last.Goals as goal

abbrev no_cref : Cref
no_cref = record { address = 0 }

pub vivify-left-requires-clause-level : goal.vivify-left-requires-clause-level
vivify-left-requires-clause-level g c = c.in_ok-stepping.ensures.grown.level

pub vivify-left-requires-clause-quiet : goal.vivify-left-requires-clause-quiet
vivify-left-requires-clause-quiet g c =
    subst (λ (s : PortState). IsQuiet c.in_ok-stepping.stepping.watches (lits_at s) c.in_ok-stepping.stepping.trail) (sym c.quiet_start.ensures.same) c.in_ok-stepping.ensures.quiet

pub vivify-left-requires-clause-watched : goal.vivify-left-requires-clause-watched
vivify-left-requires-clause-watched g c =
    subst (λ (s : PortState). Watched c.in_ok-stepping.stepping.watches (lits_at s) c.in_ok-stepping.stepping.trail) (sym c.quiet_start.ensures.same) c.in_ok-stepping.ensures.stepping.watched

pub vivify-left-requires-clause-reasons : goal.vivify-left-requires-clause-reasons
vivify-left-requires-clause-reasons g c =
    subst (λ (s : PortState). HasReasons (attached c.in_ok-stepping.stepping.watches) s c.in_ok-stepping.stepping.trail.steps) (sym c.quiet_start.ensures.same) c.in_ok-stepping.ensures.stepping.reasons

pub vivify-left-requires-clause-member : goal.vivify-left-requires-clause-member
vivify-left-requires-clause-member g c =
    let lt : c.in-Some.last < length c.args.clauses.now = search rules in
    one_among (attached c.in_ok-stepping.stepping.watches) c.args.clauses.now c.in-Some.last no_cref c.in_ok-stepping.ensures.attached lt

pub vivify-left-requires-clause-held : goal.vivify-left-requires-clause-held
vivify-left-requires-clause-held g c =
    let lt : c.in-Some.last < length c.args.clauses.now = search rules in
    one_held (g.P.Port.state c.args.port.now) (g.P.Port.state c.quiet_start.new.port) c.args.clauses.now c.in-Some.last no_cref c.quiet_start.ensures.same c.requires.held lt

pub vivify-left-requires-clause-vars : goal.vivify-left-requires-clause-vars
vivify-left-requires-clause-vars g c =
    ap (λ (s : PortState). s.vars) c.quiet_start.ensures.same ∙ sym c.in_ok-stepping.ensures.grown.vars ∙ c.in_ok-stepping.ensures.stepping.watched.vars

pub vivify-left-requires-clause-free : goal.vivify-left-requires-clause-free
vivify-left-requires-clause-free g c =
    let bare : c.in_ok-stepping.stepping.trail.steps ≡ [] = c.is_empty.ensures.0 (search rules) in
    no_reason (g.P.Port.state c.quiet_start.new.port) c.in_ok-stepping.stepping.trail.steps _ bare

pub vivify-left-requires-clause-usable : goal.vivify-left-requires-clause-usable
vivify-left-requires-clause-usable g c = ap (λ (s : PortState). is_usable s.refused) c.quiet_start.ensures.same ∙ c.requires.usable

pub vivify-left-requires-clause-apart : goal.vivify-left-requires-clause-apart
vivify-left-requires-clause-apart g c = none_taken (g.P.Port.state c.args.port.now) (g.P.Port.state c.quiet_start.new.port) _ c.quiet_start.ensures.same c.requires.none_taken
