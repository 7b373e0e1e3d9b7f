use Rattle.std.proofs.Common.{◌≡◌, ◌∙◌, ◌∷◌, [], true, IsSome, subst, sym, arith, rules}
use Rattle.sat_words.specs.Literal.{Literal}
use Rattle.ring_port.specs.PortState.{PortState, clause_at, held_at, lits_at}
use Rattle.ring_trail.specs.TrailData.{TrailData, IsTrail, HasGrown}
use Rattle.ring_trail.proofs.Causes.{IsReasoned-decided}
use Rattle.watch_prop.specs.WatchData.{attached}
use Rattle.watch_prop.specs.Watched.{Watched}
use Rattle.watch_prop.specs.Propagation.{attached_at, HasReasons, IsClosedBelow, IsConflict}
use Rattle.watch_prop.specs.declared.propagated.Propagated.TheVariants.{Quiet, Conflict}
use Rattle.watch_prop.proofs.TrailLaws.{Watched-decide, Reasons-held}
use Rattle.analyze.specs.Tracing.{CanTraceClause}
use Rattle.analyze.specs.HintOrder.{AreInTrailOrder}
use Rattle.ring_probe.proofs.Kept.{came_to, conflict_held}
use Rattle.ring_probe.proofs.Traced.{traces_tried}
use Rattle.ring_probe.proofs.Tried.{closed_below, IsTried, back, watched_back, decisions_after, holds_then, fails_then, follows_then, traced_then}
use Rattle.ring_probe.proofs.probing.literal_fails.Given as Given
use Rattle.ring_probe.proofs.probing.literal_fails.Goals.{After-decision_level-lawful_after, In-Ok-Conflict, After-back_to, in-Ok-Conflict, in-Ok+in-Quiet-1, in-Err-1}
use Rattle.ring_probe.proofs.probing.literal_fails.Goals as goal

pub propagate-propagated-requires-clause-watched : goal.propagate-propagated-requires-clause-watched
propagate-propagated-requires-clause-watched g c =
    let s = g.P.Port.state c.args.port.now in
    let w = c.args.watches.now in
    subst (λ (x : TrailData). Watched w (lits_at s) x) (sym c.decide.ensures.step) (Watched-decide w (lits_at s) c.args.trail.now c.args.literal c.requires.quiet.done c.requires.watched)

pub propagate-propagated-requires-clause-below : goal.propagate-propagated-requires-clause-below
propagate-propagated-requires-clause-below g c =
    let s = g.P.Port.state c.args.port.now in
    let w = c.args.watches.now in
    subst (λ (x : TrailData). IsClosedBelow w (lits_at s) x) (sym c.decide.ensures.step) (closed_below s w c.args.trail.now c.args.literal c.requires.quiet)

pub propagate-propagated-requires-clause-reasons : goal.propagate-propagated-requires-clause-reasons
propagate-propagated-requires-clause-reasons g c =
    let s = g.P.Port.state c.args.port.now in
    let cs = attached c.args.watches.now in
    subst (λ (x : TrailData). HasReasons cs s x.steps) (sym c.decide.ensures.step) (IsReasoned-decided (attached_at cs s) s.seen c.args.trail.now c.args.literal c.decision_level-lawful.ensures.trail c.requires.reasons)

-- what was done
tried : (g : Given.Over) (c : After-decision_level-lawful_after g) → IsTried (g.P.Port.state c.args.port.now) c.args.watches.now c.propagate-propagated.new.self c.args.trail.now c.propagate-propagated.new.trail c.args.literal
tried g c = record {
  start = c.decision_level-lawful.ensures.trail;
  level = c.requires.level;
  rest = c.requires.quiet;
  opened = subst IsTrail c.decide.ensures.step c.decide.ensures.trail;
  shape = c.decision_level-lawful_after.ensures.trail;
  same = c.propagate-propagated.ensures.attached;
  grown = subst (λ (x : TrailData). HasGrown x c.propagate-propagated.new.trail) c.decide.ensures.step c.propagate-propagated.ensures.grown;
  reasons = c.propagate-propagated.ensures.reasons;
  watched = c.propagate-propagated.ensures.watched;
}

trail_is : (g : Given.Over) (c : After-back_to g) → c.back_to.new.self ≡ c.args.trail.now
trail_is g c =
    c.back_to.ensures.back (omega arith)
    ∙ back (g.P.Port.state c.args.port.now) c.args.watches.now c.propagate-propagated.new.self c.args.trail.now c.propagate-propagated.new.trail c.args.literal (tried g (goal.at.After-back_to g c).After-decision_level-lawful_after)

watched_is : (g : Given.Over) (c : After-back_to g) → Watched c.propagate-propagated.new.self (lits_at (g.P.Port.state c.args.port.now)) c.args.trail.now
watched_is g c = watched_back (g.P.Port.state c.args.port.now) c.args.watches.now c.propagate-propagated.new.self c.args.trail.now c.propagate-propagated.new.trail c.args.literal (tried g (goal.at.After-back_to g c).After-decision_level-lawful_after)

-- Hints are found

conflict_now : (g : Given.Over) (c : In-Ok-Conflict g) → IsConflict c.propagate-propagated.new.self (lits_at (g.P.Port.state c.args.port.now)) c.propagate-propagated.new.trail c.in-Ok-Conflict.conflict
conflict_now g c =
    came_to (g.P.Port.state c.args.port.now) c.propagate-propagated.new.self c.propagate-propagated.new.trail c.propagate-propagated.result c.in-Ok-Conflict.field-0 (Conflict c.in-Ok-Conflict.conflict) c.in-Ok-Conflict.is (rw c.in-Ok-Conflict.is at c.in-Ok-Conflict.field-0-is) c.propagate-propagated.ensures.propagated

pub trace_clause-requires-clause-held : goal.trace_clause-requires-clause-held
trace_clause-requires-clause-held g c =
    subst (λ (x : PortState). IsSome (held_at x c.in-Ok-Conflict.conflict.address)) (sym c.propagate-propagated.ensures.same)
    (conflict_held (g.P.Port.state c.args.port.now) c.propagate-propagated.new.self c.propagate-propagated.new.trail c.in-Ok-Conflict.conflict c.propagate-propagated.ensures.watched (conflict_now g (goal.at.trace_clause-requires-clause-held g c).In-Ok-Conflict))

pub trace_clause-requires-clause-can : goal.trace_clause-requires-clause-can
trace_clause-requires-clause-can g c =
    let s = g.P.Port.state c.args.port.now in
    let v = c.args.watches.now in
    let w = c.propagate-propagated.new.self in
    let t = c.args.trail.now in
    let u = c.propagate-propagated.new.trail in
    let l = c.args.literal in
    let a = c.in-Ok-Conflict.conflict.address in
    let at = goal.at.trace_clause-requires-clause-can g c in
    subst (λ (x : PortState). CanTraceClause (clause_at x) u.steps (c.not.result ∷ []) (lits_at x a)) (sym c.propagate-propagated.ensures.same)
    (subst (λ (k : Literal). CanTraceClause (clause_at s) u.steps (k ∷ []) (lits_at s a)) (sym c.not.ensures)
    (traces_tried (clause_at s) s.seen u l c.decision_level-lawful_after.ensures.trail (Reasons-held (attached v) s u.steps c.propagate-propagated.ensures.reasons)
    (decisions_after s v w t u l (tried g at.After-decision_level-lawful_after)) (lits_at s a) (conflict_now g at.In-Ok-Conflict).false_all))

-- It is quiet

pub returns-in-Quiet-clause-trail : goal.returns-in-Quiet-clause-trail
returns-in-Quiet-clause-trail g c = trail_is g (goal.at.returns-in-Quiet-clause-trail g c).After-back_to

pub returns-in-Quiet-clause-watched : goal.returns-in-Quiet-clause-watched
returns-in-Quiet-clause-watched g c = watched_is g (goal.at.returns-in-Quiet-clause-watched g c).After-back_to

pub returns-in-Quiet-clause-failed : goal.returns-in-Quiet-clause-failed
returns-in-Quiet-clause-failed g c =
    sym (holds_then (g.P.Port.state c.args.port.now) c.args.watches.now c.propagate-propagated.new.self c.args.trail.now c.propagate-propagated.new.trail c.args.literal (tried g (goal.at.returns-in-Quiet-clause-failed g c).After-decision_level-lawful_after)
    (came_to (g.P.Port.state c.args.port.now) c.propagate-propagated.new.self c.propagate-propagated.new.trail c.propagate-propagated.result c.in_ok-propagated.field-0 Quiet c.in_ok-propagated.was c.in-Quiet.is c.propagate-propagated.ensures.propagated))

-- A clause is false

pub returns-in-Conflict-clause-trail : goal.returns-in-Conflict-clause-trail
returns-in-Conflict-clause-trail g c = trail_is g (goal.at.returns-in-Conflict-clause-trail g c).After-back_to

pub returns-in-Conflict-clause-watched : goal.returns-in-Conflict-clause-watched
returns-in-Conflict-clause-watched g c = watched_is g (goal.at.returns-in-Conflict-clause-watched g c).After-back_to

pub returns-in-Conflict-clause-failed : goal.returns-in-Conflict-clause-failed
returns-in-Conflict-clause-failed g c =
    sym (fails_then (g.P.Port.state c.args.port.now) c.args.watches.now c.propagate-propagated.new.self c.args.trail.now c.propagate-propagated.new.trail c.args.literal (tried g (goal.at.returns-in-Conflict-clause-failed g c).After-decision_level-lawful_after) c.in-Conflict.field-0
    (came_to (g.P.Port.state c.args.port.now) c.propagate-propagated.new.self c.propagate-propagated.new.trail c.propagate-propagated.result c.in_ok-propagated.field-0 (Conflict c.in-Conflict.field-0) c.in_ok-propagated.was c.in-Conflict.is c.propagate-propagated.ensures.propagated))

pub returns-in-Conflict-clause-implied : goal.returns-in-Conflict-clause-implied
returns-in-Conflict-clause-implied g c = λ yes'.
    follows_then (g.P.Port.state c.args.port.now) c.args.watches.now c.propagate-propagated.new.self c.args.trail.now c.propagate-propagated.new.trail c.args.literal (tried g (goal.at.returns-in-Conflict-clause-implied g c).After-decision_level-lawful_after) c.in-Conflict.field-0
    (came_to (g.P.Port.state c.args.port.now) c.propagate-propagated.new.self c.propagate-propagated.new.trail c.propagate-propagated.result c.in_ok-propagated.field-0 (Conflict c.in-Conflict.field-0) c.in_ok-propagated.was c.in-Conflict.is c.propagate-propagated.ensures.propagated)

pub returns-in-Conflict-clause-order : goal.returns-in-Conflict-clause-order
returns-in-Conflict-clause-order g c = λ yes' hinted.
    let s = g.P.Port.state c.args.port.now in
    let v = c.args.watches.now in
    let w = c.propagate-propagated.new.self in
    let t = c.args.trail.now in
    let u = c.propagate-propagated.new.trail in
    let l = c.args.literal in
    let done = tried g (goal.at.returns-in-Conflict-clause-order g c).After-decision_level-lawful_after in
    elim c.match-propagated.branch [
      | in-Ok-Conflict b ↦ (
          let found = subst (λ (x : PortState). x.hinted ≡ true → AreInTrailOrder x u.steps (lits_at x b.in-Ok-Conflict.conflict.address) b.trace_clause.new.self.hints) c.propagate-propagated.ensures.same b.trace_clause.ensures.order hinted in
          rw b.analysis-is (traced_then s v w t u l done (lits_at s b.in-Ok-Conflict.conflict.address) b.trace_clause.new.self.hints found))
      | in-Ok+in-Quiet-1 b ↦ search rules
      | in-Err-1 b ↦ search rules
    ]

-- There is no memory

pub returns-in_err-propagated-clause-trail : goal.returns-in_err-propagated-clause-trail
returns-in_err-propagated-clause-trail g c = trail_is g (goal.at.returns-in_err-propagated-clause-trail g c).After-back_to

pub returns-in_err-propagated-clause-watched : goal.returns-in_err-propagated-clause-watched
returns-in_err-propagated-clause-watched g c = watched_is g (goal.at.returns-in_err-propagated-clause-watched g c).After-back_to
