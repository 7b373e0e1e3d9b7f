use Rattle.std.proofs.Common.{◌≡◌, ◌∙◌, ◌∷◌, [], List, None, IsSome, true, subst, sym, ap, refl, inl, inr, arith}
use Rattle.std.proofs.lemmas.Result.{err_from_is_err_and}
use Rattle.sat_words.specs.Literal.{Literal, IsOn, opposite}
use Rattle.sat_words.specs.declared.shared.Cref.{Cref}
use Rattle.rup_model.specs.Rup.{rup}
use Rattle.rup_model.specs.declared.journal.Kind.TheVariants.{UnitLine}
use Rattle.ring_port.specs.PortState.{PortState, IsPort, clause_at, held_at, lits_at, known}
use Rattle.ring_port.specs.Port.{is_usable, WroteUnit, EndedLog, Refused}
use Rattle.ring_port.specs.Log.{StandsOver, KeepsLog}
use Rattle.ring_trail.specs.TrailData.{TrailData, HasGrown, assigned}
use Rattle.watch_prop.specs.WatchData.{attached}
use Rattle.watch_prop.specs.Watched.{Watched}
use Rattle.watch_prop.specs.Propagation.{HasReasons, IsQuiet, IsConflict}
use Rattle.watch_prop.specs.declared.propagated.Propagated.TheVariants.{Quiet, Conflict}
use Rattle.analyze.specs.HintOrder.{AreInTrailOrder, AreTraced}
use Rattle.analyze.proofs.Written.{unit_hints, empty_hints}
use Rattle.ring_probe.specs.Outcome.{WroteNegation, FailedAlone}
use Rattle.analyze.specs.Tracing.{CanTraceClause}
use Rattle.ring_probe.proofs.Traced.{traces_low}
use Rattle.ring_probe.proofs.Kept.{came_to, conflict_held, watched_same, reasons_same, ended_held, ended_seen, refused_held, refused_seen}
use Rattle.ring_probe.proofs.Negated.{IsFollowed, held_then, watched_then, reasons_then, level_then, failed_alone, failed_both, refuted}
use Rattle.ring_probe.proofs.probing.follow_negation.Given as Given
use Rattle.ring_probe.proofs.probing.follow_negation.Goals.{In_ok-unit, After-decision_level-lawful, In-Quiet, In-Conflict, In_ok-empty-in-Conflict}
use Rattle.ring_probe.proofs.probing.follow_negation.Goals as goal

pub unit-requires-clause-on : goal.unit-requires-clause-on
unit-requires-clause-on g c = subst (IsOn (g.P.Port.state c.args.port.now).vars) (sym c.not-unit.ensures) (record { low = c.requires.on.low; high = c.requires.on.high })

pub unit-requires-clause-rup : goal.unit-requires-clause-rup
unit-requires-clause-rup g c = subst (λ (k : Literal). rup (known (g.P.Port.state c.args.port.now)) (k ∷ []) ≡ true) (sym c.not-unit.ensures) c.requires.implied

-- the line was written
wrote : (g : Given.Over) (c : In_ok-unit g) → WroteUnit (g.P.Port.state c.args.port.now) (g.P.Port.state c.unit.new.self) (opposite c.args.literal) UnitLine (g.P.Port.state c.args.port.now).last
wrote g c = subst (λ (k : Literal). WroteUnit (g.P.Port.state c.args.port.now) (g.P.Port.state c.unit.new.self) k UnitLine (g.P.Port.state c.args.port.now).last) c.not-unit.ensures c.in_ok-unit.ensures.written

line : (g : Given.Over) (c : In_ok-unit g) → WroteNegation (g.P.Port.state c.args.port.now) (g.P.Port.state c.unit.new.self) c.args.trail.now.steps c.args.literal
line g c =
    let s = g.P.Port.state c.args.port.now in
    let m = g.P.Port.state c.unit.new.self in
    let given = unit_hints s m (opposite c.args.literal) UnitLine s.last c.hints.result.now (wrote g c) c.in_ok-unit.ensures.hints ∙ c.hints.ensures in
    record { wrote = wrote g c; order = λ hinted. subst (AreTraced s c.args.trail.now.steps (opposite c.args.literal ∷ [])) (sym given) (c.requires.order hinted) }

-- what was done
followed : (g : Given.Over) (c : After-decision_level-lawful g) → IsFollowed (g.P.Port.state c.args.port.now) (g.P.Port.state c.unit.new.self) c.args.watches.now c.propagate-followed.new.self c.args.trail.now c.propagate-followed.new.trail c.args.literal
followed g c =
    let step : c.assign.new.self ≡ assigned c.args.trail.now (opposite c.args.literal) None = c.assign.ensures.step ∙ ap (λ (k : Literal). assigned c.args.trail.now k None) c.not-unit.ensures in
    record {
      failed = c.requires.failed;
      start = c.requires.trail;
      level = c.requires.level;
      line = line g (goal.at.After-decision_level-lawful g c).In_ok-unit;
      shape = c.decision_level-lawful.ensures.trail;
      same_clauses = c.propagate-followed.ensures.attached;
      grown = subst (λ (x : TrailData). HasGrown x c.propagate-followed.new.trail) step c.propagate-followed.ensures.grown;
      reasons = c.propagate-followed.ensures.reasons;
      watched = c.propagate-followed.ensures.watched;
    }

assigned_is : (t u : TrailData) (l k : Literal) → u ≡ assigned t k None → k ≡ opposite l → u ≡ assigned t (opposite l) None
assigned_is t u l k e f = e ∙ ap (λ (x : Literal). assigned t x None) f

pub propagate-followed-requires-clause-watched : goal.propagate-followed-requires-clause-watched
propagate-followed-requires-clause-watched g c =
    let s = g.P.Port.state c.args.port.now in
    let m = g.P.Port.state c.unit.new.self in
    let w = c.args.watches.now in
    let t = c.args.trail.now in
    subst (λ (x : TrailData). Watched w (lits_at m) x) (sym (assigned_is t c.assign.new.self c.args.literal _ c.assign.ensures.step c.not-unit.ensures))
    (watched_then s m c.args.literal (wrote g (goal.at.propagate-followed-requires-clause-watched g c).In_ok-unit) w t c.requires.trail c.requires.watched)

pub propagate-followed-requires-clause-below : goal.propagate-followed-requires-clause-below
propagate-followed-requires-clause-below g c = λ k below. absurd (
    let e : c.assign.new.self.level ≡ c.args.trail.now.level = ap (λ (x : TrailData). x.level) c.assign.ensures.step in
    let z = c.requires.level in omega (arith, below, e, z))

pub propagate-followed-requires-clause-reasons : goal.propagate-followed-requires-clause-reasons
propagate-followed-requires-clause-reasons g c =
    let s = g.P.Port.state c.args.port.now in
    let m = g.P.Port.state c.unit.new.self in
    let cs = attached c.args.watches.now in
    let t = c.args.trail.now in
    subst (λ (x : TrailData). HasReasons cs m x.steps) (sym (assigned_is t c.assign.new.self c.args.literal _ c.assign.ensures.step c.not-unit.ensures))
    (reasons_then s m c.args.literal (wrote g (goal.at.propagate-followed-requires-clause-reasons g c).In_ok-unit) cs t c.requires.level c.requires.reasons)

-- The line is refused

pub returns-in_err-unit-clause-stopped : goal.returns-in_err-unit-clause-stopped
returns-in_err-unit-clause-stopped g c =
    let p = err_from_is_err_and c.from_residual.result c.from_residual.ensures.1 in
    rw (p.1, p.2) (record { middle = g.P.Port.state c.args.port.now; before = inl refl; refused = c.in_err-unit.ensures.written; log = λ o h. h; port = c.requires.port; log_after = c.unit.ensures.log; cause = inl c.requires.failed })

pub returns-in_err-unit-clause-watched : goal.returns-in_err-unit-clause-watched
returns-in_err-unit-clause-watched g c =
    let s = g.P.Port.state c.args.port.now in
    let n = g.P.Port.state c.unit.new.self in
    watched_same s n c.args.watches.now c.args.trail.now (refused_held s n _ c.in_err-unit.ensures.written) c.requires.watched

pub returns-in_err-unit-clause-reasons : goal.returns-in_err-unit-clause-reasons
returns-in_err-unit-clause-reasons g c =
    let s = g.P.Port.state c.args.port.now in
    let n = g.P.Port.state c.unit.new.self in
    reasons_same s n (attached c.args.watches.now) c.args.trail.now.steps (refused_held s n _ c.in_err-unit.ensures.written) (refused_seen s n _ c.in_err-unit.ensures.written) c.requires.reasons

pub returns-in_err-unit-clause-held : goal.returns-in_err-unit-clause-held
returns-in_err-unit-clause-held g c = refused_held (g.P.Port.state c.args.port.now) (g.P.Port.state c.unit.new.self) _ c.in_err-unit.ensures.written

-- After propagation

watched_now : (g : Given.Over) (c : After-decision_level-lawful g) → Watched c.propagate-followed.new.self (lits_at (g.P.Port.state c.propagate-followed.new.port)) c.propagate-followed.new.trail
watched_now g c = subst (λ (x : PortState). Watched c.propagate-followed.new.self (lits_at x) c.propagate-followed.new.trail) (sym c.propagate-followed.ensures.same) c.propagate-followed.ensures.watched

reasons_now : (g : Given.Over) (c : After-decision_level-lawful g) → HasReasons (attached c.propagate-followed.new.self) (g.P.Port.state c.propagate-followed.new.port) c.propagate-followed.new.trail.steps
reasons_now g c =
    subst (λ (x : PortState). HasReasons (attached c.propagate-followed.new.self) x c.propagate-followed.new.trail.steps) (sym c.propagate-followed.ensures.same)
    (subst (λ (cs : List Cref). HasReasons cs (g.P.Port.state c.unit.new.self) c.propagate-followed.new.trail.steps) (sym c.propagate-followed.ensures.attached) c.propagate-followed.ensures.reasons)

held_now : (g : Given.Over) (c : After-decision_level-lawful g) → (g.P.Port.state c.propagate-followed.new.port).held ≡ (g.P.Port.state c.args.port.now).held
held_now g c =
    ap (λ (x : PortState). x.held) c.propagate-followed.ensures.same
    ∙ held_then (g.P.Port.state c.args.port.now) (g.P.Port.state c.unit.new.self) c.args.literal (wrote g (goal.at.After-decision_level-lawful g c).In_ok-unit)

log_now : (g : Given.Over) (c : After-decision_level-lawful g) → KeepsLog (g.P.Port.state c.args.port.now) (g.P.Port.state c.propagate-followed.new.port)
log_now g c = λ o h. subst (StandsOver o) (sym c.propagate-followed.ensures.same) (c.unit.ensures.log o h)

level_now : (g : Given.Over) (c : After-decision_level-lawful g) → c.propagate-followed.new.trail.level ≡ 0
level_now g c = level_then (g.P.Port.state c.args.port.now) (g.P.Port.state c.unit.new.self) c.args.watches.now c.propagate-followed.new.self c.args.trail.now c.propagate-followed.new.trail c.args.literal (followed g c)

-- There is no memory to propagate

pub returns-in_default-clause-stopped : goal.returns-in_default-clause-stopped
returns-in_default-clause-stopped g c = record {
  middle = g.P.Port.state c.unit.new.self;
  before = inr (line g (goal.at.returns-in_default-clause-stopped g c).In_ok-unit);
  refused = record { reason = tt; state = c.propagate-followed.ensures.same };
  log = c.unit.ensures.log;
  port = c.unit.ensures.port;
  log_after = λ o h. subst (StandsOver o) (sym c.propagate-followed.ensures.same) h;
  cause = inl c.requires.failed;
}

pub returns-in_default-clause-watched : goal.returns-in_default-clause-watched
returns-in_default-clause-watched g c = watched_now g (goal.at.returns-in_default-clause-watched g c).After-decision_level-lawful

pub returns-in_default-clause-reasons : goal.returns-in_default-clause-reasons
returns-in_default-clause-reasons g c = reasons_now g (goal.at.returns-in_default-clause-reasons g c).After-decision_level-lawful

pub returns-in_default-clause-held : goal.returns-in_default-clause-held
returns-in_default-clause-held g c = held_now g (goal.at.returns-in_default-clause-held g c).After-decision_level-lawful

pub returns-in_default-clause-log : goal.returns-in_default-clause-log
returns-in_default-clause-log g c = log_now g (goal.at.returns-in_default-clause-log g c).After-decision_level-lawful

pub returns-in_default-clause-level : goal.returns-in_default-clause-level
returns-in_default-clause-level g c = level_now g (goal.at.returns-in_default-clause-level g c).After-decision_level-lawful

pub returns-in_default-clause-port : goal.returns-in_default-clause-port
returns-in_default-clause-port g c = subst IsPort (sym c.propagate-followed.ensures.same) c.unit.ensures.port

-- Nothing is left to propagate

quiet_now : (g : Given.Over) (c : In-Quiet g) → IsQuiet c.propagate-followed.new.self (lits_at (g.P.Port.state c.unit.new.self)) c.propagate-followed.new.trail
quiet_now g c = came_to (g.P.Port.state c.unit.new.self) c.propagate-followed.new.self c.propagate-followed.new.trail c.propagate-followed.result c.in-Ok.propagated Quiet c.in-Ok.is c.in-Quiet.is c.propagate-followed.ensures.propagated

pub returns-in-Quiet-clause-probed : goal.returns-in-Quiet-clause-probed
returns-in-Quiet-clause-probed g c =
    let s = g.P.Port.state c.args.port.now in
    let m = g.P.Port.state c.unit.new.self in
    let cs = attached c.args.watches.now in
    let w = c.propagate-followed.new.self in
    let t = c.args.trail.now in
    let u = c.propagate-followed.new.trail in
    let l = c.args.literal in
    let at = goal.at.returns-in-Quiet-clause-probed g c in
    subst (λ (x : PortState). FailedAlone s x cs w t u l c.not-unit.result) (sym c.propagate-followed.ensures.same)
    (subst (λ (k : Literal). FailedAlone s m cs w t u l k) (sym c.not-unit.ensures)
    (failed_alone s m c.args.watches.now w t u l (followed g at.After-decision_level-lawful) (quiet_now g at.In-Quiet)))

pub returns-in-Quiet-clause-quiet : goal.returns-in-Quiet-clause-quiet
returns-in-Quiet-clause-quiet g c = λ not_empty.
    subst (λ (x : PortState). IsQuiet c.propagate-followed.new.self (lits_at x) c.propagate-followed.new.trail) (sym c.propagate-followed.ensures.same) (quiet_now g (goal.at.returns-in-Quiet-clause-quiet g c).In-Quiet)

pub returns-in-Quiet-clause-watched : goal.returns-in-Quiet-clause-watched
returns-in-Quiet-clause-watched g c = watched_now g (goal.at.returns-in-Quiet-clause-watched g c).After-decision_level-lawful

pub returns-in-Quiet-clause-reasons : goal.returns-in-Quiet-clause-reasons
returns-in-Quiet-clause-reasons g c = reasons_now g (goal.at.returns-in-Quiet-clause-reasons g c).After-decision_level-lawful

pub returns-in-Quiet-clause-held : goal.returns-in-Quiet-clause-held
returns-in-Quiet-clause-held g c = held_now g (goal.at.returns-in-Quiet-clause-held g c).After-decision_level-lawful

pub returns-in-Quiet-clause-log : goal.returns-in-Quiet-clause-log
returns-in-Quiet-clause-log g c = log_now g (goal.at.returns-in-Quiet-clause-log g c).After-decision_level-lawful

pub returns-in-Quiet-clause-level : goal.returns-in-Quiet-clause-level
returns-in-Quiet-clause-level g c = level_now g (goal.at.returns-in-Quiet-clause-level g c).After-decision_level-lawful

pub returns-in-Quiet-clause-port : goal.returns-in-Quiet-clause-port
returns-in-Quiet-clause-port g c = subst IsPort (sym c.propagate-followed.ensures.same) c.unit.ensures.port

-- A clause is false

conflict_now : (g : Given.Over) (c : In-Conflict g) → IsConflict c.propagate-followed.new.self (lits_at (g.P.Port.state c.unit.new.self)) c.propagate-followed.new.trail c.in-Conflict.conflict
conflict_now g c = came_to (g.P.Port.state c.unit.new.self) c.propagate-followed.new.self c.propagate-followed.new.trail c.propagate-followed.result c.in-Ok.propagated (Conflict c.in-Conflict.conflict) c.in-Ok.is c.in-Conflict.is c.propagate-followed.ensures.propagated

pub trace_clause-requires-clause-held : goal.trace_clause-requires-clause-held
trace_clause-requires-clause-held g c =
    subst (λ (x : PortState). IsSome (held_at x c.in-Conflict.conflict.address)) (sym c.propagate-followed.ensures.same)
    (conflict_held (g.P.Port.state c.unit.new.self) c.propagate-followed.new.self c.propagate-followed.new.trail c.in-Conflict.conflict c.propagate-followed.ensures.watched (conflict_now g (goal.at.trace_clause-requires-clause-held g c).In-Conflict))

pub trace_clause-requires-clause-can : goal.trace_clause-requires-clause-can
trace_clause-requires-clause-can g c =
    let m = g.P.Port.state c.unit.new.self in
    let u = c.propagate-followed.new.trail in
    let a = c.in-Conflict.conflict.address in
    let at = goal.at.trace_clause-requires-clause-can g c in
    subst (λ (x : PortState). CanTraceClause (clause_at x) u.steps [] (lits_at x a)) (sym c.propagate-followed.ensures.same)
    (traces_low (clause_at m) u (lits_at m a) c.decision_level-lawful.ensures.trail (level_now g at.After-decision_level-lawful) (conflict_now g at.In-Conflict).false_all)

pub empty-requires-clause-usable : goal.empty-requires-clause-usable
empty-requires-clause-usable g c =
    let w = wrote g (goal.at.empty-requires-clause-usable g c).In_ok-unit in
    ap (λ (x : PortState). is_usable x.refused) (c.trace_clause.ensures.same ∙ c.propagate-followed.ensures.same ∙ w.state) ∙ c.requires.usable

pub empty-requires-clause-rup : goal.empty-requires-clause-rup
empty-requires-clause-rup g c =
    let s = g.P.Port.state c.args.port.now in
    let m = g.P.Port.state c.unit.new.self in
    let at = goal.at.empty-requires-clause-rup g c in
    subst (λ (x : PortState). rup (known x) [] ≡ true) (sym (c.trace_clause.ensures.same ∙ c.propagate-followed.ensures.same))
    (refuted s m c.args.watches.now c.propagate-followed.new.self c.args.trail.now c.propagate-followed.new.trail c.args.literal (followed g at.After-decision_level-lawful) c.in-Conflict.conflict (conflict_now g at.In-Conflict))

pub returns-in_ok-empty-in-Conflict-clause-probed : goal.returns-in_ok-empty-in-Conflict-clause-probed
returns-in_ok-empty-in-Conflict-clause-probed g c =
    let s = g.P.Port.state c.args.port.now in
    let m = g.P.Port.state c.unit.new.self in
    let n = g.P.Port.state c.empty.new.self in
    let at = goal.at.returns-in_ok-empty-in-Conflict-clause-probed g c in
    let u = c.propagate-followed.new.trail in
    let a = c.in-Conflict.conflict.address in
    let ended = subst (λ (x : PortState). EndedLog x n) (c.trace_clause.ensures.same ∙ c.propagate-followed.ensures.same) c.in_ok-empty-in-Conflict.ensures.written in
    let given = empty_hints m n c.hints-in-Conflict.result.now ended c.in_ok-empty-in-Conflict.ensures.hints ∙ c.hints-in-Conflict.ensures in
    let order = subst (λ (x : PortState). x.hinted ≡ true → AreInTrailOrder x u.steps (lits_at x a) c.trace_clause.new.self.hints) c.propagate-followed.ensures.same c.trace_clause.ensures.order in
    failed_both s m c.args.watches.now c.propagate-followed.new.self c.args.trail.now u c.args.literal (followed g at.After-decision_level-lawful) n c.in-Conflict.conflict (conflict_now g at.In-Conflict)
    ended (λ hinted. subst (AreInTrailOrder m u.steps (lits_at m a)) (sym given) (order hinted))
    c.unit.ensures.log c.unit.ensures.port (λ o h. c.empty.ensures.log o (subst (StandsOver o) (sym (c.trace_clause.ensures.same ∙ c.propagate-followed.ensures.same)) h))

-- the empty clause was written where propagation ended
ended_now : (g : Given.Over) (c : In_ok-empty-in-Conflict g) → EndedLog (g.P.Port.state c.propagate-followed.new.port) (g.P.Port.state c.empty.new.self)
ended_now g c = subst (λ (x : PortState). EndedLog x (g.P.Port.state c.empty.new.self)) c.trace_clause.ensures.same c.in_ok-empty-in-Conflict.ensures.written

pub returns-in_ok-empty-in-Conflict-clause-watched : goal.returns-in_ok-empty-in-Conflict-clause-watched
returns-in_ok-empty-in-Conflict-clause-watched g c =
    let p = g.P.Port.state c.propagate-followed.new.port in
    let n = g.P.Port.state c.empty.new.self in
    watched_same p n c.propagate-followed.new.self c.propagate-followed.new.trail (ended_held p n (ended_now g (goal.at.returns-in_ok-empty-in-Conflict-clause-watched g c).In_ok-empty-in-Conflict)) (watched_now g (goal.at.returns-in_ok-empty-in-Conflict-clause-watched g c).After-decision_level-lawful)

pub returns-in_ok-empty-in-Conflict-clause-reasons : goal.returns-in_ok-empty-in-Conflict-clause-reasons
returns-in_ok-empty-in-Conflict-clause-reasons g c =
    let p = g.P.Port.state c.propagate-followed.new.port in
    let n = g.P.Port.state c.empty.new.self in
    let written = ended_now g (goal.at.returns-in_ok-empty-in-Conflict-clause-reasons g c).In_ok-empty-in-Conflict in
    reasons_same p n (attached c.propagate-followed.new.self) c.propagate-followed.new.trail.steps (ended_held p n written) (ended_seen p n written) (reasons_now g (goal.at.returns-in_ok-empty-in-Conflict-clause-reasons g c).After-decision_level-lawful)

pub returns-in_ok-empty-in-Conflict-clause-held : goal.returns-in_ok-empty-in-Conflict-clause-held
returns-in_ok-empty-in-Conflict-clause-held g c =
    ended_held (g.P.Port.state c.propagate-followed.new.port) (g.P.Port.state c.empty.new.self) (ended_now g (goal.at.returns-in_ok-empty-in-Conflict-clause-held g c).In_ok-empty-in-Conflict)
    ∙ held_now g (goal.at.returns-in_ok-empty-in-Conflict-clause-held g c).After-decision_level-lawful

pub returns-in_ok-empty-in-Conflict-clause-level : goal.returns-in_ok-empty-in-Conflict-clause-level
returns-in_ok-empty-in-Conflict-clause-level g c = level_now g (goal.at.returns-in_ok-empty-in-Conflict-clause-level g c).After-decision_level-lawful

pub returns-in_ok-empty-in-Conflict-clause-log : goal.returns-in_ok-empty-in-Conflict-clause-log
returns-in_ok-empty-in-Conflict-clause-log g c = λ o h. c.empty.ensures.log o (subst (StandsOver o) (sym c.trace_clause.ensures.same) (log_now g (goal.at.returns-in_ok-empty-in-Conflict-clause-log g c).After-decision_level-lawful o h))

pub returns-in_ok-empty-in-Conflict-clause-quiet : goal.returns-in_ok-empty-in-Conflict-clause-quiet
returns-in_ok-empty-in-Conflict-clause-quiet g c = λ not_empty. absurd (not_empty refl)

-- The empty clause is refused

pub returns-in_err-empty-in-Conflict-clause-stopped : goal.returns-in_err-empty-in-Conflict-clause-stopped
returns-in_err-empty-in-Conflict-clause-stopped g c =
    let n = g.P.Port.state c.empty.new.self in
    let at = goal.at.returns-in_err-empty-in-Conflict-clause-stopped g c in
    let p = err_from_is_err_and c.from_residual-in_err-empty-in-Conflict.result c.from_residual-in_err-empty-in-Conflict.ensures.1 in
    rw (p.1, p.2) (record {
      middle = g.P.Port.state c.unit.new.self;
      before = inr (line g at.In_ok-unit);
      refused = subst (λ (x : PortState). Refused x n c.in_err-empty-in-Conflict.field-0.0) (c.trace_clause.ensures.same ∙ c.propagate-followed.ensures.same) c.in_err-empty-in-Conflict.ensures.written;
      log = c.unit.ensures.log;
      port = c.unit.ensures.port;
      log_after = λ o h. c.empty.ensures.log o (subst (StandsOver o) (sym (c.trace_clause.ensures.same ∙ c.propagate-followed.ensures.same)) h);
      cause = inl c.requires.failed;
    })

pub returns-in_err-empty-in-Conflict-clause-watched : goal.returns-in_err-empty-in-Conflict-clause-watched
returns-in_err-empty-in-Conflict-clause-watched g c =
    let p = g.P.Port.state c.propagate-followed.new.port in
    let n = g.P.Port.state c.empty.new.self in
    watched_same p n c.propagate-followed.new.self c.propagate-followed.new.trail (refused_held p n _ (subst (λ (x : PortState). Refused x n c.in_err-empty-in-Conflict.field-0.0) c.trace_clause.ensures.same c.in_err-empty-in-Conflict.ensures.written)) (watched_now g (goal.at.returns-in_err-empty-in-Conflict-clause-watched g c).After-decision_level-lawful)

pub returns-in_err-empty-in-Conflict-clause-reasons : goal.returns-in_err-empty-in-Conflict-clause-reasons
returns-in_err-empty-in-Conflict-clause-reasons g c =
    let p = g.P.Port.state c.propagate-followed.new.port in
    let n = g.P.Port.state c.empty.new.self in
    let written = subst (λ (x : PortState). Refused x n c.in_err-empty-in-Conflict.field-0.0) c.trace_clause.ensures.same c.in_err-empty-in-Conflict.ensures.written in
    reasons_same p n (attached c.propagate-followed.new.self) c.propagate-followed.new.trail.steps (refused_held p n _ written) (refused_seen p n _ written) (reasons_now g (goal.at.returns-in_err-empty-in-Conflict-clause-reasons g c).After-decision_level-lawful)

pub returns-in_err-empty-in-Conflict-clause-held : goal.returns-in_err-empty-in-Conflict-clause-held
returns-in_err-empty-in-Conflict-clause-held g c =
    refused_held (g.P.Port.state c.propagate-followed.new.port) (g.P.Port.state c.empty.new.self) _
    (subst (λ (x : PortState). Refused x (g.P.Port.state c.empty.new.self) c.in_err-empty-in-Conflict.field-0.0) c.trace_clause.ensures.same c.in_err-empty-in-Conflict.ensures.written)
    ∙ held_now g (goal.at.returns-in_err-empty-in-Conflict-clause-held g c).After-decision_level-lawful

pub returns-in_err-empty-in-Conflict-clause-level : goal.returns-in_err-empty-in-Conflict-clause-level
returns-in_err-empty-in-Conflict-clause-level g c = level_now g (goal.at.returns-in_err-empty-in-Conflict-clause-level g c).After-decision_level-lawful

pub returns-in_err-empty-in-Conflict-clause-log : goal.returns-in_err-empty-in-Conflict-clause-log
returns-in_err-empty-in-Conflict-clause-log g c = λ o h. c.empty.ensures.log o (subst (StandsOver o) (sym c.trace_clause.ensures.same) (log_now g (goal.at.returns-in_err-empty-in-Conflict-clause-log g c).After-decision_level-lawful o h))
