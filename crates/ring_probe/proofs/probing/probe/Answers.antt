use Rattle.std.proofs.Common.{◌≡◌, ◌∙◌, ◌∷◌, [], List, true, subst, sym, ap, refl, inl, inr, arith}
use Rattle.std.specs.Prelude.{IfOk, IfErr}
use Rattle.sat_words.specs.Literal.{opposite}
use Rattle.sat_words.specs.declared.shared.Cref.{Cref}
use Rattle.rup_model.specs.Rup.{rup}
use Rattle.ring_port.specs.PortState.{PortState, IsOn, IsPort, lits_at, known}
use Rattle.ring_port.specs.Port.{is_usable}
use Rattle.ring_port.specs.Log.{StandsOver}
use Rattle.ring_trail.specs.TrailData.{TrailData, IsTrail, value_of}
use Rattle.watch_prop.specs.WatchData.{attached}
use Rattle.watch_prop.specs.Watched.{Watched}
use Rattle.watch_prop.specs.Propagation.{HasReasons, IsQuiet}
use Rattle.watch_prop.proofs.Quiets.{quiet-same}
use Rattle.ring_probe.specs.Outcome.{fails, IsProbed, WasCutShort}
use Rattle.ring_probe.proofs.probing.probe.Goals as goal

pub literal_fails-requires-clause-in_range : goal.literal_fails-requires-clause-in_range
literal_fails-requires-clause-in_range g c = let a = c.requires.on.high in let b = c.requires.vars in let d = c.requires.watched.vars in omega (arith, a, b, d)

-- There is no memory

pub returns-in_default-clause-stopped : goal.returns-in_default-clause-stopped
returns-in_default-clause-stopped g c = record {
  middle = g.P.Port.state c.literal_fails.new.port;
  before = inl c.literal_fails.ensures.same;
  refused = record { reason = tt; state = refl };
  log = λ o h. subst (StandsOver o) (sym c.literal_fails.ensures.same) h;
  port = subst IsPort (sym c.literal_fails.ensures.same) c.vars-vars.ensures.port;
  log_after = λ o h. h;
  cause = inr (refl, c.literal_fails.ensures.same);
}

pub returns-in_default-clause-watched : goal.returns-in_default-clause-watched
returns-in_default-clause-watched g c =
    let w = c.literal_fails.new.watches in
    subst (λ (x : PortState). Watched w (lits_at x) c.literal_fails.new.trail) (sym c.literal_fails.ensures.same)
    (subst (λ (x : TrailData). Watched w (lits_at (g.P.Port.state c.args.port.now)) x) (sym c.literal_fails.ensures.trail) c.literal_fails.ensures.watched)

pub returns-in_default-clause-reasons : goal.returns-in_default-clause-reasons
returns-in_default-clause-reasons g c =
    let s = g.P.Port.state c.args.port.now in
    subst (λ (x : PortState). HasReasons (attached c.literal_fails.new.watches) x c.literal_fails.new.trail.steps) (sym c.literal_fails.ensures.same)
    (subst (λ (x : TrailData). HasReasons (attached c.literal_fails.new.watches) s x.steps) (sym c.literal_fails.ensures.trail)
    (subst (λ (cs : List Cref). HasReasons cs s c.args.trail.now.steps) (sym c.literal_fails.ensures.attached) c.requires.reasons))

pub returns-in_default-clause-level : goal.returns-in_default-clause-level
returns-in_default-clause-level g c = ap (λ (x : TrailData). x.level) c.literal_fails.ensures.trail ∙ c.requires.level

pub returns-in_default-clause-trail : goal.returns-in_default-clause-trail
returns-in_default-clause-trail g c = subst IsTrail (sym c.literal_fails.ensures.trail) c.decision_level-lawful.ensures.trail

pub returns-in_default-clause-held : goal.returns-in_default-clause-held
returns-in_default-clause-held g c = ap (λ (x : PortState). x.held) c.literal_fails.ensures.same

pub returns-in_default-clause-log : goal.returns-in_default-clause-log
returns-in_default-clause-log g c = λ o h. subst (StandsOver o) (sym c.literal_fails.ensures.same) h

pub returns-in_default-clause-port : goal.returns-in_default-clause-port
returns-in_default-clause-port g c = subst IsPort (sym c.literal_fails.ensures.same) c.vars-vars.ensures.port

pub returns-clause-watched : goal.returns-clause-watched
returns-clause-watched g c =
    let w = c.literal_fails.new.watches in
    subst (λ (x : PortState). Watched w (lits_at x) c.literal_fails.new.trail) (sym c.literal_fails.ensures.same)
    (subst (λ (x : TrailData). Watched w (lits_at (g.P.Port.state c.args.port.now)) x) (sym c.literal_fails.ensures.trail) c.literal_fails.ensures.watched)

pub returns-clause-reasons : goal.returns-clause-reasons
returns-clause-reasons g c =
    let s = g.P.Port.state c.args.port.now in
    subst (λ (x : PortState). HasReasons (attached c.literal_fails.new.watches) x c.literal_fails.new.trail.steps) (sym c.literal_fails.ensures.same)
    (subst (λ (x : TrailData). HasReasons (attached c.literal_fails.new.watches) s x.steps) (sym c.literal_fails.ensures.trail)
    (subst (λ (cs : List Cref). HasReasons cs s c.args.trail.now.steps) (sym c.literal_fails.ensures.attached) c.requires.reasons))

pub returns-clause-level : goal.returns-clause-level
returns-clause-level g c = ap (λ (x : TrailData). x.level) c.literal_fails.ensures.trail ∙ c.requires.level

pub returns-clause-trail : goal.returns-clause-trail
returns-clause-trail g c = subst IsTrail (sym c.literal_fails.ensures.trail) c.decision_level-lawful.ensures.trail

pub returns-clause-held : goal.returns-clause-held
returns-clause-held g c = ap (λ (x : PortState). x.held) c.literal_fails.ensures.same

pub returns-clause-log : goal.returns-clause-log
returns-clause-log g c = λ o h. subst (StandsOver o) (sym c.literal_fails.ensures.same) h

pub returns-clause-port : goal.returns-clause-port
returns-clause-port g c = subst IsPort (sym c.literal_fails.ensures.same) c.vars-vars.ensures.port

pub returns-clause-probed : goal.returns-clause-probed
returns-clause-probed g c = record { quiet = sym c.in-Ok.ensures.failed ∙ c.if-failed.false; state = c.literal_fails.ensures.same; trail = c.literal_fails.ensures.trail }

pub returns-clause-quiet : goal.returns-clause-quiet
returns-clause-quiet g c = λ not_empty.
    subst (λ (x : PortState). IsQuiet c.literal_fails.new.watches (lits_at x) c.literal_fails.new.trail) (sym c.literal_fails.ensures.same)
    (quiet-same c.args.watches.now c.literal_fails.new.watches (lits_at (g.P.Port.state c.args.port.now)) c.args.trail.now c.literal_fails.new.trail c.literal_fails.ensures.attached c.literal_fails.ensures.trail c.requires.quiet)

-- It fails

pub follow_negation-requires-clause-level : goal.follow_negation-requires-clause-level
follow_negation-requires-clause-level g c = ap (λ (x : TrailData). x.level) c.literal_fails.ensures.trail ∙ c.requires.level

pub follow_negation-requires-clause-trail : goal.follow_negation-requires-clause-trail
follow_negation-requires-clause-trail g c = subst IsTrail (sym c.literal_fails.ensures.trail) c.decision_level-lawful.ensures.trail

pub follow_negation-requires-clause-watched : goal.follow_negation-requires-clause-watched
follow_negation-requires-clause-watched g c =
    let w = c.literal_fails.new.watches in
    subst (λ (x : PortState). Watched w (lits_at x) c.literal_fails.new.trail) (sym c.literal_fails.ensures.same)
    (subst (λ (x : TrailData). Watched w (lits_at (g.P.Port.state c.args.port.now)) x) (sym c.literal_fails.ensures.trail) c.literal_fails.ensures.watched)

pub follow_negation-requires-clause-reasons : goal.follow_negation-requires-clause-reasons
follow_negation-requires-clause-reasons g c =
    let s = g.P.Port.state c.args.port.now in
    subst (λ (x : PortState). HasReasons (attached c.literal_fails.new.watches) x c.literal_fails.new.trail.steps) (sym c.literal_fails.ensures.same)
    (subst (λ (x : TrailData). HasReasons (attached c.literal_fails.new.watches) s x.steps) (sym c.literal_fails.ensures.trail)
    (subst (λ (cs : List Cref). HasReasons cs s c.args.trail.now.steps) (sym c.literal_fails.ensures.attached) c.requires.reasons))

pub follow_negation-requires-clause-vars : goal.follow_negation-requires-clause-vars
follow_negation-requires-clause-vars g c = ap (λ (x : PortState). x.vars) c.literal_fails.ensures.same ∙ c.requires.vars ∙ sym c.literal_fails.ensures.vars

pub follow_negation-requires-clause-on : goal.follow_negation-requires-clause-on
follow_negation-requires-clause-on g c = subst (λ (x : PortState). IsOn x.vars c.args.literal) (sym c.literal_fails.ensures.same) c.requires.on

pub follow_negation-requires-clause-free : goal.follow_negation-requires-clause-free
follow_negation-requires-clause-free g c = ap (λ (x : TrailData). value_of x.steps c.args.literal.var) c.literal_fails.ensures.trail ∙ c.requires.free

pub follow_negation-requires-clause-usable : goal.follow_negation-requires-clause-usable
follow_negation-requires-clause-usable g c = ap (λ (x : PortState). is_usable x.refused) c.literal_fails.ensures.same ∙ c.requires.usable

pub follow_negation-requires-clause-port : goal.follow_negation-requires-clause-port
follow_negation-requires-clause-port g c = subst IsPort (sym c.literal_fails.ensures.same) c.vars-vars.ensures.port

pub follow_negation-requires-clause-failed : goal.follow_negation-requires-clause-failed
follow_negation-requires-clause-failed g c =
    ap (λ (x : PortState). fails x (attached c.literal_fails.new.watches) c.literal_fails.new.trail.steps c.args.literal) c.literal_fails.ensures.same
    ∙ ap (λ (cs : List Cref). fails (g.P.Port.state c.args.port.now) cs c.literal_fails.new.trail.steps c.args.literal) c.literal_fails.ensures.attached
    ∙ ap (λ (x : TrailData). fails (g.P.Port.state c.args.port.now) (attached c.args.watches.now) x.steps c.args.literal) c.literal_fails.ensures.trail
    ∙ sym c.in-Ok.ensures.failed ∙ c.if-failed.true

pub follow_negation-requires-clause-implied : goal.follow_negation-requires-clause-implied
follow_negation-requires-clause-implied g c =
    subst (λ (x : PortState). rup (known x) (opposite c.args.literal ∷ []) ≡ true) (sym c.literal_fails.ensures.same) (c.in-Ok.ensures.implied c.if-failed.true)

pub returns-then-failed-clause-probed : goal.returns-then-failed-clause-probed
returns-then-failed-clause-probed g c =
    let n = g.P.Port.state c.follow_negation.new.port in
    let w = c.follow_negation.new.watches in
    let u = c.follow_negation.new.trail in
    subst (λ (x : PortState). IfOk c.follow_negation.result (IsProbed x n (attached c.args.watches.now) w c.args.trail.now u c.args.literal)) c.literal_fails.ensures.same
    (subst (λ (cs : List Cref). IfOk c.follow_negation.result (IsProbed (g.P.Port.state c.literal_fails.new.port) n cs w c.args.trail.now u c.args.literal)) c.literal_fails.ensures.attached
    (subst (λ (x : TrailData). IfOk c.follow_negation.result (IsProbed (g.P.Port.state c.literal_fails.new.port) n (attached c.literal_fails.new.watches) w x u c.args.literal)) c.literal_fails.ensures.trail c.follow_negation.ensures.probed))

pub returns-then-failed-clause-stopped : goal.returns-then-failed-clause-stopped
returns-then-failed-clause-stopped g c =
    let n = g.P.Port.state c.follow_negation.new.port in
    subst (λ (x : PortState). IfErr c.follow_negation.result (WasCutShort x n (attached c.args.watches.now) c.args.trail.now c.args.literal)) c.literal_fails.ensures.same
    (subst (λ (cs : List Cref). IfErr c.follow_negation.result (WasCutShort (g.P.Port.state c.literal_fails.new.port) n cs c.args.trail.now c.args.literal)) c.literal_fails.ensures.attached
    (subst (λ (x : TrailData). IfErr c.follow_negation.result (WasCutShort (g.P.Port.state c.literal_fails.new.port) n (attached c.literal_fails.new.watches) x c.args.literal)) c.literal_fails.ensures.trail c.follow_negation.ensures.stopped))

pub returns-then-failed-clause-log : goal.returns-then-failed-clause-log
returns-then-failed-clause-log g c = λ o h. c.follow_negation.ensures.log o (subst (StandsOver o) (sym c.literal_fails.ensures.same) h)
