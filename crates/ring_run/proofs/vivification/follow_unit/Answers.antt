use Rattle.std.proofs.Common.{◌≡◌, ◌∙◌, ℕ, List, true, [], subst, ap, sym, inl, inr, refl, length, None, arith}
use Rattle.rup_model.specs.Journal.{recent}
use Rattle.ring_port.specs.PortState.{PortState, clause_at, known, lits_at}
use Rattle.ring_trail.specs.TrailData.{TrailData, IsTrail, HasGrown, assigned}
use Rattle.watch_prop.specs.WatchData.{WatchData, attached}
use Rattle.watch_prop.specs.Watched.{Watched}
use Rattle.watch_prop.specs.Propagation.{HasReasons, IsClosedBelow, IsPropagated, IsConflict, IsQuiet}
use Rattle.ring_run.specs.Searching.{GoesOn, IsHeldBy, OffersNothing, OnlyWrote, ToldUnits, AreTold}
use Rattle.ring_run.specs.Ending.{EndsAt, WroteEmpty, HaltsTelling, end_refused}
use Rattle.ring_run.specs.Course.{Searches}
use Rattle.ring_run.proofs.Resting.{conflict_refutes}
use Rattle.ring_run.proofs.Shrinking.{refused_halts}
use Rattle.ring_run.proofs.Standing.{no_value}
use Rattle.ring_run.proofs.Turning.{grown_search, quiet_same}
use Rattle.ring_run.proofs.Hinting.{conflict_traces}
use Rattle.ring_port.proofs.Holdings.{All_In}
use Rattle.rup_model.proofs.Lists.{Contains_In}
use Rattle.rup_model.specs.Rup.{rup}
use Rattle.ring_port.specs.Port.{AreHints}
use Rattle.ring_run.proofs.vivification.follow_unit.Given.{Over}
use Rattle.ring_run.proofs.vivification.follow_unit.Goals.{After-decision_level-lawful, In-Conflict}
use Rattle.ring_run.proofs.vivification.follow_unit.Goals as goal
use Rattle.ring_run.specs.Ended.{reductions}

pub assign-requires-clause-free : goal.assign-requires-clause-free
assign-requires-clause-free g c = no_value c.args.ring.now.trail.steps c.args.lit.var c.requires.awaits.free

pub propagate-requires-clause-watched : goal.propagate-requires-clause-watched
propagate-requires-clause-watched g c =
    let found = c.requires.awaits.search (subst IsTrail c.assign.ensures.step c.assign.ensures.trail) in
    subst (λ (t : TrailData). Watched c.args.ring.now.watches (lits_at (g.P.Port.state c.args.port.now)) t) (sym c.assign.ensures.step) found.watched

pub propagate-requires-clause-below : goal.propagate-requires-clause-below
propagate-requires-clause-below g c =
    let found = c.requires.awaits.search (subst IsTrail c.assign.ensures.step c.assign.ensures.trail) in
    subst (λ (t : TrailData). IsClosedBelow c.args.ring.now.watches (lits_at (g.P.Port.state c.args.port.now)) t) (sym c.assign.ensures.step) found.closed

pub propagate-requires-clause-reasons : goal.propagate-requires-clause-reasons
propagate-requires-clause-reasons g c =
    let found = c.requires.awaits.search (subst IsTrail c.assign.ensures.step c.assign.ensures.trail) in
    subst (λ (t : TrailData). HasReasons (attached c.args.ring.now.watches) (g.P.Port.state c.args.port.now) t.steps) (sym c.assign.ensures.step) found.reasons

-- the search after propagation
grown_by : (g : Over) (c : After-decision_level-lawful g) → Searches (g.P.Port.state c.propagate.new.port) c.propagate.new.trail c.propagate.new.self c.args.ring.now.written
grown_by g c =
    let s = g.P.Port.state c.args.port.now in
    let m = g.P.Port.state c.propagate.new.port in
    let old = c.args.ring.now in
    let t = c.propagate.new.trail in
    let w = c.propagate.new.self in
    let found = c.requires.awaits.search (subst IsTrail c.assign.ensures.step c.assign.ensures.trail) in
    let grown : HasGrown (assigned old.trail c.args.lit None) t = subst (λ (x : TrailData). HasGrown x t) c.assign.ensures.step c.propagate.ensures.grown in
    grown_search s m (assigned old.trail c.args.lit None) t old.watches w old.written found c.propagate.ensures.same c.decision_level-lawful.ensures.trail c.propagate.ensures.attached grown c.propagate.ensures.reasons c.propagate.ensures.watched

level_now : (g : Over) (c : After-decision_level-lawful g) → c.propagate.new.trail.level ≡ 0
level_now g c = c.propagate.ensures.grown.level ∙ ap (λ (x : TrailData). x.level) c.assign.ensures.step ∙ c.requires.awaits.level

vars_now : (g : Over) (c : After-decision_level-lawful g) → c.propagate.new.trail.vars ≡ c.args.ring.now.trail.vars
vars_now g c = c.propagate.ensures.grown.vars ∙ ap (λ (x : TrailData). x.vars) c.assign.ensures.step

-- the conflict
opposed : (g : Over) (c : In-Conflict g) → IsConflict c.propagate.new.self (lits_at (g.P.Port.state c.propagate.new.port)) c.propagate.new.trail c.in-Conflict.conflict
opposed g c =
    let s = g.P.Port.state c.args.port.now in
    let t = c.propagate.new.trail in
    let w = c.propagate.new.self in
    let bad : IsConflict w (lits_at s) t c.in-Conflict.conflict = subst (IsPropagated w (lits_at s) t) c.in-Conflict.is c.in-Ok.ensures.propagated in
    subst (λ (x : PortState). IsConflict w (lits_at x) t c.in-Conflict.conflict) (sym c.propagate.ensures.same) bad

pub trace_clause-requires-clause-vars : goal.trace_clause-requires-clause-vars
trace_clause-requires-clause-vars g c = vars_now g (goal.at.trace_clause-requires-clause-vars g c).After-decision_level-lawful ∙ sym c.requires.analysis

pub trace_clause-requires-clause-held : goal.trace_clause-requires-clause-held
trace_clause-requires-clause-held g c =
    let at = goal.at.trace_clause-requires-clause-held g c in
    let w = c.propagate.new.self in
    All_In (IsHeldBy (g.P.Port.state c.propagate.new.port)) (attached w) c.in-Conflict.conflict (grown_by g at.After-decision_level-lawful).clauses.held
    (Contains_In (attached w) c.in-Conflict.conflict (opposed g at.In-Conflict).member)

pub trace_clause-requires-clause-reasoned : goal.trace_clause-requires-clause-reasoned
trace_clause-requires-clause-reasoned g c = (grown_by g (goal.at.trace_clause-requires-clause-reasoned g c).After-decision_level-lawful).stands.reasoned

pub trace_clause-requires-clause-can : goal.trace_clause-requires-clause-can
trace_clause-requires-clause-can g c =
    let m = g.P.Port.state c.propagate.new.port in
    let at = goal.at.trace_clause-requires-clause-can g c in
    conflict_traces (clause_at m) c.propagate.new.trail (lits_at m c.in-Conflict.conflict.address) c.decision_level-lawful.ensures.trail (level_now g at.After-decision_level-lawful) (opposed g at.In-Conflict).false_all

pub refute-requires-clause-hints : goal.refute-requires-clause-hints
refute-requires-clause-hints g c =
    subst (λ (ns : List ℕ). AreHints (g.P.Port.state c.trace_clause.new.port) [] ns) (sym c.hints.ensures)
    (subst (λ (x : PortState). AreHints x [] c.trace_clause.new.self.hints) (sym c.trace_clause.ensures.same) c.trace_clause.ensures.hints)

pub refute-requires-clause-rup : goal.refute-requires-clause-rup
refute-requires-clause-rup g c =
    let m = g.P.Port.state c.propagate.new.port in
    let t = c.propagate.new.trail in
    let w = c.propagate.new.self in
    let at = goal.at.refute-requires-clause-rup g c in
    subst (λ (x : PortState). rup (known x) [] ≡ true) (sym c.trace_clause.ensures.same)
    (conflict_refutes m t w w c.args.ring.now.written c.in-Conflict.conflict (grown_by g at.After-decision_level-lawful) (level_now g at.After-decision_level-lawful) (opposed g at.In-Conflict) Rattle.std.proofs.Common.refl)

pub refute-requires-clause-usable : goal.refute-requires-clause-usable
refute-requires-clause-usable g c =
    let found = c.requires.awaits.search (subst IsTrail c.assign.ensures.step c.assign.ensures.trail) in
    ap (λ (x : PortState). x.refused) c.trace_clause.ensures.same ∙ ap (λ (x : PortState). x.refused) c.propagate.ensures.same ∙ found.clauses.refused

pub returns-in-Conflict-clause-over : goal.returns-in-Conflict-clause-over
returns-in-Conflict-clause-over g c =
    record { ends = subst (λ (x : PortState). EndsAt x (g.P.Port.state c.refute.new.port) c.refute.result) (c.trace_clause.ensures.same ∙ c.propagate.ensures.same) c.refute.ensures.ends; halted = c.refute.ensures.halted; refusal = c.refute.ensures.refusal; none = c.refute.ensures.none }

pub returns-in-Conflict-clause-nothing : goal.returns-in-Conflict-clause-nothing
returns-in-Conflict-clause-nothing g c = subst (λ (x : PortState). OffersNothing x (g.P.Port.state c.refute.new.port)) (c.trace_clause.ensures.same ∙ c.propagate.ensures.same) c.refute.ensures.nothing

pub returns-in-Ok-write_pending-clause-vars : goal.returns-in-Ok-write_pending-clause-vars
returns-in-Ok-write_pending-clause-vars g c =
    ap (λ (x : TrailData). x.vars) c.write_pending.ensures.trail ∙ vars_now g (goal.at.returns-in-Ok-write_pending-clause-vars g c).After-decision_level-lawful

pub write_pending-requires-clause-search : goal.write_pending-requires-clause-search
write_pending-requires-clause-search g c = grown_by g (goal.at.write_pending-requires-clause-search g c).After-decision_level-lawful

pub write_pending-requires-clause-analysis : goal.write_pending-requires-clause-analysis
write_pending-requires-clause-analysis g c = c.requires.analysis ∙ sym (vars_now g (goal.at.write_pending-requires-clause-analysis g c).After-decision_level-lawful)

pub returns-in-Ok-write_pending-clause-keeps : goal.returns-in-Ok-write_pending-clause-keeps
returns-in-Ok-write_pending-clause-keeps g c = λ start n p. c.in-Ok-write_pending.ensures.ok start n (subst (λ (x : PortState). GoesOn start x n) (sym c.propagate.ensures.same) p)

pub returns-in-Ok-write_pending-clause-resting : goal.returns-in-Ok-write_pending-clause-resting
returns-in-Ok-write_pending-clause-resting g c =
    let s = g.P.Port.state c.args.port.now in
    let u = g.P.Port.state c.write_pending.new.port in
    let t = c.propagate.new.trail in
    let w = c.propagate.new.self in
    let k = c.in-Ok-write_pending.ensures in
    let same = c.propagate.ensures.same in
    let grown : HasGrown (assigned c.args.ring.now.trail c.args.lit None) t = subst (λ (x : TrailData). HasGrown x t) c.assign.ensures.step c.propagate.ensures.grown in
    let level : t.level ≡ 0 = grown.level ∙ c.requires.awaits.level in
    let quiet : IsQuiet w (lits_at s) t = subst (IsPropagated w (lits_at s) t) c.in-Quiet.is c.in-Ok.ensures.propagated in
    record {
      search = k.search;
      level = ap (λ (x : TrailData). x.level) c.write_pending.ensures.trail ∙ level;
      quiet = quiet_same s u t c.write_pending.new.ring.trail w c.write_pending.new.ring.watches (c.write_pending.ensures.held ∙ ap (λ (x : PortState). x.held) same) c.write_pending.ensures.trail c.write_pending.ensures.watches quiet;
      whole = k.whole level;
      reduced = (let same_log = ap (λ (x : PortState). reductions x.ring x.mine) same in let wrote = k.wrote.reduced in omega (arith, same_log, wrote, c.requires.awaits.reduced));
      lately = k.wrote.recent ∙ ap (λ (x : PortState). recent x.ring x.mine) same ∙ c.requires.awaits.lately;
      none_taken = k.wrote.taken ∙ ap (λ (x : PortState). x.taken) same ∙ c.requires.awaits.none_taken;
    }

pub returns-in-Ok-write_pending-clause-followed : goal.returns-in-Ok-write_pending-clause-followed
returns-in-Ok-write_pending-clause-followed g c =
    let s = g.P.Port.state c.args.port.now in
    let u = g.P.Port.state c.write_pending.new.port in
    let t = c.propagate.new.trail in
    let k = c.in-Ok-write_pending.ensures in
    let grown : HasGrown (assigned c.args.ring.now.trail c.args.lit None) t = subst (λ (x : TrailData). HasGrown x t) c.assign.ensures.step c.propagate.ensures.grown in
    let rests = returns-in-Ok-write_pending-clause-resting g c in
    record {
      grown = subst (λ (x : TrailData). HasGrown (assigned c.args.ring.now.trail c.args.lit None) x) (sym c.write_pending.ensures.trail) grown;
      lines = subst (λ (x : PortState). OnlyWrote x u) c.propagate.ensures.same k.wrote;
      units = subst (λ (x : PortState). ToldUnits x u) c.propagate.ensures.same k.lines;
      told = subst (AreTold u c.write_pending.new.ring.trail) rests.whole k.search.told;
      alone = k.search.stands.seen;
      same_clauses = ap (λ (x : WatchData). attached x) c.write_pending.ensures.watches ∙ c.propagate.ensures.attached;
      quiet = rests.quiet;
    }

pub returns-in-Err-clause-over : goal.returns-in-Err-clause-over
returns-in-Err-clause-over g c =
    let s = g.P.Port.state c.args.port.now in
    let u = g.P.Port.state c.write_pending.new.port in
    refused_halts s u c.in-Err.stop c.end_refused.result c.end_refused.ensures (subst (λ (x : PortState). EndsAt x u (end_refused c.in-Err.stop)) c.propagate.ensures.same c.in-Err.ensures.over)

pub returns-in_default-clause-halts : goal.returns-in_default-clause-halts
returns-in_default-clause-halts g c = inl (c.propagate.ensures.same, refl)

pub returns-in-Conflict-clause-halts : goal.returns-in-Conflict-clause-halts
returns-in-Conflict-clause-halts g c = inr (inl (subst (λ (x : PortState). WroteEmpty x (g.P.Port.state c.refute.new.port) c.refute.result) (c.trace_clause.ensures.same ∙ c.propagate.ensures.same) c.refute.ensures.empty))

pub returns-in-Err-clause-halts : goal.returns-in-Err-clause-halts
returns-in-Err-clause-halts g c =
    let u = g.P.Port.state c.write_pending.new.port in
    let t = c.propagate.new.trail in
    let grown : HasGrown (assigned c.args.ring.now.trail c.args.lit None) t = subst (λ (x : TrailData). HasGrown x t) c.assign.ensures.step c.propagate.ensures.grown in
    let refused = subst (HaltsTelling (g.P.Port.state c.propagate.new.port) u t.steps) (sym c.end_refused.ensures) c.in-Err.ensures.halts in
    inr (inr (t, grown, subst (λ (x : PortState). HaltsTelling x u t.steps c.end_refused.result) c.propagate.ensures.same refused))
