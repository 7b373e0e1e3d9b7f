use Rattle.std.proofs.Common.{◌≡◌, ◌∙◌, ◌<◌, true, List, [], length, Some, sym, ap, subst, arith}
use Rattle.sat_words.specs.declared.shared.Cref.{Cref}
use Rattle.sat_words.specs.Literal.{Literal}
use Rattle.ring_port.specs.PortState.{PortState, clause_at, lits_at}
use Rattle.ring_port.specs.Port.{AreHints}
use Rattle.ring_trail.specs.Reasoned.{IsReasoned}
use Rattle.watch_prop.proofs.TrailLaws.{Reasons-held}
use Rattle.vivify.specs.Ending.{CanTrace}
use Rattle.ring_trail.specs.TrailData.{TrailData, up_to}
use Rattle.analyze.specs.HintOrder.{AreInTrailOrder}
use Rattle.watch_prop.specs.WatchData.{attached}
use Rattle.watch_prop.specs.Watched.{Watched}
use Rattle.watch_prop.specs.Aside.{but}
use Rattle.watch_prop.specs.Propagation.{HasReasons}
use Rattle.watch_prop.proofs.Quiets.{quiet-same}
use Rattle.vivify.specs.Walking.{IsWalking, PassedOver, HasWalked}
use Rattle.vivify.proofs.Walked.{set_aside, is_back, put_back, left_now}
use Rattle.vivify.proofs.walk.literals_left.Given as Given
use Rattle.vivify.proofs.walk.literals_left.Goals.{In_ok-ending, After-back_to}
use Rattle.vivify.proofs.walk.literals_left.Goals as goal

pub propagate-requires-clause-below : goal.propagate-requires-clause-below
propagate-requires-clause-below g c = λ k lt. c.requires.quiet.closed k

pub walk_clause-requires-clause-walking : goal.walk_clause-requires-clause-walking
walk_clause-requires-clause-walking g c =
    let r = c.requires in
    subst (λ (x : PortState). IsWalking x (but (Some c.args.c) c.propagate.new.self) c.propagate.new.trail c.propagate.new.trail []) (sym c.propagate.ensures.same)
    (set_aside (g.P.Port.state c.args.port.now) c.args.watches.now c.propagate.new.self c.args.trail.now c.propagate.new.trail c.args.c c.decision_level-lawful.ensures.trail r.level r.quiet r.reasons r.free
    c.propagate.ensures.attached (c.propagate.ensures.still r.quiet) c.propagate.ensures.watched)

pub walk_clause-requires-clause-settled : goal.walk_clause-requires-clause-settled
walk_clause-requires-clause-settled g c = c.in_ok-propagate.ensures.settled c.requires.quiet

pub walk_clause-requires-clause-vars : goal.walk_clause-requires-clause-vars
walk_clause-requires-clause-vars g c =
    ap (λ (s : PortState). s.vars) c.propagate.ensures.same ∙ c.requires.vars ∙ sym c.requires.watched.vars ∙ sym (ap (λ (t : TrailData). t.vars) (c.propagate.ensures.still c.requires.quiet))

pub returns-in_err-ending-clause-attached : goal.returns-in_err-ending-clause-attached
returns-in_err-ending-clause-attached g c = c.walk_clause.ensures.passed.clauses ∙ c.propagate.ensures.attached

pub returns-in_err-ending-clause-vars : goal.returns-in_err-ending-clause-vars
returns-in_err-ending-clause-vars g c = c.walk_clause.ensures.passed.vars ∙ c.propagate.ensures.vars

pub returns-clause-attached : goal.returns-clause-attached
returns-clause-attached g c = c.walk_clause.ensures.passed.clauses ∙ c.propagate.ensures.attached

pub returns-clause-vars : goal.returns-clause-vars
returns-clause-vars g c = c.walk_clause.ensures.passed.vars ∙ c.propagate.ensures.vars

-- what the walk did, over the port at the start
walked : (g : Given.Over) (c : In_ok-ending g) → HasWalked (g.P.Port.state c.args.port.now) c.args.c (but (Some c.args.c) c.propagate.new.self) (but (Some c.args.c) c.walk_clause.new.watches) c.propagate.new.trail c.walk_clause.new.trail
    c.walk_clause.new.kept.items c.in_ok-ending.ending
walked g c =
    subst (λ (x : PortState). HasWalked x c.args.c (but (Some c.args.c) c.propagate.new.self) (but (Some c.args.c) c.walk_clause.new.watches) c.propagate.new.trail c.walk_clause.new.trail c.walk_clause.new.kept.items c.in_ok-ending.ending)
    c.propagate.ensures.same c.in_ok-ending.ensures.walked

trail_is : (g : Given.Over) (c : After-back_to g) → c.back_to.new.self ≡ c.args.trail.now
trail_is g c =
    c.back_to.ensures.back (omega arith)
    ∙ is_back (g.P.Port.state c.args.port.now) c.args.watches.now c.propagate.new.self c.walk_clause.new.watches c.args.trail.now c.propagate.new.trail c.walk_clause.new.trail c.args.c c.decision_level-lawful.ensures.trail c.requires.level c.requires.quiet
    (c.propagate.ensures.still c.requires.quiet) (walked g (goal.at.After-back_to g c).In_ok-ending).above

pub returns-clause-trail : goal.returns-clause-trail
returns-clause-trail g c = trail_is g (goal.at.returns-clause-trail g c).After-back_to

pub returns-clause-watched : goal.returns-clause-watched
returns-clause-watched g c =
    let s = g.P.Port.state c.args.port.now in
    let passed = subst (λ (x : PortState). PassedOver x c.args.c c.propagate.new.self c.walk_clause.new.watches) c.propagate.ensures.same c.walk_clause.ensures.passed in
    subst (λ (t : TrailData). Watched c.walk_clause.new.watches (lits_at s) t) (sym (trail_is g (goal.at.returns-clause-watched g c).After-back_to))
    (put_back s c.args.watches.now c.propagate.new.self c.walk_clause.new.watches c.args.trail.now c.propagate.new.trail c.walk_clause.new.trail c.args.c c.decision_level-lawful.ensures.trail c.requires.level c.requires.quiet
    (c.propagate.ensures.still c.requires.quiet) (walked g (goal.at.returns-clause-watched g c).In_ok-ending).above c.propagate.ensures.watched passed)

pub returns-clause-quiet : goal.returns-clause-quiet
returns-clause-quiet g c =
    quiet-same c.args.watches.now c.walk_clause.new.watches (lits_at (g.P.Port.state c.args.port.now)) c.args.trail.now c.back_to.new.self
    (c.walk_clause.ensures.passed.clauses ∙ c.propagate.ensures.attached) (trail_is g (goal.at.returns-clause-quiet g c).After-back_to) c.requires.quiet

pub returns-clause-reasons : goal.returns-clause-reasons
returns-clause-reasons g c =
    let s = g.P.Port.state c.args.port.now in
    subst (λ (t : TrailData). HasReasons (attached c.walk_clause.new.watches) s t.steps) (sym (trail_is g (goal.at.returns-clause-reasons g c).After-back_to))
    (subst (λ (cs : List Cref). HasReasons cs s c.args.trail.now.steps) (sym (c.walk_clause.ensures.passed.clauses ∙ c.propagate.ensures.attached)) c.requires.reasons)

pub returns-clause-left : goal.returns-clause-left
returns-clause-left g c =
    let s = g.P.Port.state c.args.port.now in
    let w = walked g (goal.at.returns-clause-left g c).In_ok-ending in
    left_now s c.args.watches.now c.propagate.new.self c.walk_clause.new.watches c.args.trail.now c.propagate.new.trail c.walk_clause.new.trail c.args.c c.decision_level-lawful.ensures.trail c.requires.level c.requires.quiet
    (c.propagate.ensures.still c.requires.quiet) w.above c.walk_clause.new.kept.items (lits_at s c.args.c.address) c.propagate.ensures.attached w.left_is

pub returns-clause-implied : goal.returns-clause-implied
returns-clause-implied g c = (walked g (goal.at.returns-clause-implied g c).In_ok-ending).implied

pub trace_shorter-requires-clause-vars : goal.trace_shorter-requires-clause-vars
trace_shorter-requires-clause-vars g c =
    (walked g (goal.at.trace_shorter-requires-clause-vars g c).In_ok-ending).above.vars ∙ ap (λ (t : TrailData). t.vars) (c.propagate.ensures.still c.requires.quiet) ∙ sym c.requires.analysis

pub trace_shorter-requires-clause-reasoned : goal.trace_shorter-requires-clause-reasoned
trace_shorter-requires-clause-reasoned g c =
    let steps = c.walk_clause.new.trail.steps in
    subst (λ (x : PortState). IsReasoned (clause_at x) x.seen steps) (sym (c.walk_clause.ensures.same ∙ c.propagate.ensures.same))
    (Reasons-held (attached (but (Some c.args.c) c.walk_clause.new.watches)) (g.P.Port.state c.args.port.now) steps (walked g (goal.at.trace_shorter-requires-clause-reasoned g c).In_ok-ending).above.reasons)

pub trace_shorter-requires-clause-can : goal.trace_shorter-requires-clause-can
trace_shorter-requires-clause-can g c =
    subst (λ (kept : List Literal). CanTrace (g.P.Port.state c.walk_clause.new.port) c.walk_clause.new.trail kept c.args.c c.in_ok-ending.ending) (sym c.as_slice.ensures.value)
    (subst (λ (x : PortState). CanTrace x c.walk_clause.new.trail c.walk_clause.new.kept.items c.args.c c.in_ok-ending.ending) (sym (c.walk_clause.ensures.same ∙ c.propagate.ensures.same))
    (walked g (goal.at.trace_shorter-requires-clause-can g c).In_ok-ending).traced)

pub returns-clause-hints : goal.returns-clause-hints
returns-clause-hints g c =
    let a = c.args.c.address in
    let hints = c.trace_shorter.new.analysis.hints in
    subst (λ (x : PortState). length c.walk_clause.new.kept.items < length (lits_at x a) → AreHints x c.walk_clause.new.kept.items hints) (c.walk_clause.ensures.same ∙ c.propagate.ensures.same)
    (subst (λ (kept : List Literal). length kept < length (lits_at (g.P.Port.state c.walk_clause.new.port) a) → AreHints (g.P.Port.state c.walk_clause.new.port) kept hints) c.as_slice.ensures.value c.trace_shorter.ensures.hints)

-- the hints are in the order of the trail on which the walk ended
pub returns-clause-order : goal.returns-clause-order
returns-clause-order g c = λ fewer hinted.
    let s = g.P.Port.state c.args.port.now in
    let a = c.args.c.address in
    let u = c.walk_clause.new.trail in
    let kept = c.walk_clause.new.kept.items in
    let hints = c.trace_shorter.new.analysis.hints in
    let w = walked g (goal.at.returns-clause-order g c).In_ok-ending in
    let start = ap (λ (t : TrailData). up_to 0 t.steps) (c.propagate.ensures.still c.requires.quiet) in
    let last = subst (λ (x : PortState). length kept < length (lits_at x a) → x.hinted ≡ true → (last : List Literal) × AreInTrailOrder x u.steps last hints) (c.walk_clause.ensures.same ∙ c.propagate.ensures.same)
    (subst (λ (k : List Literal). length k < length (lits_at (g.P.Port.state c.walk_clause.new.port) a) → (g.P.Port.state c.walk_clause.new.port).hinted ≡ true
    → (last : List Literal) × AreInTrailOrder (g.P.Port.state c.walk_clause.new.port) u.steps last hints) c.as_slice.ensures.value c.trace_shorter.ensures.order) fewer hinted in
    record {
      trail = u;
      shape = w.above.trail;
      low = w.above.low ∙ start;
      reasoned = Reasons-held (attached (but (Some c.args.c) c.walk_clause.new.watches)) s u.steps w.above.reasons;
      decided = w.decided;
      last = last.0;
      order = last.1;
    }
