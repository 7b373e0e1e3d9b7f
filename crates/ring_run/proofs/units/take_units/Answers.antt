use Rattle.std.proofs.Common.{◌≡◌, ◌∙◌, ap, ℕ, ◌<◌, ◌≤◌, subst, sym, None, length}
use Rattle.std.specs.Prelude.{MatchBool}
use Rattle.ring_trail.specs.TrailData.{HasGrown, IsTrueOn, IsFalseOn, reason_at}
use Rattle.ring_run.specs.Searching.{Stands}
use Rattle.watch_prop.specs.Propagation.{HasReasons}
use Rattle.ring_run.proofs.Standing.{saw_none, stands_none, opening_none, reasons_none, took_on, within_zero, saw_more, stands_seen, stands_taken, opposed, grown_by, reasons_seen, reasons_taken}
use Rattle.ring_run.proofs.Importing.{unit_taken, still_added}
use Rattle.watch_prop.specs.Watched.{Watched}
use Rattle.watch_prop.proofs.TrailLaws.{Watched-assign}
use Rattle.ring_run.proofs.Telling.{bare_more}
use Rattle.ring_run.proofs.Progress.{counted_goes_on}
use Rattle.ring_port.specs.PortState.{PortState, one_more}
use Rattle.ring_run.proofs.units.take_units.Goals as goal

pub truth-requires : goal.truth-requires
truth-requires g c = took_on (g.P.Port.state c.loop-lit.port) (g.P.Port.state c.next_unit.new.self) c.loop-lit.trail c.in-Some.lit c.loop-lit.invariant.stands c.in-Some.ensures.took c.next_unit.ensures.port

pub loop-lit-preserved-in-Some-true : goal.loop-lit-preserved-in-Some-true
loop-lit-preserved-in-Some-true g c =
    let here : IsTrueOn c.loop-lit.trail.steps c.in-Some.lit = subst (λ b. MatchBool b (IsTrueOn c.loop-lit.trail.steps c.in-Some.lit) (IsFalseOn c.loop-lit.trail.steps c.in-Some.lit)) c.in-Some-true.field-0-test c.in-Some-true.ensures.truth in
    let level : c.loop-lit.trail.level ≡ 0 = c.loop-lit.invariant.grown.level ∙ c.requires.level in
    record {
      saw = saw_more (g.P.Port.state c.args.port.now) (g.P.Port.state c.loop-lit.port) (g.P.Port.state c.next_unit.new.self) c.in-Some.lit c.loop-lit.invariant.saw c.in-Some.ensures.took c.next_unit.ensures.log;
      caught_up = ap (λ (x : PortState). x.caught_up) c.in-Some.ensures.took.state ∙ c.loop-lit.invariant.caught_up;
      grown = c.loop-lit.invariant.grown;
      stands = stands_seen (g.P.Port.state c.loop-lit.port) (g.P.Port.state c.next_unit.new.self) c.loop-lit.trail c.in-Some.lit c.loop-lit.invariant.stands c.in-Some.ensures.took
          (within_zero c.loop-lit.trail c.in-Some.lit c.loop-lit.invariant.trail level here);
      keeps = λ start n p. unit_taken (g.P.Port.state c.loop-lit.port) (g.P.Port.state c.next_unit.new.self) c.in-Some.lit c.in-Some.ensures.took c.loop-lit.invariant.added c.next_unit.ensures.log c.next_unit.ensures.port start n
          (c.loop-lit.invariant.keeps start n p);
      added = still_added (g.P.Port.state c.loop-lit.port) (g.P.Port.state c.next_unit.new.self) c.in-Some.lit c.in-Some.ensures.took c.loop-lit.invariant.added;
      reasons = λ cs r. reasons_seen cs (g.P.Port.state c.loop-lit.port) (g.P.Port.state c.next_unit.new.self) c.loop-lit.trail.steps c.in-Some.lit c.in-Some.ensures.took (c.loop-lit.invariant.reasons cs r);
      bare = c.loop-lit.invariant.bare;
      watched = c.loop-lit.invariant.watched;
      trail = c.loop-lit.invariant.trail;
      port = c.next_unit.ensures.port;
    }

pub returns-in-Some-false-clause-taken : goal.returns-in-Some-false-clause-taken
returns-in-Some-false-clause-taken g c =
    let here : IsFalseOn c.loop-lit.trail.steps c.in-Some.lit = subst (λ b. MatchBool b (IsTrueOn c.loop-lit.trail.steps c.in-Some.lit) (IsFalseOn c.loop-lit.trail.steps c.in-Some.lit)) c.in-Some-false.field-0-test c.in-Some-false.ensures.truth in
    opposed (g.P.Port.state c.loop-lit.port) (g.P.Port.state c.next_unit.new.self) c.loop-lit.trail c.in-Some.lit c.loop-lit.invariant.stands c.in-Some.ensures.took
    c.loop-lit.invariant.trail (c.loop-lit.invariant.grown.level ∙ c.requires.level) here

pub assign-requires-clause-in_range : goal.assign-requires-clause-in_range
assign-requires-clause-in_range g c = took_on (g.P.Port.state c.loop-lit.port) (g.P.Port.state c.next_unit.new.self) c.loop-lit.trail c.in-Some.lit c.loop-lit.invariant.stands c.in-Some.ensures.took c.next_unit.ensures.port

pub loop-lit-preserved : goal.loop-lit-preserved
loop-lit-preserved g c =
    let s = g.P.Port.state c.loop-lit.port in
    let w = g.P.Port.state c.next_unit.new.self in
    record {
      saw = saw_more (g.P.Port.state c.args.port.now) s w c.in-Some.lit c.loop-lit.invariant.saw c.in-Some.ensures.took c.next_unit.ensures.log;
      caught_up = ap (λ (x : PortState). x.caught_up) c.in-Some.ensures.took.state ∙ c.loop-lit.invariant.caught_up;
      grown = subst (HasGrown c.args.trail.now) (sym c.assign.ensures.step) (grown_by c.args.trail.now c.loop-lit.trail c.in-Some.lit None c.loop-lit.invariant.grown);
      stands = subst (Stands w) (sym c.assign.ensures.step)
          (stands_taken s w c.loop-lit.trail c.in-Some.lit c.loop-lit.invariant.stands c.in-Some.ensures.took (c.loop-lit.invariant.grown.level ∙ c.requires.level));
      keeps = λ start n p. unit_taken s w c.in-Some.lit c.in-Some.ensures.took c.loop-lit.invariant.added c.next_unit.ensures.log c.next_unit.ensures.port start n (c.loop-lit.invariant.keeps start n p);
      added = still_added s w c.in-Some.lit c.in-Some.ensures.took c.loop-lit.invariant.added;
      reasons = λ cs r. subst (λ t. HasReasons cs w t.steps) (sym c.assign.ensures.step)
          (reasons_taken cs s w c.loop-lit.trail c.in-Some.lit c.in-Some.ensures.took (c.loop-lit.invariant.grown.level ∙ c.requires.level) (c.loop-lit.invariant.reasons cs r));
      bare = subst (λ t. (p : ℕ) → length c.args.trail.now.steps ≤ p → p < length t.steps → reason_at t.steps p ≡ None) (sym c.assign.ensures.step) (bare_more (length c.args.trail.now.steps) c.loop-lit.trail c.in-Some.lit c.loop-lit.invariant.bare);
      watched = λ x lits v. subst (Watched x lits) (sym c.assign.ensures.step) (Watched-assign x lits c.loop-lit.trail c.in-Some.lit None c.loop-lit.invariant.trail (c.loop-lit.invariant.watched x lits v));
      trail = c.assign.ensures.trail;
      port = c.next_unit.ensures.port;
    }

pub returns-in-Some-false-clause-saw : goal.returns-in-Some-false-clause-saw
returns-in-Some-false-clause-saw g c =
    saw_more (g.P.Port.state c.args.port.now) (g.P.Port.state c.loop-lit.port) (g.P.Port.state c.next_unit.new.self) c.in-Some.lit c.loop-lit.invariant.saw c.in-Some.ensures.took c.next_unit.ensures.log

pub returns-in-Some-false-clause-keeps : goal.returns-in-Some-false-clause-keeps
returns-in-Some-false-clause-keeps g c = λ start n p.
    unit_taken (g.P.Port.state c.loop-lit.port) (g.P.Port.state c.next_unit.new.self) c.in-Some.lit c.in-Some.ensures.took c.loop-lit.invariant.added c.next_unit.ensures.log c.next_unit.ensures.port start n
    (c.loop-lit.invariant.keeps start n p)

pub returns-in-Some-false-clause-reasons : goal.returns-in-Some-false-clause-reasons
returns-in-Some-false-clause-reasons g c = λ cs r.
    reasons_seen cs (g.P.Port.state c.loop-lit.port) (g.P.Port.state c.next_unit.new.self) c.loop-lit.trail.steps c.in-Some.lit c.in-Some.ensures.took (c.loop-lit.invariant.reasons cs r)

pub returns-clause-keeps : goal.returns-clause-keeps
returns-clause-keeps g c = λ start n p.
    (let s = g.P.Port.state c.loop-lit.port in
    counted_goes_on start s (g.P.Port.state c.next_unit.new.self) n s.looks (one_more s.caught_up) (c.loop-lit.invariant.keeps start n p) c.in_default.ensures.took.state c.next_unit.ensures.log c.next_unit.ensures.port)

pub returns-clause-saw : goal.returns-clause-saw
returns-clause-saw g c =
    saw_none (g.P.Port.state c.args.port.now) (g.P.Port.state c.loop-lit.port) (g.P.Port.state c.next_unit.new.self) c.loop-lit.invariant.saw c.in_default.ensures.took c.next_unit.ensures.log

pub returns-clause-taken : goal.returns-clause-taken
returns-clause-taken g c =
    let s = g.P.Port.state c.loop-lit.port in
    let w = g.P.Port.state c.next_unit.new.self in
    (stands_none s w c.loop-lit.trail c.loop-lit.invariant.stands c.in_default.ensures.took, opening_none s w c.in_default.ensures.took)

pub returns-clause-reasons : goal.returns-clause-reasons
returns-clause-reasons g c = λ cs r.
    reasons_none cs (g.P.Port.state c.loop-lit.port) (g.P.Port.state c.next_unit.new.self) c.loop-lit.trail.steps c.in_default.ensures.took (c.loop-lit.invariant.reasons cs r)
