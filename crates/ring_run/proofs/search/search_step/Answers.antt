use Rattle.std.proofs.Common.{◌∙◌, ◌<◌, ◌≤◌, ◌+◌, List, length, subst, sym, ap, refl, inl, arith, length-append, Contains}
use Rattle.sat_words.specs.declared.shared.Cref.{Cref}
use Rattle.ring_trail.specs.declared.step.TrailStep.{TrailStep}
use Rattle.ring_run.specs.Ended.{polls_of}
use Rattle.ring_run.specs.Course.{HasLemmas, IsOffering, IsPolling, imports_of}
use Rattle.ring_run.proofs.Polling.{polled_over}
use Rattle.ring_port.specs.PortState.{PortState, lits_at}
use Rattle.watch_prop.specs.Propagation.{IsPropagated}
use Rattle.ring_run.specs.Searching.{CanDraw, GoesOn}
use Rattle.ring_run.specs.declared.ring.Ring.{Ring}
use Rattle.ring_run.proofs.Turning.{grown_search, compose, further_grown}
use Rattle.ring_run.proofs.Listing.{listed_same}
use Rattle.ring_run.specs.Walked.{IsFound}
use Rattle.ring_run.proofs.search.search_step.Goals as goal
use Rattle.ring_run.proofs.Numbering.{kept_none}
use Rattle.ring_run.proofs.Rounds.{imports_over}
use Rattle.ring_run.specs.Ended.{HasImported, LookedAlong, rounds, import_slots}
use Rattle.ring_run.proofs.InTime.{sums_exact}
use Rattle.ring_run.specs.Ended.{IsInTime}
use Rattle.ring_run.specs.Course.{SumsUp}
use Rattle.ring_run.specs.Course.{LearnsFrom}
use Rattle.ring_run.specs.Turn.{ActedAtQuiet, EndsQuietly}
use Rattle.ring_run.proofs.Acting.{conflict_turn, quiet_turn}

pub learn_from-requires-clause-search : goal.learn_from-requires-clause-search
learn_from-requires-clause-search g c =
    grown_search (g.P.Port.state c.args.port.now) (g.P.Port.state c.propagate.new.port) c.args.ring.now.trail c.propagate.new.trail c.args.ring.now.watches c.propagate.new.self c.args.ring.now.written c.requires.search c.propagate.ensures.same
    c.decision_level-lawful.ensures.trail c.propagate.ensures.attached c.propagate.ensures.grown c.propagate.ensures.reasons c.propagate.ensures.watched

pub decide_next-requires-clause-search : goal.decide_next-requires-clause-search
decide_next-requires-clause-search g c =
    grown_search (g.P.Port.state c.args.port.now) (g.P.Port.state c.propagate.new.port) c.args.ring.now.trail c.propagate.new.trail c.args.ring.now.watches c.propagate.new.self c.args.ring.now.written c.requires.search c.propagate.ensures.same
    c.decision_level-lawful.ensures.trail c.propagate.ensures.attached c.propagate.ensures.grown c.propagate.ensures.reasons c.propagate.ensures.watched

pub returns-in-Conflict-clause-leads : goal.returns-in-Conflict-clause-leads
returns-in-Conflict-clause-leads g c =
    let between : Ring = record c.args.ring.now { trail = c.propagate.new.trail; watches = c.propagate.new.self } in
    compose c.learn_from.result (g.P.Port.state c.args.port.now) (g.P.Port.state c.propagate.new.port) (g.P.Port.state c.learn_from.new.port) c.args.ring.now between c.learn_from.new.ring
    (λ start p. subst (λ (x : PortState). GoesOn start x c.args.ring.now.learned) (sym c.propagate.ensures.same) p)
    c.learn_from.ensures.leads

pub returns-in-Quiet-clause-leads : goal.returns-in-Quiet-clause-leads
returns-in-Quiet-clause-leads g c =
    let between : Ring = record c.args.ring.now { trail = c.propagate.new.trail; watches = c.propagate.new.self } in
    compose c.decide_next.result (g.P.Port.state c.args.port.now) (g.P.Port.state c.propagate.new.port) (g.P.Port.state c.decide_next.new.port) c.args.ring.now between c.decide_next.new.ring
    (λ start p. subst (λ (x : PortState). GoesOn start x c.args.ring.now.learned) (sym c.propagate.ensures.same) p)
    c.decide_next.ensures.leads

pub learn_from-requires-clause-offering : goal.learn_from-requires-clause-offering
learn_from-requires-clause-offering g c =
    subst (λ (x : PortState). IsOffering x (record c.args.ring.now { trail = c.propagate.new.trail; watches = c.propagate.new.self })) (sym c.propagate.ensures.same)
    (record { counts = c.requires.offering.counts; few = c.requires.offering.few })

pub returns-in-Conflict-clause-polls : goal.returns-in-Conflict-clause-polls
returns-in-Conflict-clause-polls g c =
    let between : Ring = record c.args.ring.now { trail = c.propagate.new.trail; watches = c.propagate.new.self } in
    c.learn_from.ensures.polls (subst (λ (x : PortState). IsPolling x between) (sym c.propagate.ensures.same)
    (record { place = c.requires.polling.place; polled = c.requires.polling.polled; low = λ e. c.propagate.ensures.grown.level ∙ c.requires.polling.low e }))

pub decide_next-requires-clause-polling : goal.decide_next-requires-clause-polling
decide_next-requires-clause-polling g c =
    let between : Ring = record c.args.ring.now { trail = c.propagate.new.trail; watches = c.propagate.new.self } in
    subst (λ (x : PortState). IsPolling x between) (sym c.propagate.ensures.same)
    (record { place = c.requires.polling.place; polled = c.requires.polling.polled; low = λ e. c.propagate.ensures.grown.level ∙ c.requires.polling.low e })

pub returns-in-Quiet-clause-offering : goal.returns-in-Quiet-clause-offering
returns-in-Quiet-clause-offering g c =
    let between : Ring = record c.args.ring.now { trail = c.propagate.new.trail; watches = c.propagate.new.self } in
    c.decide_next.ensures.offering (subst (λ (x : PortState). IsOffering x between) (sym c.propagate.ensures.same) (record { counts = c.requires.offering.counts; few = c.requires.offering.few }))

pub returns-in-Quiet-clause-further : goal.returns-in-Quiet-clause-further
returns-in-Quiet-clause-further g c = λ on.
    (let between : Ring = record c.args.ring.now { trail = c.propagate.new.trail; watches = c.propagate.new.self } in
    let grown = c.propagate.ensures.grown in
    let long = ap (λ (ss : List TrailStep). length ss) grown.steps ∙ length-append c.args.ring.now.trail.steps grown.more in
    further_grown (g.P.Port.state c.args.port.now) (g.P.Port.state c.propagate.new.port) (g.P.Port.state c.decide_next.new.port) c.args.ring.now between c.decide_next.new.ring c.propagate.ensures.same refl (omega (arith, long)) (c.decide_next.ensures.further on))

pub returns-in_default-clause-polls : goal.returns-in_default-clause-polls
returns-in_default-clause-polls g c =
    subst (λ (x : PortState). x.polled ≤ polls_of x (1 + c.args.ring.now.restarts.made)) (sym c.propagate.ensures.same) (polled_over (g.P.Port.state c.args.port.now) c.args.ring.now c.requires.polling.polled)

pub learn_from-requires-clause-listed : goal.learn_from-requires-clause-listed
learn_from-requires-clause-listed g c =
    let s = g.P.Port.state c.args.port.now in
    let between : Ring = record c.args.ring.now { trail = c.propagate.new.trail; watches = c.propagate.new.self } in
    subst (λ (x : PortState). HasLemmas x between) (sym c.propagate.ensures.same)
    (listed_same s s c.args.ring.now between refl refl refl (λ d there. subst (λ (cs : List Cref). Contains cs d) (sym c.propagate.ensures.attached) there) refl refl refl (record { imports = refl; last_start = refl }) (kept_none s c.args.ring.now.lemmas.items) c.requires.listed)

pub decide_next-requires-clause-listed : goal.decide_next-requires-clause-listed
decide_next-requires-clause-listed g c =
    let s = g.P.Port.state c.args.port.now in
    let between : Ring = record c.args.ring.now { trail = c.propagate.new.trail; watches = c.propagate.new.self } in
    subst (λ (x : PortState). HasLemmas x between) (sym c.propagate.ensures.same)
    (listed_same s s c.args.ring.now between refl refl refl (λ d there. subst (λ (cs : List Cref). Contains cs d) (sym c.propagate.ensures.attached) there) refl refl refl (record { imports = refl; last_start = refl }) (kept_none s c.args.ring.now.lemmas.items) c.requires.listed)

pub returns-in_default-clause-imports : goal.returns-in_default-clause-imports
returns-in_default-clause-imports g c = λ start p h.
    subst (λ (x : PortState). LookedAlong start x (rounds (1 + c.args.ring.now.restarts.made) (import_slots x))) (sym c.propagate.ensures.same) (imports_over start (g.P.Port.state c.args.port.now) c.args.ring.now h)

pub returns-in-Conflict-clause-imports : goal.returns-in-Conflict-clause-imports
returns-in-Conflict-clause-imports g c = λ start p h.
    let between : Ring = record c.args.ring.now { trail = c.propagate.new.trail; watches = c.propagate.new.self } in
    c.learn_from.ensures.imports start
    (subst (λ (x : PortState). IsPolling x between) (sym c.propagate.ensures.same) (record { place = p.place; polled = p.polled; low = λ e. c.propagate.ensures.grown.level ∙ p.low e }))
    (subst (λ (x : PortState). HasImported start x (imports_of between)) (sym c.propagate.ensures.same) h)

pub returns-in-Quiet-clause-imports : goal.returns-in-Quiet-clause-imports
returns-in-Quiet-clause-imports g c = λ start p h.
    let between : Ring = record c.args.ring.now { trail = c.propagate.new.trail; watches = c.propagate.new.self } in
    c.decide_next.ensures.imports start
    (subst (λ (x : PortState). IsPolling x between) (sym c.propagate.ensures.same) (record { place = p.place; polled = p.polled; low = λ e. c.propagate.ensures.grown.level ∙ p.low e }))
    (subst (λ (x : PortState). HasImported start x (imports_of between)) (sym c.propagate.ensures.same) h)

pub returns-in_default-clause-sums : goal.returns-in_default-clause-sums
returns-in_default-clause-sums g c = sums_exact c.args.ring.now.restarts c.args.ring.now.learned c.requires.paced

pub returns-in-Quiet-clause-sums : goal.returns-in-Quiet-clause-sums
returns-in-Quiet-clause-sums g c = subst SumsUp (sym c.decide_next.ensures.restarts) (sums_exact c.args.ring.now.restarts c.args.ring.now.learned c.requires.paced)

pub returns-in-Conflict-clause-took : goal.returns-in-Conflict-clause-took
returns-in-Conflict-clause-took g c =
    let s = g.P.Port.state c.args.port.now in
    let old = c.args.ring.now in
    let between : Ring = record old { trail = c.propagate.new.trail; watches = c.propagate.new.self } in
    conflict_turn s (g.P.Port.state c.learn_from.new.port) old between c.learn_from.new.ring c.in-Conflict.conflict c.learn_from.new.analysis.lits c.learn_from.result
    (record { same = refl; grown = c.propagate.ensures.grown; shape = c.decision_level-lawful.ensures.trail; clauses = c.propagate.ensures.attached; reasons = c.propagate.ensures.reasons })
    (subst (IsPropagated c.propagate.new.self (lits_at s) c.propagate.new.trail) c.in-Conflict.is c.in-Ok.ensures.propagated)
    (subst (λ (x : PortState). LearnsFrom x (g.P.Port.state c.learn_from.new.port) between c.learn_from.new.ring c.in-Conflict.conflict c.learn_from.new.analysis.lits c.learn_from.result) c.propagate.ensures.same c.learn_from.ensures.learns)

pub returns-in-Quiet-clause-took : goal.returns-in-Quiet-clause-took
returns-in-Quiet-clause-took g c =
    let s = g.P.Port.state c.args.port.now in
    let old = c.args.ring.now in
    let between : Ring = record old { trail = c.propagate.new.trail; watches = c.propagate.new.self } in
    let u = g.P.Port.state c.decide_next.new.port in
    quiet_turn s u old between c.decide_next.new.ring c.decide_next.result
    (record { same = refl; grown = c.propagate.ensures.grown; shape = c.decision_level-lawful.ensures.trail; clauses = c.propagate.ensures.attached; reasons = c.propagate.ensures.reasons })
    (subst (IsPropagated c.propagate.new.self (lits_at s) c.propagate.new.trail) c.in-Quiet.is c.in-Ok.ensures.propagated)
    (λ on. subst (λ (x : PortState). ActedAtQuiet x u between c.decide_next.new.ring) c.propagate.ensures.same (c.decide_next.ensures.acted on))
    (subst (λ (x : PortState). EndsQuietly x u between c.decide_next.new.ring c.decide_next.result) c.propagate.ensures.same c.decide_next.ensures.ended)

pub returns-in-Conflict-clause-in_time : goal.returns-in-Conflict-clause-in_time
returns-in-Conflict-clause-in_time g c = λ p h.
    let between : Ring = record c.args.ring.now { trail = c.propagate.new.trail; watches = c.propagate.new.self } in
    c.learn_from.ensures.in_time
    (subst (λ (x : PortState). IsPolling x between) (sym c.propagate.ensures.same) (record { place = p.place; polled = p.polled; low = λ e. c.propagate.ensures.grown.level ∙ p.low e }))
    (λ settled. subst (λ (x : PortState). IsInTime x between.restarts.since) (sym c.propagate.ensures.same) (h settled))

pub returns-in-Quiet-clause-in_time : goal.returns-in-Quiet-clause-in_time
returns-in-Quiet-clause-in_time g c = λ p h.
    let between : Ring = record c.args.ring.now { trail = c.propagate.new.trail; watches = c.propagate.new.self } in
    c.decide_next.ensures.in_time
    (subst (λ (x : PortState). IsPolling x between) (sym c.propagate.ensures.same) (record { place = p.place; polled = p.polled; low = λ e. c.propagate.ensures.grown.level ∙ p.low e }))
    (λ settled. subst (λ (x : PortState). IsInTime x between.restarts.since) (sym c.propagate.ensures.same) (h settled))

pub returns-in_default-clause-took : goal.returns-in_default-clause-took
returns-in_default-clause-took g c = record {
  middle = record c.args.ring.now { trail = c.propagate.new.trail; watches = c.propagate.new.self };
  propagated = record { same = refl; grown = c.propagate.ensures.grown; shape = c.decision_level-level.ensures.trail; clauses = c.propagate.ensures.attached; reasons = c.propagate.ensures.reasons };
  halts = inl (c.propagate.ensures.same, refl, record { learned = refl; restarts = refl; exported = refl; offered = refl });
}

pub decide_next-requires-clause-found : goal.decide_next-requires-clause-found
decide_next-requires-clause-found g c = subst (λ (x : PortState). IsFound x c.args.model.now) (sym c.propagate.ensures.same) c.requires.found

pub learn_from-requires-clause-draws : goal.learn_from-requires-clause-draws
learn_from-requires-clause-draws g c = subst (λ (x : PortState). CanDraw x c.args.ring.now.learned) (sym c.propagate.ensures.same) c.requires.draws

pub decide_next-requires-clause-draws : goal.decide_next-requires-clause-draws
decide_next-requires-clause-draws g c = subst (λ (x : PortState). CanDraw x c.args.ring.now.learned) (sym c.propagate.ensures.same) c.requires.draws

pub returns-in-Conflict-clause-further : goal.returns-in-Conflict-clause-further
returns-in-Conflict-clause-further g c = λ on.
    inl (subst (λ (x : PortState). x.found < (g.P.Port.state c.learn_from.new.port).found) c.propagate.ensures.same (c.learn_from.ensures.drawn on))
