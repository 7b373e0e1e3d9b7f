use Rattle.ring_decide.specs.DeciderData.{DeciderData}
use Rattle.ring_run.specs.declared.ring.Ring.{Ring}
use Rattle.ring_run.proofs.Deciding.{decided_search, model_found}
use Rattle.ring_run.proofs.Progress.{out_of_memory}
use Rattle.ring_run.proofs.Learning.{goes_on_by}
use Rattle.ring_run.proofs.decision.decide.Goals as goal
use Rattle.std.proofs.Common.{◌≤◌, ◌∙◌, ap, arith, inl, length, List, Bool, subst, sym}
use Rattle.std.specs.Prelude.{◌^◌}
use Rattle.ring_run.proofs.WalkEnds.{found_leads, if_some}
use Rattle.std.proofs.lemmas.Bool.{false≢true}
use Rattle.ring_run.proofs.Polling.{polled_whole, polled_over}
use Rattle.ring_trail.specs.TrailData.{TrailData, IsTrail}
use Rattle.ring_run.specs.Course.{Searches}

pub returns-in-Some-clause-leads : goal.returns-in-Some-clause-leads
returns-in-Some-clause-leads g c =
    let s = g.P.Port.state c.args.port.now in
    let after : Ring = record c.args.ring.now { trail = c.decide.new.self; decider = c.next.new.self } in
    goes_on_by s s c.args.ring.now after
    (subst (λ (t : TrailData). Searches s t c.args.ring.now.watches c.args.ring.now.written) (sym c.decide.ensures.step)
    (decided_search s c.args.ring.now.trail c.args.ring.now.watches c.args.ring.now.written _ c.requires.search c.requires.quiet c.requires.first (subst IsTrail c.decide.ensures.step c.decide.ensures.trail)))
    (λ start p. p)

pub returns-in-Ok-clause-leads : goal.returns-in-Ok-clause-leads
returns-in-Ok-clause-leads g c =
    model_found (g.P.Port.state c.args.port.now) c.args.ring.now c.in-Ok.model c.requires.search c.requires.quiet c.requires.first c.requires.decides (c.next.ensures.none c.in_default.is) c.in-Ok.ensures.long c.in-Ok.ensures.all

pub returns-in-Err-clause-leads : goal.returns-in-Err-clause-leads
returns-in-Err-clause-leads g c = λ start p. out_of_memory start (g.P.Port.state c.args.port.now) c.args.ring.now.learned p

pub returns-in-Some-clause-polls : goal.returns-in-Some-clause-polls
returns-in-Some-clause-polls g c = λ p. record { place = p.place; polled = p.polled; low = λ e. absurd (false≢true (sym c.requires.settled ∙ e)) }

pub returns-in-Ok-clause-polls : goal.returns-in-Ok-clause-polls
returns-in-Ok-clause-polls g c = λ p. polled_whole (g.P.Port.state c.args.port.now) c.args.ring.now c.requires.settled p.polled

pub returns-in-Err-clause-polls : goal.returns-in-Err-clause-polls
returns-in-Err-clause-polls g c = λ p. polled_over (g.P.Port.state c.args.port.now) c.args.ring.now p.polled

pub returns-in-Some-clause-decided : goal.returns-in-Some-clause-decided
returns-in-Some-clause-decided g c = λ on. record { lit = c.in-Some.lit; chosen = c.in-Some.ensures.some; trail = c.decide.ensures.step; same = ap (λ (d : DeciderData). record c.args.ring.now { trail = c.decide.new.self; decider = d }) c.next.ensures.same }

pub returns-in-Ok-clause-ended : goal.returns-in-Ok-clause-ended
returns-in-Ok-clause-ended g c = (
  inl (record { valued = c.next.ensures.none c.in_default.is; long = c.in-Ok.ensures.long; true_there = c.in-Ok.ensures.all; rest = c.in-Ok.ensures.rest }),
  ap (λ (d : DeciderData). record c.args.ring.now { decider = d }) c.next.ensures.same,
)

-- the walk found a model

pub end_found-requires : goal.end_found-requires
end_found-requires g c = if_some c.args.model.now (λ (a : List Bool). length a ≤ 2 ^ 30) (λ a is.
    let long = (c.requires.found a is).long in
    let vars = c.requires.search.stands.vars in
    let small = c.requires.search.trail.small in
    omega arith)

pub returns-then-agrees-clause-leads : goal.returns-then-agrees-clause-leads
returns-then-agrees-clause-leads g c =
    let found = c.agrees.ensures.0 c.if-agrees.true in
    found_leads (g.P.Port.state c.args.port.now) c.args.ring.now c.args.model.now c.end_found.result c.requires.search c.requires.quiet c.requires.first c.requires.found found.0 found.1 found.2 c.end_found.ensures
