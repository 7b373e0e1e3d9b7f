use Rattle.std.proofs.Common.{◌≡◌, ◌+◌, ◌∙◌, [], ap, sym, subst, refl, inl, inr, arith}
use Rattle.ring_run.proofs.Acting.{came_further}
use Rattle.ring_run.proofs.WalkEnds.{model_by}
use Rattle.ring_port.specs.PortState.{PortState}
use Rattle.ring_decide.specs.DeciderData.{DeciderData}
use Rattle.ring_run.specs.Ended.{IsInTime, LookedAlong, rounds, import_slots}
use Rattle.ring_run.specs.Ending.{ComesTo}
use Rattle.ring_run.specs.Renewal.{TookImport}
use Rattle.ring_run.specs.declared.job.End.TheVariants.{Memory}
use Rattle.ring_run.proofs.Progress.{out_of_memory}
use Rattle.ring_run.proofs.Rounds.{imports_over}
use Rattle.ring_run.specs.Searching.{GoesOn}
use Rattle.ring_run.specs.Turn.{CameTo}
use Rattle.ring_run.specs.Walked.{IsFound}
use Rattle.ring_run.specs.declared.ring.Ring.{Ring}
use Rattle.restart_plan.specs.Plan.{Restarting}
use Rattle.ring_run.specs.Strategy.{IsPaced}
use Rattle.ring_run.proofs.Deciding.{decides_moved}
use Rattle.ring_run.proofs.Turning.{less_to_do}
use Rattle.ring_run.proofs.search.search.Goals as goal
use Rattle.ring_run.proofs.InTime.{sums_exact}
use Rattle.ring_run.specs.Course.{InSearch, IsLooking, IsOffering, IsPolling, IsImporting, HasLemmas, SumsUp}

pub returns-in-Finish-clause-ends : goal.returns-in-Finish-clause-ends
returns-in-Finish-clause-ends g c = c.in-Finish.ensures.leads (g.P.Port.state c.args.port.now) c.requires.goes

pub returns-in-Finish-clause-looks : goal.returns-in-Finish-clause-looks
returns-in-Finish-clause-looks g c = λ base before. c.in-Finish.ensures.looks base before

pub returns-in-Finish-clause-offering : goal.returns-in-Finish-clause-offering
returns-in-Finish-clause-offering g c = c.import.ensures.offering c.requires.offering

pub walk_first-requires-clause-held : goal.walk_first-requires-clause-held
walk_first-requires-clause-held g c =
    let found = c.in_default.ensures.leads in
    found.search.clauses.starts_held

pub walk_first-requires-clause-decides : goal.walk_first-requires-clause-decides
walk_first-requires-clause-decides g c =
    let s = g.P.Port.state c.args.port.now in
    let m = g.P.Port.state c.import.new.port in
    let found = c.in_default.ensures.leads in
    let goes = found.goes s c.requires.goes in
    decides_moved s s m c.args.ring.now.decider c.import.new.ring.decider c.requires.decides c.requires.goes.runs.stays goes.runs.stays (ap (λ (d : DeciderData). d.active) c.import.ensures.decider)

pub loop-end-init : goal.loop-end-init
loop-end-init g c =
    let s = g.P.Port.state c.args.port.now in
    let m = g.P.Port.state c.import.new.port in
    let u = g.P.Port.state c.walk_first.new.port in
    let imported = c.import.new.ring in
    let walked : Ring = record imported { decider = c.walk_first.new.decider } in
    let same : m ≡ u = sym c.walk_first.ensures.same in
    let found = c.in_default.ensures.leads in
    let goes = found.goes s c.requires.goes in
    let offering = c.import.ensures.offering c.requires.offering in
    let polling = c.in_default.ensures.polls in
    let lemmas = c.in_default.ensures.listed refl c.requires.listed in
    let search : InSearch u walked = subst (λ (x : PortState). InSearch x walked) same found.search in
    let goes_on = subst (λ (x : PortState). GoesOn s x imported.learned) same goes in
    record {
      search = search;
      goes = goes_on;
      looks = λ base before. subst (λ (x : PortState). IsLooking base x walked) same (c.in_default.ensures.looks base before);
      decides = decides_moved s s u c.args.ring.now.decider walked.decider c.requires.decides c.requires.goes.runs.stays goes_on.runs.stays (c.walk_first.ensures.active ∙ ap (λ (d : DeciderData). d.active) c.import.ensures.decider);
      offering = subst (λ (x : PortState). IsOffering x walked) same (record { counts = offering.counts; few = offering.few });
      polling = subst (λ (x : PortState). IsPolling x walked) same (record { place = polling.place; polled = polling.polled; low = polling.low });
      imports = λ start h. subst (λ (x : PortState). IsImporting start x walked) same (c.in_default.ensures.imports start c.requires.polling h);
      tidied = λ none. subst (λ (x : PortState). x.waiting ≡ []) same (c.in_default.ensures.tidied none);
      in_time = λ h settled. subst (λ (x : PortState). IsInTime x walked.restarts.since) same (c.in_default.ensures.in_time h settled);
      listed = subst (λ (x : PortState). HasLemmas x walked) same
          (record { ordered = lemmas.ordered; glued = lemmas.glued; noted = lemmas.noted; distinct = lemmas.distinct; member = lemmas.member; apart = lemmas.apart; count = lemmas.count; few = lemmas.few; imported = lemmas.imported; last = lemmas.last });
      came = subst (λ (x : PortState). CameTo c.args.job.now s x c.args.ring.now walked) same
          (record { imported_port = m; imported = imported; first = c.in_default.ensures.took refl; walked = walked.decider; model = c.in-Ok.model; walk = c.in-Ok.ensures.walks; states = []; turns = (refl, refl) });
      paced = subst (λ (r : Restarting). IsPaced r imported.learned) (sym c.import.ensures.restarts)
          (subst (λ n. IsPaced c.args.ring.now.restarts n) (sym c.import.ensures.learned) c.requires.paced);
      odd = ap (λ (r : Restarting). r.odd) c.import.ensures.restarts;
      vars = c.import.ensures.analysis ∙ c.requires.vars ∙ c.requires.import.stands.vars ∙ sym goes_on.runs.stays.vars ∙ sym search.stands.vars;
      found = subst (λ (x : PortState). IsFound x c.in-Ok.model) same c.in-Ok.ensures.model;
    }

pub returns-in-Finish-search_step-clause-ends : goal.returns-in-Finish-search_step-clause-ends
returns-in-Finish-search_step-clause-ends g c = c.in-Finish-search_step.ensures.leads (g.P.Port.state c.args.port.now) c.loop-end.invariant.goes

pub returns-in-Finish-search_step-clause-looks : goal.returns-in-Finish-search_step-clause-looks
returns-in-Finish-search_step-clause-looks g c = λ base before. c.in-Finish-search_step.ensures.looks base (c.loop-end.invariant.looks base before)

pub loop-end-smaller : goal.loop-end-smaller
loop-end-smaller g c =
    let found = c.in_default-search_step.ensures.leads in
    let goes = found.goes (g.P.Port.state c.args.port.now) c.loop-end.invariant.goes in
    less_to_do (g.P.Port.state c.loop-end.port) (g.P.Port.state c.search_step.new.port) c.loop-end.ring c.search_step.new.ring (g.P.Port.state c.args.port.now).limit c.loop-end.invariant.search found.search
    (goes.runs.stays.vars ∙ sym c.loop-end.invariant.goes.runs.stays.vars) (omega (arith, goes.draws.left, goes.runs.stays.limit)) (c.in_default-search_step.ensures.further refl)

pub loop-end-preserved : goal.loop-end-preserved
loop-end-preserved g c =
    let found = c.in_default-search_step.ensures.leads in
    let goes = found.goes (g.P.Port.state c.args.port.now) c.loop-end.invariant.goes in
    record {
      search = found.search;
      goes = goes;
      looks = λ base before. c.in_default-search_step.ensures.looks base (c.loop-end.invariant.looks base before);
      decides = decides_moved (g.P.Port.state c.args.port.now) (g.P.Port.state c.loop-end.port) (g.P.Port.state c.search_step.new.port) c.loop-end.ring.decider c.search_step.new.ring.decider c.loop-end.invariant.decides
          c.loop-end.invariant.goes.runs.stays goes.runs.stays c.search_step.ensures.active;
      paced = c.search_step.ensures.paced;
      offering = c.search_step.ensures.offering;
      polling = c.in_default-search_step.ensures.polls;
      imports = λ start h. c.in_default-search_step.ensures.imports start c.loop-end.invariant.polling (c.loop-end.invariant.imports start h);
      tidied = λ none. c.in_default-search_step.ensures.tidied (c.loop-end.invariant.tidied none);
      in_time = λ h settled. c.in_default-search_step.ensures.in_time c.loop-end.invariant.polling (c.loop-end.invariant.in_time h) settled;
      listed = c.in_default-search_step.ensures.listed refl;
      came = came_further c.args.job.now (g.P.Port.state c.args.port.now) (g.P.Port.state c.loop-end.port) (g.P.Port.state c.search_step.new.port) c.args.ring.now c.loop-end.ring c.search_step.new.ring c.loop-end.invariant.came c.in_default-search_step.ensures.took;
      odd = c.search_step.ensures.odd ∙ c.loop-end.invariant.odd;
      found = λ a is.
          model_by (g.P.Port.state c.loop-end.port) (g.P.Port.state c.search_step.new.port) a (goes.runs.stays.start ∙ sym c.loop-end.invariant.goes.runs.stays.start) (goes.runs.stays.vars ∙ sym c.loop-end.invariant.goes.runs.stays.vars)
          (c.loop-end.invariant.found a is);
      vars = c.search_step.ensures.vars ∙ c.loop-end.invariant.vars ∙ c.loop-end.invariant.search.stands.vars ∙ c.loop-end.invariant.goes.runs.stays.vars ∙ sym goes.runs.stays.vars ∙ sym found.search.stands.vars;
    }

pub returns-in-Finish-clause-imported : goal.returns-in-Finish-clause-imported
returns-in-Finish-clause-imported g c = λ start h. c.in-Finish.ensures.imports start c.requires.polling h

pub returns-in-Finish-search_step-clause-imported : goal.returns-in-Finish-search_step-clause-imported
returns-in-Finish-search_step-clause-imported g c = λ start h. c.in-Finish-search_step.ensures.imports start c.loop-end.invariant.polling (c.loop-end.invariant.imports start h)

pub returns-in-Finish-search_step-clause-tidied : goal.returns-in-Finish-search_step-clause-tidied
returns-in-Finish-search_step-clause-tidied g c = λ none. c.in-Finish-search_step.ensures.tidied (c.loop-end.invariant.tidied none)

pub returns-in-Finish-clause-in_time : goal.returns-in-Finish-clause-in_time
returns-in-Finish-clause-in_time g c = λ h. c.in-Finish.ensures.in_time h

pub returns-in-Finish-clause-sums : goal.returns-in-Finish-clause-sums
returns-in-Finish-clause-sums g c = subst SumsUp (sym c.import.ensures.restarts) (sums_exact c.args.ring.now.restarts c.args.ring.now.learned c.requires.paced)

pub returns-in-Finish-search_step-clause-in_time : goal.returns-in-Finish-search_step-clause-in_time
returns-in-Finish-search_step-clause-in_time g c = λ h. c.in-Finish-search_step.ensures.in_time c.loop-end.invariant.polling (c.loop-end.invariant.in_time h)

pub returns-in-Finish-clause-searched : goal.returns-in-Finish-clause-searched
returns-in-Finish-clause-searched g c = inl (c.in-Finish.ensures.halts, record { learned = c.import.ensures.learned; restarts = c.import.ensures.restarts; exported = c.import.ensures.offers.exported; offered = c.import.ensures.offers.offered })

pub returns-in-Finish-search_step-clause-searched : goal.returns-in-Finish-search_step-clause-searched
returns-in-Finish-search_step-clause-searched g c = inr (inr (g.P.Port.state c.loop-end.port, c.loop-end.ring, c.loop-end.invariant.came, c.in-Finish-search_step.ensures.took))

-- there was no memory for the walk

pub returns-in_default-walk_first-clause-ends : goal.returns-in_default-walk_first-clause-ends
returns-in_default-walk_first-clause-ends g c =
    let s = g.P.Port.state c.args.port.now in
    let m = g.P.Port.state c.import.new.port in
    let n = c.import.new.ring.learned in
    let found = c.in_default.ensures.leads in
    subst (λ (x : PortState). ComesTo s x n Memory) (sym c.walk_first.ensures.same) (out_of_memory s m n (found.goes s c.requires.goes))

pub returns-in_default-walk_first-clause-imported : goal.returns-in_default-walk_first-clause-imported
returns-in_default-walk_first-clause-imported g c = λ start h.
    let imported = c.import.new.ring in
    subst (λ (x : PortState). LookedAlong start x (rounds (1 + imported.restarts.made) (import_slots x))) (sym c.walk_first.ensures.same)
    (imports_over start (g.P.Port.state c.import.new.port) imported (c.in_default.ensures.imports start c.requires.polling h))

pub returns-in_default-walk_first-clause-searched : goal.returns-in_default-walk_first-clause-searched
returns-in_default-walk_first-clause-searched g c = inr (inl (record {
  imported = c.import.new.ring;
  first = subst (λ (x : PortState). TookImport (g.P.Port.state c.args.port.now) x c.args.ring.now c.import.new.ring) (sym c.walk_first.ensures.same) (c.in_default.ensures.took refl);
  some = c.in_default-walk_first.ensures.some;
  counts = record { learned = c.import.ensures.learned; restarts = c.import.ensures.restarts; exported = c.import.ensures.offers.exported; offered = c.import.ensures.offers.offered };
  is = refl;
}))

pub search_step-requires-clause-draws : goal.search_step-requires-clause-draws
search_step-requires-clause-draws g c = c.loop-end.invariant.goes.draws
