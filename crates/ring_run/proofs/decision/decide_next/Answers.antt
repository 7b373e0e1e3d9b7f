use Rattle.std.proofs.Common.{◌≡◌, false, ◌∙◌, ap, subst, sym, arith, inl, inr, refl, length}
use Rattle.ring_port.specs.PortState.{PortState, one_more}
use Rattle.ring_trail.specs.TrailData.{TrailData, decided}
use Rattle.ring_decide.specs.DeciderData.{DeciderData, IsDecided}
use Rattle.ring_run.specs.Ended.{HasPolled}
use Rattle.ring_run.specs.Searching.{GoesOn, OffersNothing}
use Rattle.ring_run.specs.Ending.{ComesTo}
use Rattle.ring_run.specs.Course.{imports_of, IsOffering}
use Rattle.ring_run.specs.declared.ring.Ring.{Ring}
use Rattle.ring_run.proofs.Deciding.{decides_by}
use Rattle.ring_run.proofs.WalkEnds.{found_by}
use Rattle.ring_run.proofs.Lending.{offering_stays}
use Rattle.ring_run.proofs.Listing.{listed_same}
use Rattle.ring_run.proofs.Offering.{nothing_looked, nothing_then}
use Rattle.ring_run.proofs.Polling.{polls_same, polled_over, polled_halted, polling_same}
use Rattle.ring_run.proofs.Progress.{stop_seen, looked_goes_on, recent_still}
use Rattle.ring_run.proofs.Tidying.{refused_halted}
use Rattle.ring_run.proofs.Turning.{quiet_same, looked_search, compose}
use Rattle.ring_run.specs.Turn.{ActedAtQuiet, EndsQuietly}
use Rattle.ring_run.specs.declared.job.End.{End}
use Rattle.ring_run.specs.declared.course.Next.TheVariants.{Finish}
use Rattle.ring_run.specs.Ending.{end_refused}
use Rattle.ring_run.specs.Searching.{SeesFixed, ToldUnits}
use Rattle.ring_run.proofs.Acting.{quietly_halted, quietly_renewing, quietly_decided}
use Rattle.ring_run.proofs.Telling.{sees_fixed}
use Rattle.ring_run.proofs.Tidying.{refused_refusal}
use Rattle.ring_run.proofs.decision.decide_next.Goals as goal
use Rattle.ring_run.proofs.Numbering.{kept_looked}
use Rattle.ring_run.proofs.Rounds.{imports_halted, imports_over, imports_same, importing_same, imported_settled}
use Rattle.ring_run.specs.Ended.{ImportsBy}
use Rattle.ring_run.specs.Course.{HasImportedBy}
use Rattle.ring_run.proofs.InTime.{in_time_halted, in_time_any, in_time_more, in_time_wrote}
use Rattle.ring_run.specs.Course.{IsInTimeAt, IsInTimeBy}
use Rattle.ring_run.specs.Searching.{OnlyWrote}
use Rattle.ring_run.proofs.Progress.{wrote_by, looked_wrote}
use Rattle.restart_plan.specs.Plan.{Restarting}

pub write_pending-requires-clause-search : goal.write_pending-requires-clause-search
write_pending-requires-clause-search g c =
    looked_search (g.P.Port.state c.args.port.now) (g.P.Port.state c.stopped.new.self) c.args.ring.now.trail c.args.ring.now.watches c.args.ring.now.written (one_more (g.P.Port.state c.args.port.now).looks) c.requires.search
    c.in_default.ensures.looked.1 c.stopped.ensures.log c.stopped.ensures.port

pub returns-in-Some-clause-leads : goal.returns-in-Some-clause-leads
returns-in-Some-clause-leads g c = λ start p.
    stop_seen start (g.P.Port.state c.args.port.now) (g.P.Port.state c.stopped.new.self) c.args.ring.now.learned c.in-Some.stop p c.in-Some.ensures.looked c.stopped.ensures.log c.stopped.ensures.port

pub returns-in-Some-clause-offering : goal.returns-in-Some-clause-offering
returns-in-Some-clause-offering g c = λ p.
    let s = g.P.Port.state c.args.port.now in
    let m = g.P.Port.state c.stopped.new.self in
    offering_stays s m c.args.ring.now c.args.ring.now (nothing_looked s m c.stopped.result c.stopped.ensures.looked) (record { exported = refl; offered = refl; place = refl }) refl p

pub returns-in-Some-clause-polls : goal.returns-in-Some-clause-polls
returns-in-Some-clause-polls g c =
    let s = g.P.Port.state c.args.port.now in
    let m = g.P.Port.state c.stopped.new.self in
    polled_over m c.args.ring.now (polls_same s m (imports_of c.args.ring.now) (nothing_looked s m c.stopped.result c.stopped.ensures.looked) c.requires.polling.polled)

pub returns-in-Err-clause-leads : goal.returns-in-Err-clause-leads
returns-in-Err-clause-leads g c = λ start p.
    subst (λ n. ComesTo start (g.P.Port.state c.write_pending.new.port) n c.end_refused.result) (sym c.write_pending.ensures.learned)
    (subst (λ end. ComesTo start (g.P.Port.state c.write_pending.new.port) c.args.ring.now.learned end) (sym c.end_refused.ensures)
    (c.in-Err.ensures.over c.args.ring.now.learned start (looked_goes_on start (g.P.Port.state c.args.port.now) (g.P.Port.state c.stopped.new.self) c.args.ring.now.learned (one_more (g.P.Port.state c.args.port.now).looks) p c.in_default.ensures.looked.1 c.stopped.ensures.log c.stopped.ensures.port)))

pub returns-in-Err-clause-offering : goal.returns-in-Err-clause-offering
returns-in-Err-clause-offering g c = λ p.
    let s = g.P.Port.state c.args.port.now in
    let m = g.P.Port.state c.stopped.new.self in
    let w = g.P.Port.state c.write_pending.new.port in
    let old = c.args.ring.now in
    let ring = c.write_pending.new.ring in
    let nothing : OffersNothing s w = nothing_then s m w (nothing_looked s m c.stopped.result c.stopped.ensures.looked) c.write_pending.ensures.nothing in
    offering_stays s w old ring nothing c.write_pending.ensures.offers c.write_pending.ensures.learned p

pub returns-in-Err-clause-polls : goal.returns-in-Err-clause-polls
returns-in-Err-clause-polls g c =
    let s = g.P.Port.state c.args.port.now in
    let m = g.P.Port.state c.stopped.new.self in
    let w = g.P.Port.state c.write_pending.new.port in
    let old = c.args.ring.now in
    let ring = c.write_pending.new.ring in
    let nothing : OffersNothing s w = nothing_then s m w (nothing_looked s m c.stopped.result c.stopped.ensures.looked) c.write_pending.ensures.nothing in
    subst (HasPolled w ring.restarts.made) (sym c.end_refused.ensures)
    (polled_halted w ring.restarts.made _ (refused_halted c.in-Err.stop) (polled_over w ring (polling_same s w old ring nothing c.write_pending.ensures.offers.place c.write_pending.ensures.restarts c.write_pending.ensures.import_due (ap (λ (t : TrailData). t.level) c.write_pending.ensures.trail) c.requires.polling).polled))

pub reduce_vivify_import-requires-clause-analysis : goal.reduce_vivify_import-requires-clause-analysis
reduce_vivify_import-requires-clause-analysis g c = c.write_pending.ensures.analysis ∙ c.requires.analysis ∙ sym (ap (λ (t : TrailData). t.vars) c.write_pending.ensures.trail)

pub reduce_vivify_import-requires-clause-import : goal.reduce_vivify_import-requires-clause-import
reduce_vivify_import-requires-clause-import g c =
    let s = g.P.Port.state c.args.port.now in
    let m = g.P.Port.state c.stopped.new.self in
    let w = g.P.Port.state c.write_pending.new.port in
    let old = c.args.ring.now in
    let ring = c.write_pending.new.ring in
    let found = c.in-Ok.ensures.search in
    let level : old.trail.level ≡ 0 = c.requires.polling.low (sym c.write_pending.ensures.import_due ∙ c.if-ring.true) in
    record {
      clauses = found.clauses;
      stands = found.stands;
      trail = found.trail;
      level = ap (λ (t : TrailData). t.level) c.write_pending.ensures.trail ∙ level;
      watched = found.watched;
      reasons = found.reasons;
      told = found.told;
      whole = c.in-Ok.ensures.whole level;
    }

pub reduce_vivify_import-requires-clause-polling : goal.reduce_vivify_import-requires-clause-polling
reduce_vivify_import-requires-clause-polling g c =
    let s = g.P.Port.state c.args.port.now in
    let m = g.P.Port.state c.stopped.new.self in
    let w = g.P.Port.state c.write_pending.new.port in
    let old = c.args.ring.now in
    let ring = c.write_pending.new.ring in
    let nothing : OffersNothing s w = nothing_then s m w (nothing_looked s m c.stopped.result c.stopped.ensures.looked) c.write_pending.ensures.nothing in
    polling_same s w old ring nothing c.write_pending.ensures.offers.place c.write_pending.ensures.restarts c.write_pending.ensures.import_due (ap (λ (t : TrailData). t.level) c.write_pending.ensures.trail) c.requires.polling

pub returns-then-ring-clause-leads : goal.returns-then-ring-clause-leads
returns-then-ring-clause-leads g c =
    let s = g.P.Port.state c.args.port.now in
    let m = g.P.Port.state c.stopped.new.self in
    let w = g.P.Port.state c.write_pending.new.port in
    let old = c.args.ring.now in
    let ring = c.write_pending.new.ring in
    compose c.reduce_vivify_import.result s w (g.P.Port.state c.reduce_vivify_import.new.port) old ring c.reduce_vivify_import.new.ring
    (λ start p. subst (GoesOn start w) (sym c.write_pending.ensures.learned) (c.in-Ok.ensures.ok start old.learned (looked_goes_on start s m old.learned (one_more s.looks) p c.in_default.ensures.looked.1 c.stopped.ensures.log c.stopped.ensures.port)))
    c.reduce_vivify_import.ensures.leads

pub returns-then-ring-clause-offering : goal.returns-then-ring-clause-offering
returns-then-ring-clause-offering g c = λ p.
    let s = g.P.Port.state c.args.port.now in
    let m = g.P.Port.state c.stopped.new.self in
    let w = g.P.Port.state c.write_pending.new.port in
    let old = c.args.ring.now in
    let ring = c.write_pending.new.ring in
    let nothing : OffersNothing s w = nothing_then s m w (nothing_looked s m c.stopped.result c.stopped.ensures.looked) c.write_pending.ensures.nothing in
    c.reduce_vivify_import.ensures.offering (offering_stays s w old ring nothing c.write_pending.ensures.offers c.write_pending.ensures.learned p)

pub returns-then-ring-clause-further : goal.returns-then-ring-clause-further
returns-then-ring-clause-further g c = λ on.
    (let trail = ap (λ (t : TrailData). length t.steps) c.write_pending.ensures.trail in
    inr (
      record { found = c.reduce_vivify_import.ensures.undrawn on ∙ c.write_pending.ensures.nothing.found ∙ ap (λ (x : PortState). x.found) c.in_default.ensures.looked.1; steps = omega (arith, c.reduce_vivify_import.ensures.steps on, trail) },
      inr (sym c.write_pending.ensures.import_due ∙ c.if-ring.true, c.reduce_vivify_import.ensures.settled on),
    ))

pub decide-requires-clause-quiet : goal.decide-requires-clause-quiet
decide-requires-clause-quiet g c =
    quiet_same (g.P.Port.state c.args.port.now) (g.P.Port.state c.write_pending.new.port) c.args.ring.now.trail c.write_pending.new.ring.trail c.args.ring.now.watches c.write_pending.new.ring.watches
    (c.write_pending.ensures.held ∙ ap (λ (x : PortState). x.held) c.in_default.ensures.looked.1) c.write_pending.ensures.trail c.write_pending.ensures.watches c.requires.quiet

pub decide-requires-clause-decides : goal.decide-requires-clause-decides
decide-requires-clause-decides g c =
    let s = g.P.Port.state c.args.port.now in
    let m = g.P.Port.state c.stopped.new.self in
    let u = g.P.Port.state c.write_pending.new.port in
    let stays = c.in-Ok.ensures.stays in
    decides_by s u c.args.ring.now.decider c.write_pending.new.ring.decider c.requires.decides (stays.start ∙ ap (λ (x : PortState). x.start) c.in_default.ensures.looked.1) (stays.vars ∙ ap (λ (x : PortState). x.vars) c.in_default.ensures.looked.1)
    (ap (λ (d : DeciderData). d.active) c.write_pending.ensures.decider)

pub returns-clause-leads : goal.returns-clause-leads
returns-clause-leads g c =
    let s = g.P.Port.state c.args.port.now in
    let m = g.P.Port.state c.stopped.new.self in
    let w = g.P.Port.state c.write_pending.new.port in
    let old = c.args.ring.now in
    let ring = c.write_pending.new.ring in
    compose c.decide.result s w (g.P.Port.state c.decide.new.port) old ring c.decide.new.ring
    (λ start p. subst (GoesOn start w) (sym c.write_pending.ensures.learned) (c.in-Ok.ensures.ok start old.learned (looked_goes_on start s m old.learned (one_more s.looks) p c.in_default.ensures.looked.1 c.stopped.ensures.log c.stopped.ensures.port)))
    c.decide.ensures.leads

pub returns-clause-polls : goal.returns-clause-polls
returns-clause-polls g c =
    let s = g.P.Port.state c.args.port.now in
    let m = g.P.Port.state c.stopped.new.self in
    let w = g.P.Port.state c.write_pending.new.port in
    let old = c.args.ring.now in
    let ring = c.write_pending.new.ring in
    let nothing : OffersNothing s w = nothing_then s m w (nothing_looked s m c.stopped.result c.stopped.ensures.looked) c.write_pending.ensures.nothing in
    c.decide.ensures.polls (polling_same s w old ring nothing c.write_pending.ensures.offers.place c.write_pending.ensures.restarts c.write_pending.ensures.import_due (ap (λ (t : TrailData). t.level) c.write_pending.ensures.trail) c.requires.polling)

pub returns-clause-offering : goal.returns-clause-offering
returns-clause-offering g c = λ p.
    let s = g.P.Port.state c.args.port.now in
    let m = g.P.Port.state c.stopped.new.self in
    let w = g.P.Port.state c.write_pending.new.port in
    let old = c.args.ring.now in
    let ring = c.write_pending.new.ring in
    let nothing : OffersNothing s w = nothing_then s m w (nothing_looked s m c.stopped.result c.stopped.ensures.looked) c.write_pending.ensures.nothing in
    subst (λ (x : PortState). IsOffering x c.decide.new.ring) (sym c.decide.ensures.same)
    (offering_stays s w old c.decide.new.ring nothing (record { exported = c.decide.ensures.offers.exported ∙ c.write_pending.ensures.offers.exported; offered = c.decide.ensures.offers.offered ∙ c.write_pending.ensures.offers.offered; place = c.decide.ensures.offers.place ∙ c.write_pending.ensures.offers.place })
    (c.decide.ensures.learned ∙ c.write_pending.ensures.learned) p)

pub returns-clause-further : goal.returns-clause-further
returns-clause-further g c = λ on.
    (let trail = ap (λ (t : TrailData). length t.steps) c.write_pending.ensures.trail in
    inr (
      record { found = ap (λ (x : PortState). x.found) c.decide.ensures.same ∙ c.write_pending.ensures.nothing.found ∙ ap (λ (x : PortState). x.found) c.in_default.ensures.looked.1; steps = omega (arith, c.decide.ensures.longer on, trail) },
      inl (c.decide.ensures.import_due ∙ c.write_pending.ensures.import_due, omega (arith, c.decide.ensures.longer on, trail)),
    ))

pub reduce_vivify_import-requires-clause-listed : goal.reduce_vivify_import-requires-clause-listed
reduce_vivify_import-requires-clause-listed g c =
    let s = g.P.Port.state c.args.port.now in
    let m = g.P.Port.state c.stopped.new.self in
    let is = c.in_default.ensures.looked.1 in
    c.in-Ok.ensures.listed (listed_same s m c.args.ring.now c.args.ring.now (ap (λ (x : PortState). x.start) is) (recent_still s m (ap (λ (x : PortState). x.ring) is) (ap (λ (x : PortState). x.mine) is)) refl (λ d there. there) refl refl refl (record { imports = refl; last_start = refl }) (kept_looked s m c.args.ring.now.lemmas.items _ is) c.requires.listed)

pub returns-clause-listed : goal.returns-clause-listed
returns-clause-listed g c = λ on.
    (let s = g.P.Port.state c.args.port.now in
    let m = g.P.Port.state c.stopped.new.self in
    let is = c.in_default.ensures.looked.1 in
    c.decide.ensures.listed
    (c.in-Ok.ensures.listed (listed_same s m c.args.ring.now c.args.ring.now (ap (λ (x : PortState). x.start) is) (recent_still s m (ap (λ (x : PortState). x.ring) is) (ap (λ (x : PortState). x.mine) is)) refl (λ d there. there) refl refl refl (record { imports = refl; last_start = refl }) (kept_looked s m c.args.ring.now.lemmas.items _ is) c.requires.listed)))

pub reduce_vivify_import-requires-clause-few : goal.reduce_vivify_import-requires-clause-few
reduce_vivify_import-requires-clause-few g c =
    let p = reduce_vivify_import-requires-clause-listed g c in
    let draws = c.requires.draws in
    omega (arith, p.count, p.few, draws.within, draws.left, c.requires.search.clauses.port.few, c.write_pending.ensures.learned)

pub reduce_vivify_import-requires-clause-quiet : goal.reduce_vivify_import-requires-clause-quiet
reduce_vivify_import-requires-clause-quiet g c =
    quiet_same (g.P.Port.state c.args.port.now) (g.P.Port.state c.write_pending.new.port) c.args.ring.now.trail c.write_pending.new.ring.trail c.args.ring.now.watches c.write_pending.new.ring.watches
    (c.write_pending.ensures.held ∙ ap (λ (x : PortState). x.held) c.in_default.ensures.looked.1) c.write_pending.ensures.trail c.write_pending.ensures.watches c.requires.quiet

pub returns-in-Some-clause-imports : goal.returns-in-Some-clause-imports
returns-in-Some-clause-imports g c = λ start p h.
    let s = g.P.Port.state c.args.port.now in
    let m = g.P.Port.state c.stopped.new.self in
    imports_over start m c.args.ring.now (imports_same start s m (imports_of c.args.ring.now) (nothing_looked s m c.stopped.result c.stopped.ensures.looked) h)

pub returns-in-Err-clause-imports : goal.returns-in-Err-clause-imports
returns-in-Err-clause-imports g c = λ start p h.
    let s = g.P.Port.state c.args.port.now in
    let m = g.P.Port.state c.stopped.new.self in
    let w = g.P.Port.state c.write_pending.new.port in
    let old = c.args.ring.now in
    let ring = c.write_pending.new.ring in
    let nothing : OffersNothing s w = nothing_then s m w (nothing_looked s m c.stopped.result c.stopped.ensures.looked) c.write_pending.ensures.nothing in
    subst (ImportsBy start w ring.restarts.made) (sym c.end_refused.ensures)
    (imports_halted start w ring.restarts.made _ (refused_halted c.in-Err.stop) (imports_over start w ring (importing_same start s w old ring nothing c.write_pending.ensures.restarts c.write_pending.ensures.import_due h)))

pub returns-then-ring-clause-imports : goal.returns-then-ring-clause-imports
returns-then-ring-clause-imports g c = λ start p h.
    let s = g.P.Port.state c.args.port.now in
    let m = g.P.Port.state c.stopped.new.self in
    let w = g.P.Port.state c.write_pending.new.port in
    let old = c.args.ring.now in
    let ring = c.write_pending.new.ring in
    let nothing : OffersNothing s w = nothing_then s m w (nothing_looked s m c.stopped.result c.stopped.ensures.looked) c.write_pending.ensures.nothing in
    c.reduce_vivify_import.ensures.imports start (polling_same s w old ring nothing c.write_pending.ensures.offers.place c.write_pending.ensures.restarts c.write_pending.ensures.import_due (ap (λ (t : TrailData). t.level) c.write_pending.ensures.trail) p)
    (importing_same start s w old ring nothing c.write_pending.ensures.restarts c.write_pending.ensures.import_due h)

pub returns-clause-imports : goal.returns-clause-imports
returns-clause-imports g c = λ start p h.
    let s = g.P.Port.state c.args.port.now in
    let m = g.P.Port.state c.stopped.new.self in
    let w = g.P.Port.state c.write_pending.new.port in
    let old = c.args.ring.now in
    let ring = c.write_pending.new.ring in
    let nothing : OffersNothing s w = nothing_then s m w (nothing_looked s m c.stopped.result c.stopped.ensures.looked) c.write_pending.ensures.nothing in
    let after = c.decide.new.ring in
    subst (λ (x : PortState). HasImportedBy start x after c.decide.result) (sym c.decide.ensures.same)
    (imported_settled start w after c.decide.result (c.decide.ensures.import_due ∙ c.if-ring.false)
    (importing_same start s w old after nothing (c.decide.ensures.restarts ∙ c.write_pending.ensures.restarts) (c.decide.ensures.import_due ∙ c.write_pending.ensures.import_due) h))

pub returns-then-ring-clause-acted : goal.returns-then-ring-clause-acted
returns-then-ring-clause-acted g c = λ on.
    (let s = g.P.Port.state c.args.port.now in
    let w = g.P.Port.state c.write_pending.new.port in
    inl (
      sym c.write_pending.ensures.import_due ∙ c.if-ring.true,
      record {
        middle = w;
        ring = c.write_pending.new.ring;
        told = subst (λ (x : PortState). ToldUnits x w) c.in_default.ensures.looked.1 c.in-Ok.ensures.lines;
        seen = subst (SeesFixed w) c.write_pending.ensures.trail (sees_fixed w c.write_pending.new.ring.trail c.write_pending.new.ring.written c.in-Ok.ensures.search.told c.in-Ok.ensures.first c.in-Ok.ensures.search.stands.seen);
        unlooked = c.reduce_vivify_import.ensures.unlooked;
        same_ring = c.write_pending.ensures.same;
        renewed = c.reduce_vivify_import.ensures.renewed on;
      },
    ))

pub returns-clause-acted : goal.returns-clause-acted
returns-clause-acted g c = λ on.
    (let s = g.P.Port.state c.args.port.now in
    let w = g.P.Port.state c.write_pending.new.port in
    let old = c.args.ring.now in
    let new = c.decide.new.ring in
    let p = c.decide.ensures.decided on in
    let told = c.write_pending.ensures.same in
    subst (λ (x : PortState). ActedAtQuiet s x old new) (sym c.decide.ensures.same)
    (inr (
      sym c.write_pending.ensures.import_due ∙ c.if-ring.false,
      record {
        told = subst (λ (x : PortState). ToldUnits x w) c.in_default.ensures.looked.1 c.in-Ok.ensures.lines;
        seen = subst (SeesFixed w) c.write_pending.ensures.trail (sees_fixed w c.write_pending.new.ring.trail c.write_pending.new.ring.written c.in-Ok.ensures.search.told c.in-Ok.ensures.first c.in-Ok.ensures.search.stands.seen);
        decided = record {
          lit = p.lit;
          chosen = subst (λ (r : Ring). IsDecided r.decider r.trail.steps p.lit) told p.chosen;
          trail = p.trail ∙ ap (λ (r : Ring). decided r.trail p.lit) told;
          same = p.same ∙ ap (λ (r : Ring). record r { trail = new.trail; written = new.written }) told;
        };
      },
    )))

pub returns-in-Err-clause-in_time : goal.returns-in-Err-clause-in_time
returns-in-Err-clause-in_time g c = λ p h.
    let w = g.P.Port.state c.write_pending.new.port in
    let ring = c.write_pending.new.ring in
    subst (IsInTimeAt w ring.restarts) (sym c.end_refused.ensures) (in_time_halted w ring.restarts _ (refused_halted c.in-Err.stop))

pub returns-then-ring-clause-in_time : goal.returns-then-ring-clause-in_time
returns-then-ring-clause-in_time g c = λ p h. c.reduce_vivify_import.ensures.in_time

pub returns-clause-in_time : goal.returns-clause-in_time
returns-clause-in_time g c = λ p h.
    let s = g.P.Port.state c.args.port.now in
    let m = g.P.Port.state c.stopped.new.self in
    let w = g.P.Port.state c.write_pending.new.port in
    let lines : OnlyWrote s w = wrote_by s m w (looked_wrote s m (one_more s.looks) c.in_default.ensures.looked.1 c.stopped.ensures.log) c.in-Ok.ensures.wrote in
    let old = c.args.ring.now in
    let after = c.decide.new.ring in
    let settled : old.import_due ≡ false = sym c.write_pending.ensures.import_due ∙ c.if-ring.false in
    let since = ap (λ (r : Restarting). r.since) (c.decide.ensures.restarts ∙ c.write_pending.ensures.restarts) in
    subst (λ (x : PortState). IsInTimeBy x after c.decide.result) (sym c.decide.ensures.same)
    (in_time_any w after c.decide.result (in_time_more w old.restarts.since after.restarts.since (sym since) (in_time_wrote s w old.restarts.since lines (h settled))))

pub returns-in-Some-clause-ended : goal.returns-in-Some-clause-ended
returns-in-Some-clause-ended g c = (c.in-Some.ensures.looked.1, refl)

pub returns-in-Err-clause-ended : goal.returns-in-Err-clause-ended
returns-in-Err-clause-ended g c =
    let s = g.P.Port.state c.args.port.now in
    let w = g.P.Port.state c.write_pending.new.port in
    let old = c.args.ring.now in
    let ring = c.write_pending.new.ring in
    let how = c.in-Err.ensures.halts in
    subst (λ (end : End). EndsQuietly s w old ring (Finish end)) (sym c.end_refused.ensures)
    (quietly_halted s w old ring (end_refused c.in-Err.stop) (refused_refusal c.in-Err.stop) (
      record { learned = c.write_pending.ensures.learned; restarts = c.write_pending.ensures.restarts; exported = c.write_pending.ensures.offers.exported; offered = c.write_pending.ensures.offers.offered },
      how.0,
      subst (λ (x : PortState). ToldUnits x how.0) c.in_default.ensures.looked.1 how.1,
      how.2,
      inl how.3,
    ))

pub returns-then-ring-clause-ended : goal.returns-then-ring-clause-ended
returns-then-ring-clause-ended g c =
    let s = g.P.Port.state c.args.port.now in
    let w = g.P.Port.state c.write_pending.new.port in
    let k = c.reduce_vivify_import.ensures in
    quietly_renewing s w (g.P.Port.state c.reduce_vivify_import.new.port) c.args.ring.now c.write_pending.new.ring c.reduce_vivify_import.new.ring c.reduce_vivify_import.result k.refused (sym c.write_pending.ensures.import_due ∙ c.if-ring.true)
    c.write_pending.ensures.same
    (record { learned = k.learned ∙ c.write_pending.ensures.learned; restarts = k.restarts ∙ c.write_pending.ensures.restarts; exported = k.offers.exported ∙ c.write_pending.ensures.offers.exported; offered = k.offers.offered ∙ c.write_pending.ensures.offers.offered })
    (subst (λ (x : PortState). ToldUnits x w) c.in_default.ensures.looked.1 c.in-Ok.ensures.lines)
    (subst (SeesFixed w) c.write_pending.ensures.trail (sees_fixed w c.write_pending.new.ring.trail c.write_pending.new.ring.written c.in-Ok.ensures.search.told c.in-Ok.ensures.first c.in-Ok.ensures.search.stands.seen)) k.halts

pub returns-clause-ended : goal.returns-clause-ended
returns-clause-ended g c =
    let s = g.P.Port.state c.args.port.now in
    let w = g.P.Port.state c.write_pending.new.port in
    let old = c.args.ring.now in
    let new = c.decide.new.ring in
    let k = c.decide.ensures in
    subst (λ (x : PortState). EndsQuietly s x old new c.decide.result) (sym k.same)
    (quietly_decided s w old c.write_pending.new.ring new c.decide.result (sym c.write_pending.ensures.import_due ∙ c.if-ring.false) c.write_pending.ensures.same
    (record { learned = k.learned ∙ c.write_pending.ensures.learned; restarts = k.restarts ∙ c.write_pending.ensures.restarts; exported = k.offers.exported ∙ c.write_pending.ensures.offers.exported; offered = k.offers.offered ∙ c.write_pending.ensures.offers.offered })
    (subst (λ (x : PortState). ToldUnits x w) c.in_default.ensures.looked.1 c.in-Ok.ensures.lines)
    (subst (SeesFixed w) c.write_pending.ensures.trail (sees_fixed w c.write_pending.new.ring.trail c.write_pending.new.ring.written c.in-Ok.ensures.search.told c.in-Ok.ensures.first c.in-Ok.ensures.search.stands.seen)) k.ended)

pub decide-requires-clause-found : goal.decide-requires-clause-found
decide-requires-clause-found g c =
    let s = g.P.Port.state c.args.port.now in
    let w = g.P.Port.state c.write_pending.new.port in
    let stays = c.in-Ok.ensures.stays in
    found_by s w c.args.model.now (stays.start ∙ ap (λ (x : PortState). x.start) c.in_default.ensures.looked.1) (stays.vars ∙ ap (λ (x : PortState). x.vars) c.in_default.ensures.looked.1) c.requires.found
