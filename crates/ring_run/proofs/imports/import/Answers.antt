use Rattle.std.proofs.Common.{inl, inr, ◌≡◌, ◌∙◌, ◌++◌, List, ◌≤◌, ◌<◌, ◌+◌, ℕ, ap, sym, subst, arith, refl, length, None, Bool, true, false, [], IsSome, Contains}
use Rattle.std.specs.Prelude.{if◌then◌else◌}
use Rattle.std.proofs.lemmas.Bool.{false≢true}
use Rattle.ring_port.specs.PortState.{PortState, Slot, Holding, held_at, known, one_more}
use Rattle.ring_run.specs.Ended.{polls_of, LookedAlong, rounds, import_slots}
use Rattle.ring_run.specs.Searching.{OffersNothing, GoesOn, IsHeldBy, Stands}
use Rattle.ring_run.specs.Ending.{EndsAt, WroteEmpty}
use Rattle.ring_port.specs.Port.{AreHints}
use Rattle.rup_model.specs.Rup.{rup}
use Rattle.rup_model.specs.Journal.{learned}
use Rattle.ring_run.specs.Course.{imports_of}
use Rattle.ring_run.specs.declared.ring.Ring.{Ring}
use Rattle.ring_run.proofs.Offering.{nothing_then}
use Rattle.ring_run.proofs.Lending.{saw_nothing, offering_stays, offering_kept}
use Rattle.ring_run.proofs.Listing.{listed_with}
use Rattle.ring_port.proofs.LogSteps.{In_All}
use Rattle.ring_run.proofs.Turning.{saw_search}
use Rattle.ring_run.proofs.Learning.{goes_on_by}
use Rattle.ring_run.proofs.Progress.{out_of_memory, recent_still}
use Rattle.ring_run.proofs.Polling.{imported, imported_most, polls_same, polled_over, polled_halted, place_moved}
use Rattle.ring_run.proofs.Slots.{each_at, slots_more, slots_imports}
use Rattle.ring_run.proofs.imports.import.Goals as goal
use Rattle.ring_run.proofs.Numbering.{grown_none, reductions_still}
use Rattle.ring_run.proofs.Remembering.{held_same}
use Rattle.ring_port.proofs.Holdings.{All_In}
use Rattle.rup_model.proofs.Lists.{Contains_In}
use Rattle.watch_prop.specs.WatchData.{attached}
use Rattle.ring_trail.specs.TrailData.{TrailData, IsTrail, HasGrown, reason_at}
use Rattle.std.specs.declared.option.Option.{Option}
use Rattle.ring_run.proofs.Rounds.{imports_halted, imports_over, imports_same, imports_count, imports_part, imports_more, slots_same}
use Rattle.ring_run.proofs.InTime.{in_time_halted, in_time_same, in_time_more}

pub trace_unit-requires-clause-vars : goal.trace_unit-requires-clause-vars
trace_unit-requires-clause-vars g c = c.take_units.ensures.grown.vars ∙ sym c.requires.analysis

pub trace_unit-requires-clause-level : goal.trace_unit-requires-clause-level
trace_unit-requires-clause-level g c = c.take_units.ensures.grown.level ∙ c.requires.import.level

pub trace_unit-requires-clause-reasoned : goal.trace_unit-requires-clause-reasoned
trace_unit-requires-clause-reasoned g c = c.in-Opposed.ensures.taken.reasoned

pub trace_unit-requires-clause-seen : goal.trace_unit-requires-clause-seen
trace_unit-requires-clause-seen g c = c.in-Opposed.ensures.taken.seen

pub trace_unit-requires-clause-opposed : goal.trace_unit-requires-clause-opposed
trace_unit-requires-clause-opposed g c = c.in-Opposed.ensures.taken.false_there

pub refute-requires-clause-usable : goal.refute-requires-clause-usable
refute-requires-clause-usable g c =
    ap (λ (x : PortState). x.refused) c.trace_unit.ensures.same ∙ c.take_units.ensures.saw.refused ∙ c.requires.import.clauses.refused

pub refute-requires-clause-rup : goal.refute-requires-clause-rup
refute-requires-clause-rup g c = subst (λ (x : PortState). rup (known x) [] ≡ true) (sym c.trace_unit.ensures.same) c.in-Opposed.ensures.taken.implied

pub refute-requires-clause-hints : goal.refute-requires-clause-hints
refute-requires-clause-hints g c =
    subst (λ (ns : List ℕ). AreHints (g.P.Port.state c.trace_unit.new.port) [] ns) (sym c.hints.ensures)
    (subst (λ (x : PortState). AreHints x [] c.trace_unit.new.self.hints) (sym c.trace_unit.ensures.same) c.trace_unit.ensures.hints)

pub returns-in-Opposed-clause-leads : goal.returns-in-Opposed-clause-leads
returns-in-Opposed-clause-leads g c = λ start p.
    (subst (λ (x : PortState). EndsAt x (g.P.Port.state c.refute.new.port) c.refute.result) c.trace_unit.ensures.same c.refute.ensures.ends) c.args.ring.now.learned start
    (c.take_units.ensures.keeps start c.args.ring.now.learned p)

pub returns-in-Opposed-clause-polls : goal.returns-in-Opposed-clause-polls
returns-in-Opposed-clause-polls g c =
    let s = g.P.Port.state c.args.port.now in
    let m = g.P.Port.state c.take_units.new.port in
    let u = g.P.Port.state c.refute.new.port in
    let ring = c.args.ring.now in
    let nothing : OffersNothing s u = nothing_then s m u (saw_nothing s m c.take_units.ensures.saw) (subst (λ (x : PortState). OffersNothing x u) c.trace_unit.ensures.same c.refute.ensures.nothing) in
    polled_halted u ring.restarts.made c.refute.result c.refute.ensures.halted (polled_over u ring (polls_same s u (imports_of ring) nothing c.requires.polling.polled))

pub returns-in-Opposed-clause-offering : goal.returns-in-Opposed-clause-offering
returns-in-Opposed-clause-offering g c = λ p.
    let s = g.P.Port.state c.args.port.now in
    let m = g.P.Port.state c.take_units.new.port in
    let u = g.P.Port.state c.refute.new.port in
    offering_stays s u c.args.ring.now (record c.args.ring.now { trail = c.take_units.new.trail }) (nothing_then s m u (saw_nothing s m c.take_units.ensures.saw) (subst (λ (x : PortState). OffersNothing x u) c.trace_unit.ensures.same c.refute.ensures.nothing))
    (record { exported = refl; offered = refl; place = refl }) refl p

pub returns-in-Err-clause-leads : goal.returns-in-Err-clause-leads
returns-in-Err-clause-leads g c = λ start p.
    let s = g.P.Port.state c.args.port.now in
    let m = g.P.Port.state c.take_units.new.port in
    let u = g.P.Port.state c.take_clauses.new.port in
    let ring = c.args.ring.now in
    let after = c.take_clauses.new.ring in
    let count : after.learned ≡ ring.learned = ap (λ (r : Ring). r.learned) c.take_clauses.ensures.same in
    out_of_memory start u after.learned
    (subst (GoesOn start u) (sym count) (c.take_clauses.ensures.keeps start ring.learned (c.take_units.ensures.keeps start ring.learned p)))

pub returns-in-Err-clause-polls : goal.returns-in-Err-clause-polls
returns-in-Err-clause-polls g c =
    let s = g.P.Port.state c.args.port.now in
    let m = g.P.Port.state c.take_units.new.port in
    let u = g.P.Port.state c.take_clauses.new.port in
    let ring = c.args.ring.now in
    let after = c.take_clauses.new.ring in
    let made : ℕ = ring.restarts.made in
    let none : imports_of ring ≡ made = ap (λ (b : Bool). if b then made else made + 1) c.requires.import_due in
    let before : m.polled ≡ polls_of m made = subst (λ (k : ℕ). m.polled ≡ polls_of m k) none (polls_same s m (imports_of ring) (saw_nothing s m c.take_units.ensures.saw) c.requires.polling.polled) in
    let same : after.restarts.made ≡ made = ap (λ (r : Ring). r.restarts.made) c.take_clauses.ensures.same in
    subst (λ (k : ℕ). u.polled ≤ polls_of u k) (let e : made + 1 ≡ 1 + after.restarts.made = omega (arith, same) in e)
    (imported_most m u made (ap (λ (x : PortState). x.ring) c.take_clauses.ensures.only.state) (ap (λ (x : PortState). x.rings) c.take_clauses.ensures.only.state) (ap (λ (x : PortState). x.depth) c.take_clauses.ensures.only.state) before c.take_clauses.ensures.few)

pub returns-in-Err-clause-offering : goal.returns-in-Err-clause-offering
returns-in-Err-clause-offering g c = λ p.
    let s = g.P.Port.state c.args.port.now in
    let m = g.P.Port.state c.take_units.new.port in
    let u = g.P.Port.state c.take_clauses.new.port in
    let ring = c.args.ring.now in
    let after = c.take_clauses.new.ring in
    let same = c.take_clauses.ensures.same in
    let only = c.take_clauses.ensures.only.state in
    let nothing = saw_nothing s m c.take_units.ensures.saw in
    offering_kept s u ring after (ap (λ (x : PortState). x.shared) only ∙ nothing.shared) (ap (λ (x : PortState). x.ring) only ∙ nothing.ring) (ap (λ (x : PortState). x.rings) only ∙ nothing.rings)
    (ap (λ (x : PortState). learned x.ring x.mine) only ∙ nothing.lemmas) (ap (λ (r : Ring). r.exported) same) (ap (λ (r : Ring). r.offered) same) (ap (λ (r : Ring). r.learned) same) p

pub returns-clause-leads : goal.returns-clause-leads
returns-clause-leads g c =
    let s = g.P.Port.state c.args.port.now in
    let m = g.P.Port.state c.take_units.new.port in
    let u = g.P.Port.state c.take_clauses.new.port in
    let ring = c.args.ring.now in
    let after = c.take_clauses.new.ring in
    let count : after.learned ≡ ring.learned = ap (λ (r : Ring). r.learned) c.take_clauses.ensures.same in
    goes_on_by s u ring (record after { import_due = false }) c.in-Ok.ensures.search
    (λ start p. subst (GoesOn start u) (sym count) (c.take_clauses.ensures.keeps start ring.learned (c.take_units.ensures.keeps start ring.learned p)))

pub returns-clause-polls : goal.returns-clause-polls
returns-clause-polls g c =
    let s = g.P.Port.state c.args.port.now in
    let m = g.P.Port.state c.take_units.new.port in
    let u = g.P.Port.state c.take_clauses.new.port in
    let ring = c.args.ring.now in
    let after = c.take_clauses.new.ring in
    let made : ℕ = ring.restarts.made in
    let only = c.take_clauses.ensures.only.state in
    let nothing = saw_nothing s m c.take_units.ensures.saw in
    let none : imports_of ring ≡ made = ap (λ (b : Bool). if b then made else made + 1) c.requires.import_due in
    let before : m.polled ≡ polls_of m made = subst (λ (k : ℕ). m.polled ≡ polls_of m k) none (polls_same s m (imports_of ring) nothing c.requires.polling.polled) in
    let same : after.restarts.made ≡ made = ap (λ (r : Ring). r.restarts.made) c.take_clauses.ensures.same in
    record {
      place = ap (λ (r : Ring). r.place) c.take_clauses.ensures.same
          ∙ place_moved ring.place s u (ap (λ (x : PortState). x.ring) only ∙ nothing.ring) (ap (λ (x : PortState). x.rings) only ∙ nothing.rings) c.requires.polling.place;
      polled = subst (λ (k : ℕ). u.polled ≡ polls_of u k) (let e : made + 1 ≡ after.restarts.made + 1 = omega (arith, same) in e)
          (imported m u made (ap (λ (x : PortState). x.ring) only) (ap (λ (x : PortState). x.rings) only) (ap (λ (x : PortState). x.depth) only) before c.in-Ok.ensures.polled);
      low = λ e. absurd (false≢true e);
    }

pub returns-clause-offering : goal.returns-clause-offering
returns-clause-offering g c = λ p.
    let s = g.P.Port.state c.args.port.now in
    let m = g.P.Port.state c.take_units.new.port in
    let u = g.P.Port.state c.take_clauses.new.port in
    let ring = c.args.ring.now in
    let after = c.take_clauses.new.ring in
    let same = c.take_clauses.ensures.same in
    let only = c.take_clauses.ensures.only.state in
    let nothing = saw_nothing s m c.take_units.ensures.saw in
    offering_kept s u ring (record after { import_due = false }) (ap (λ (x : PortState). x.shared) only ∙ nothing.shared) (ap (λ (x : PortState). x.ring) only ∙ nothing.ring) (ap (λ (x : PortState). x.rings) only ∙ nothing.rings)
    (ap (λ (x : PortState). learned x.ring x.mine) only ∙ nothing.lemmas) (ap (λ (r : Ring). r.exported) same) (ap (λ (r : Ring). r.offered) same) (ap (λ (r : Ring). r.learned) same) p

pub take_clauses-requires-clause-search : goal.take_clauses-requires-clause-search
take_clauses-requires-clause-search g c =
    let s = g.P.Port.state c.args.port.now in
    let m = g.P.Port.state c.take_units.new.port in
    let ring = c.args.ring.now in
    let units = c.in-True.ensures in
    saw_search s m ring.trail c.take_units.new.trail ring.watches ring.written c.requires.import units.saw units.port units.trail units.grown units.taken.0 units.taken.1 (units.reasons _ c.requires.import.reasons) units.bare (units.watched ring.watches _ c.requires.import.watched)

pub returns-clause-listed : goal.returns-clause-listed
returns-clause-listed g c = λ on p.
    let s = g.P.Port.state c.args.port.now in
    let m = g.P.Port.state c.take_units.new.port in
    let u = g.P.Port.state c.take_clauses.new.port in
    let after = c.take_clauses.new.ring in
    let same = c.take_clauses.ensures.same in
    let only = c.take_clauses.ensures.only.state in
    let saw = c.take_units.ensures.saw in
    let ring = c.args.ring.now in
    let took = c.in-Ok.ensures.took in
    let between : Ring = record ring { trail = c.take_units.new.trail } in
    listed_with s u c.args.ring.now (record after { import_due = false }) (ap (λ (x : PortState). x.start) only ∙ saw.stays.start)
    (recent_still m u (ap (λ (x : PortState). x.ring) only) (ap (λ (x : PortState). x.mine) only) ∙ recent_still s m saw.stays.ring saw.mine)
    (ap (λ (r : Ring). r.lemmas.items) same)
    (In_All (Contains (attached after.watches)) ring.lemmas.items (λ d inside. slots_more m u between after (import_slots m) took d (All_In (Contains (attached ring.watches)) ring.lemmas.items d p.member inside)))
    (ap (λ (r : Ring). r.learned) same) (ap (λ (r : Ring). r.reductions) same) (ap (λ (r : Ring). r.reduced_at) same) (ap (λ (r : Ring). r.last_start) same)
    (slots_imports m u between after (import_slots m) took p.imported)
    (record {
      held = λ d there. (
          let before : IsSome (held_at s d.address) = All_In (IsHeldBy s) (attached ring.watches) d c.requires.import.clauses.held
          (Contains_In (attached ring.watches) d (All_In (Contains (attached ring.watches)) ring.lemmas.items d p.member (Contains_In ring.lemmas.items d there))) in
          let first = held_same s m d.address saw.held in
          c.take_clauses.ensures.only.kept d.address (subst (λ (o : Option Holding). IsSome o) (sym first) before) ∙ first);
      grown = grown_none s u (ap (λ (x : PortState). x.mine) only ∙ saw.mine);
      noted = reductions_still s u (ap (λ (x : PortState). x.ring) only ∙ saw.stays.ring) (ap (λ (x : PortState). x.mine) only ∙ saw.mine);
    }) p

pub returns-in-Opposed-clause-imports : goal.returns-in-Opposed-clause-imports
returns-in-Opposed-clause-imports g c = λ start p h.
    let s = g.P.Port.state c.args.port.now in
    let m = g.P.Port.state c.take_units.new.port in
    let u = g.P.Port.state c.refute.new.port in
    let ring = c.args.ring.now in
    let nothing : OffersNothing s u = nothing_then s m u (saw_nothing s m c.take_units.ensures.saw) (subst (λ (x : PortState). OffersNothing x u) c.trace_unit.ensures.same c.refute.ensures.nothing) in
    imports_halted start u ring.restarts.made c.refute.result c.refute.ensures.halted (imports_over start u ring (imports_same start s u (imports_of ring) nothing h))

pub returns-in-Err-clause-imports : goal.returns-in-Err-clause-imports
returns-in-Err-clause-imports g c = λ start p h.
    let s = g.P.Port.state c.args.port.now in
    let m = g.P.Port.state c.take_units.new.port in
    let u = g.P.Port.state c.take_clauses.new.port in
    let ring = c.args.ring.now in
    let after = c.take_clauses.new.ring in
    let made : ℕ = ring.restarts.made in
    let only = c.take_clauses.ensures.only.state in
    let none : imports_of ring ≡ made = ap (λ (b : Bool). if b then made else made + 1) c.requires.import_due in
    let before = imports_count start m (imports_of ring) made none (imports_same start s m (imports_of ring) (saw_nothing s m c.take_units.ensures.saw) h) in
    let same : after.restarts.made ≡ made = ap (λ (r : Ring). r.restarts.made) c.take_clauses.ensures.same in
    subst (λ (k : ℕ). LookedAlong start u (rounds k (import_slots u))) (let e : made + 1 ≡ 1 + after.restarts.made = omega (arith, same) in e)
    (imports_part start m u made (ap (λ (x : PortState). x.ring) only) (ap (λ (x : PortState). x.rings) only) (ap (λ (x : PortState). x.depth) only) before c.take_clauses.ensures.some.along)

pub returns-clause-imports : goal.returns-clause-imports
returns-clause-imports g c = λ start p h.
    let s = g.P.Port.state c.args.port.now in
    let m = g.P.Port.state c.take_units.new.port in
    let u = g.P.Port.state c.take_clauses.new.port in
    let ring = c.args.ring.now in
    let after = c.take_clauses.new.ring in
    let made : ℕ = ring.restarts.made in
    let only = c.take_clauses.ensures.only.state in
    let saw = c.take_units.ensures.saw in
    let none : imports_of ring ≡ made = ap (λ (b : Bool). if b then made else made + 1) c.requires.import_due in
    let same : after.restarts.made ≡ made = ap (λ (r : Ring). r.restarts.made) c.take_clauses.ensures.same in
    let looked : u.polls ≡ s.polls ++ import_slots s =
    c.in-Ok.ensures.took.polls ∙ ap (λ (xs : List Slot). xs ++ import_slots m) saw.polls ∙ ap (λ (xs : List Slot). s.polls ++ xs) (slots_same s m saw.stays.ring saw.stays.rings saw.stays.depth) in
    imports_count start u (made + 1) (after.restarts.made + 1) (omega (arith, same))
    (imports_more start s u made (ap (λ (x : PortState). x.ring) only ∙ saw.stays.ring) (ap (λ (x : PortState). x.rings) only ∙ saw.stays.rings) (ap (λ (x : PortState). x.depth) only ∙ saw.stays.depth) (imports_count start s (imports_of ring) made none h) looked
    (ap (λ (x : PortState). x.caught_up) only ∙ c.take_units.ensures.caught_up c.in-True.is))

pub returns-in-Opposed-clause-in_time : goal.returns-in-Opposed-clause-in_time
returns-in-Opposed-clause-in_time g c = λ h. in_time_halted (g.P.Port.state c.refute.new.port) c.args.ring.now.restarts c.refute.result c.refute.ensures.halted

pub returns-clause-in_time : goal.returns-clause-in_time
returns-clause-in_time g c = λ h settled.
    let s = g.P.Port.state c.args.port.now in
    let u = g.P.Port.state c.take_clauses.new.port in
    let only = c.take_clauses.ensures.only.state in
    let saw = c.take_units.ensures.saw in
    in_time_same s u c.take_clauses.new.ring.restarts.since (ap (λ (x : PortState). x.ring) only ∙ saw.stays.ring) (ap (λ (x : PortState). x.mine) only ∙ saw.mine)
    (in_time_more s c.args.ring.now.restarts.since c.take_clauses.new.ring.restarts.since (ap (λ (r : Ring). r.restarts.since) (sym c.take_clauses.ensures.same)) h)

pub returns-clause-took : goal.returns-clause-took
returns-clause-took g c = λ on.
    (let ring = c.args.ring.now in
    let after = c.take_clauses.new.ring in
    let units = c.in-True.ensures in
    let same = c.take_clauses.ensures.same in
    let trail : after.trail ≡ c.take_units.new.trail = ap (λ (r : Ring). r.trail) same in
    let slots = c.in-Ok.ensures.took in
    let s = g.P.Port.state c.args.port.now in
    let m = g.P.Port.state c.take_units.new.port in
    let looked = c.take_units.ensures.caught_up c.in-True.is in
    record {
      middle = g.P.Port.state c.take_units.new.port;
      units = units.saw;
      caught_up = looked;
      opening = units.taken.1;
      stands = subst (Stands (g.P.Port.state c.take_units.new.port)) (sym trail) units.taken.0;
      polled = c.take_clauses.ensures.only;
      slots = record { polls = slots.polls; moments = slots.moments; came = slots.came; few = slots.few; held = slots.held; taken = slots.taken; clauses = slots.clauses; imports = slots.imports };
      moments = slots.moments ∙ ap (λ (ns : List ℕ). ns ++ each_at m.caught_up (import_slots m)) units.saw.polls_after ∙ ap (λ (n : ℕ). s.polls_after ++ each_at n (import_slots m)) looked
          ∙ ap (λ (xs : List Slot). s.polls_after ++ each_at (one_more s.caught_up) xs) (slots_same s m units.saw.stays.ring units.saw.stays.rings units.saw.stays.depth);
      grown = subst (HasGrown ring.trail) (sym trail) units.grown;
      shape = subst IsTrail (sym trail) c.take_units.ensures.trail;
      bare = subst (λ (t : TrailData). (p : ℕ) → length ring.trail.steps ≤ p → p < length t.steps → reason_at t.steps p ≡ None) (sym trail) units.bare;
      level = ap (λ (t : TrailData). t.level) trail ∙ units.grown.level ∙ c.requires.import.level;
      same = ap (λ (r : Ring). record r { import_due = false }) same ∙ ap (λ (t : TrailData). record ring { trail = t; watches = after.watches; imports = after.imports; import_due = false }) (sym trail);
    })

pub returns-in-Opposed-clause-unlooked : goal.returns-in-Opposed-clause-unlooked
returns-in-Opposed-clause-unlooked g c = c.refute.ensures.looks ∙ ap (λ (x : PortState). x.looks) c.trace_unit.ensures.same ∙ c.take_units.ensures.saw.looks

pub returns-in-Err-clause-unlooked : goal.returns-in-Err-clause-unlooked
returns-in-Err-clause-unlooked g c = ap (λ (x : PortState). x.looks) c.take_clauses.ensures.only.state ∙ c.take_units.ensures.saw.looks

pub returns-clause-unlooked : goal.returns-clause-unlooked
returns-clause-unlooked g c = ap (λ (x : PortState). x.looks) c.take_clauses.ensures.only.state ∙ c.take_units.ensures.saw.looks

pub returns-in-Opposed-clause-refused : goal.returns-in-Opposed-clause-refused
returns-in-Opposed-clause-refused g c = c.refute.ensures.refusal

pub returns-in-Opposed-clause-halts : goal.returns-in-Opposed-clause-halts
returns-in-Opposed-clause-halts g c = record { middle = g.P.Port.state c.take_units.new.port; units = c.take_units.ensures.saw; over = inl (subst (λ (x : PortState). WroteEmpty x (g.P.Port.state c.refute.new.port) c.refute.result) c.trace_unit.ensures.same c.refute.ensures.empty) }

pub returns-in-Err-clause-halts : goal.returns-in-Err-clause-halts
returns-in-Err-clause-halts g c =
    let units = c.in-True.ensures in
    record {
      middle = g.P.Port.state c.take_units.new.port;
      units = units.saw;
      over = inr (record { caught_up = c.take_units.ensures.caught_up c.in-True.is; opening = units.taken.1; only = c.take_clauses.ensures.only; polled = c.take_clauses.ensures.some; memory = refl });
    }
