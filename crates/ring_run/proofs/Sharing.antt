-- A ring that has learned, counted and offered a lemma, and then asked whether a restart is due.
use Rattle.std.proofs.Common.{◌≡◌, ◌∙◌, ℕ, ◌+◌, ◌≤◌, true, false, List, sym, subst, ap, arith, inl, inr, Some, None, Ok, IsSome, refl}
use Rattle.std.specs.Prelude.{IfSome, if◌then◌else◌}
use Rattle.std.specs.declared.option.Option.{Option}
use Rattle.sat_words.specs.Literal.{Literal}
use Rattle.sat_words.specs.declared.shared.Cref.{Cref}
use Rattle.ring_port.specs.PortState.{PortState, IsPort, held_at}
use Rattle.ring_port.specs.Port.{Learned}
use Rattle.ring_port.specs.Drawing.{HasDrawn}
use Rattle.ring_port.specs.declared.draw.Drawn.TheVariants.{Ticket}
use Rattle.ring_trail.specs.declared.step.TrailStep.{TrailStep}
use Rattle.ring_trail.specs.TrailData.{TrailData}
use Rattle.restart_plan.specs.Plan.{Restarting, noted, asked, is_due}
use Rattle.ring_run.specs.Ended.{HasImported, IsInTime, polls_of}
use Rattle.ring_run.specs.Strategy.{IsPaced}
use Rattle.ring_run.specs.Searching.{GoesOn, Stands, HasLent, HoldsByGlue, IsAsserting, IsGlueOf}
use Rattle.ring_run.specs.Course.{WasShared, InSearch, HasLemmas, HasLeft, HasLearned, IsOffering, IsPolling, IsImporting, SumsUp, imports_of}
use Rattle.ring_run.specs.Learning.{HasShared, HasAsked, HasLeftTidy, WasFollowed}
use Rattle.ring_run.specs.declared.course.Next.{Next}
use Rattle.ring_run.specs.declared.ring.Ring.{Ring}
use Rattle.ring_run.proofs.InTime.{in_time_same, in_time_more, in_time_wrote, in_time_learned, asked_since, sums_exact}
use Rattle.ring_run.proofs.Learning.{learned_any, left_search, left_level}
use Rattle.ring_run.proofs.Lending.{lent_held, lent_goes_on, lent_search, left_before, left_alike, stored_at, lent_glue, offering_learned}
use Rattle.ring_run.proofs.Listing.{left_lists, listed_learned}
use Rattle.ring_run.proofs.Numbering.{grown_none, grown_then, reductions_still}
use Rattle.ring_run.proofs.Offering.{OnlyLent, only_lent}
use Rattle.ring_run.proofs.Pacing.{paced_more}
use Rattle.ring_run.proofs.Polling.{SamePolls, same_then, same_nothing, same_learned, same_lent, polls_as, polled_whole, asked_imports, asked_more, place_moved}
use Rattle.ring_run.proofs.Progress.{IsReady, learned_looks, learned_by_glue, recent_still, glue_bounds}
use Rattle.ring_run.proofs.Remembering.{HoldsAlike, held_same}
use Rattle.ring_run.proofs.Rounds.{imports_as, imports_whole}
use Rattle.ring_run.proofs.Tidying.{tidied_search}

-- what the port has had from the start stays, and nothing was refused
learned_vars : (s u : PortState) (lits : List Literal) (glue : ℕ) (address : Option Cref) → Learned s u lits glue (Ok address) → u.vars ≡ s.vars
learned_vars s u lits glue (Some c) w = ap (λ (x : PortState). x.vars) w.state
learned_vars s u lits glue None w = ap (λ (x : PortState). x.vars) w.wrote.state

learned_found : (s u : PortState) (lits : List Literal) (glue : ℕ) (address : Option Cref) → Learned s u lits glue (Ok address) → u.found ≡ s.found
learned_found s u lits glue (Some c) w = ap (λ (x : PortState). x.found) w.state
learned_found s u lits glue None w = ap (λ (x : PortState). x.found) w.wrote.state

learned_refused : (s u : PortState) (lits : List Literal) (glue : ℕ) (address : Option Cref) → Learned s u lits glue (Ok address) → u.refused ≡ s.refused
learned_refused s u lits glue (Some c) w = ap (λ (x : PortState). x.refused) w.state
learned_refused s u lits glue None w = ap (λ (x : PortState). x.refused) w.wrote.state

module _ (s u : PortState) (old new : Ring) (lits : List Literal) (glue : ℕ) (address : Option Cref) (h : HasShared s u old new lits glue address) where
  abbrev middle : PortState
  middle = h.shared.middle

  pub shared_lent : OnlyLent middle u
  shared_lent = only_lent middle u address old.exported old.offered new.exported new.offered h.shared.lent

  pub shared_count : new.learned ≡ old.learned + 1
  shared_count = ap (λ (r : Ring). r.learned) h.ring

  pub shared_noted : new.restarts ≡ noted old.restarts glue
  shared_noted = ap (λ (r : Ring). r.restarts) h.ring

  pub shared_vars : u.vars ≡ s.vars
  shared_vars = ap (λ (x : PortState). x.vars) shared_lent.state ∙ learned_vars s middle lits glue address h.shared.learned

  pub shared_refused : u.refused ≡ s.refused
  shared_refused = ap (λ (x : PortState). x.refused) shared_lent.state ∙ learned_refused s middle lits glue address h.shared.learned

  pub shared_held : IfSome address (λ c. IsSome (held_at u c.address))
  shared_held = lent_held s middle u lits glue address h.shared.learned shared_lent

  pub shared_looks : u.looks ≡ s.looks
  shared_looks = ap (λ (x : PortState). x.looks) shared_lent.state ∙ learned_looks s middle lits glue address h.shared.learned

  pub shared_found : u.found ≡ s.found
  shared_found = ap (λ (x : PortState). x.found) shared_lent.state ∙ learned_found s middle lits glue address h.shared.learned

  pub shared_polls : SamePolls s u
  shared_polls = same_then s middle u (same_learned s middle lits glue address h.shared.learned) (same_lent middle u shared_lent)

  pub shared_goes_on : (start : PortState) (t : TrailData) (back : ℕ) → IsReady start s old.learned → Stands s t → IsAsserting s t lits back → IsGlueOf t.steps lits glue → GoesOn start u (old.learned + 1)
  shared_goes_on start t back p stands lemma counts =
      lent_goes_on start middle u (old.learned + 1) (learned_any start s middle old.learned glue t lits back address p stands lemma counts h.shared.learned h.kept h.log h.port) shared_lent h.log_after h.port_after

  pub shared_stored : (w : PortState) (steps : List TrailStep) → IsGlueOf steps lits glue → w.held ≡ u.held → HoldsByGlue s w steps
  shared_stored w steps counts held = lent_glue s middle u w steps (learned_by_glue s middle steps lits glue address h.shared.learned counts) shared_lent h.port_after held

  pub shared_offering : (steps : List TrailStep) → IsGlueOf steps lits glue → IsOffering s old → IsOffering u new
  shared_offering steps counts p = offering_learned s middle u old new steps glue lits address p h.shared.learned counts h.shared.lent shared_count

  pub shared_in_time : IsInTime s old.restarts.since → IsInTime u (old.restarts.since + 1)
  shared_in_time p = in_time_same middle u (old.restarts.since + 1) (ap (λ (x : PortState). x.ring) shared_lent.state) (ap (λ (x : PortState). x.mine) shared_lent.state)
      (in_time_learned s middle lits glue address old.restarts.since h.shared.learned p)

-- if a conflict was left with an import yet to be, the trail is at level 0
left_low : (u : PortState) (old new : Ring) (lits : List Literal) (back : ℕ) (address : Option Cref) → HasLeft u old new lits back address → old.import_due ≡ true → new.trail.level ≡ 0
left_low u old new lits back address (inl at) due =
    let level = left_level u old new lits back address (inl at) in
    let none = at.0 due in
    omega (arith, level, none)
left_low u old new lits back address (inr at) due = ap (λ (t : TrailData). t.level) at.2.went.is

-- after a lemma it was asked whether a restart is due
module _ (s u : PortState) (old new : Ring) (lits : List Literal) (back glue : ℕ) (course : Next) (p : WasFollowed s u old new lits back glue course) where
  abbrev v : PortState
  v = p.between

  abbrev mid : Ring
  mid = p.middle

  abbrev address : Option Cref
  address = p.address

  abbrev h : HasShared s p.between old p.middle lits glue p.address
  h = p.shared

  abbrev a : HasAsked p.between u p.middle new
  a = p.finished.asked_for

  abbrev lent : OnlyLent h.shared.middle v
  lent = shared_lent s v old mid lits glue address h

  pub asked_learned : new.learned ≡ old.learned + 1
  asked_learned = a.learned ∙ shared_count s v old mid lits glue address h

  pub asked_shared : WasShared s v old new lits glue address
  asked_shared = record {
    middle = h.shared.middle;
    learned = h.shared.learned;
    lent = subst (λ (e : ℕ). HasLent h.shared.middle v address old.exported old.offered e new.offered) (sym a.offers.exported)
        (subst (λ (o : ℕ). HasLent h.shared.middle v address old.exported old.offered mid.exported o) (sym a.offers.offered) h.shared.lent);
  }

  pub asked_restarts : new.restarts ≡ asked (noted old.restarts glue)
  asked_restarts = a.restarts ∙ ap asked (shared_noted s v old mid lits glue address h)

  pub asked_pending : new.import_due ≡ is_due (noted old.restarts glue)
  asked_pending = a.import_due ∙ ap is_due (shared_noted s v old mid lits glue address h)

  pub asked_looks : u.looks ≡ s.looks
  asked_looks = a.looks ∙ shared_looks s v old mid lits glue address h

  pub asked_found : u.found ≡ s.found
  asked_found = a.nothing.found ∙ shared_found s v old mid lits glue address h

  pub asked_paced : IsPaced old.restarts old.learned → IsPaced new.restarts new.learned
  asked_paced paced =
      subst (λ (n : ℕ). IsPaced new.restarts n) (sym asked_learned)
      (subst (λ (r : Restarting). IsPaced r (old.learned + 1)) (sym asked_restarts) (paced_more old.restarts old.learned glue paced))

  pub asked_sums : IsPaced old.restarts old.learned → SumsUp new.restarts
  asked_sums paced = sums_exact new.restarts new.learned (asked_paced paced)

  pub asked_same : SamePolls s u
  asked_same = same_then s v u (shared_polls s v old mid lits glue address h) (same_nothing v u a.nothing)

  pub asked_made : old.restarts.made ≤ new.restarts.made
  asked_made = subst (λ (r : Restarting). old.restarts.made ≤ r.made) (sym asked_restarts) (asked_more (noted old.restarts glue))

  pub asked_count : imports_of new ≡ old.restarts.made + 1
  asked_count = ap (λ (r : Restarting). if new.import_due then r.made else r.made + 1) asked_restarts ∙ asked_imports (noted old.restarts glue) new.import_due asked_pending

  pub asked_polled : old.import_due ≡ false → IsPolling s old → u.polled ≡ polls_of u (1 + old.restarts.made)
  asked_polled settled q = polls_as s u (1 + old.restarts.made) asked_same (polled_whole s old settled q.polled)

  pub asked_imported : (start : PortState) → old.import_due ≡ false → IsImporting start s old → HasImported start u (1 + old.restarts.made)
  asked_imported start settled q = imports_as start s u (1 + old.restarts.made) asked_same (imports_whole start s old settled q)

  -- what waited was deleted, and the conflict left
  module _ (leaves : HasLeftTidy v u mid new lits back address) where
    left_old : HasLeft u (record old { import_due = new.import_due }) new lits back address
    left_old = left_alike u (record mid { import_due = new.import_due }) (record old { import_due = new.import_due }) new lits back address
        (record {
          import_due = refl;
          trail = ap (λ (r : Ring). r.trail) h.ring;
          watches = ap (λ (r : Ring). r.watches) h.ring;
          lemmas = ap (λ (r : Ring). r.lemmas.items) h.ring;
          imports = ap (λ (r : Ring). r.imports.items) h.ring;
          last_start = ap (λ (r : Ring). r.last_start) h.ring;
          next_probe = ap (λ (r : Ring). r.next_probe) h.ring;
          reductions = ap (λ (r : Ring). r.reductions) h.ring;
          reduced_at = ap (λ (r : Ring). r.reduced_at) h.ring;
          written = ap (λ (r : Ring). r.written) h.ring;
          decider = ap (λ (r : Ring). r.decider) h.ring;
        })
        leaves.left

    alike : HoldsAlike h.shared.middle u
    alike a_place = held_same v u a_place a.held ∙ lent.same a_place

    pub asked_level : new.trail.level ≤ back
    asked_level = left_level u (record old { import_due = new.import_due }) new lits back address left_old

    pub asked_search : InSearch s old → IsAsserting s old.trail lits back → IsPort u → InSearch u new
    asked_search search lemma port =
        tidied_search v u new
        (lent_search h.shared.middle v new
        (left_search s h.shared.middle (record old { import_due = new.import_due }) new lits back glue address search lemma h.shared.learned h.kept h.port
        (left_before h.shared.middle u (record old { import_due = new.import_due }) new lits back address alike left_old))
        lent h.log_after h.port_after)
        leaves.wrote leaves.seen port

    pub asked_goes_on : (start : PortState) → IsReady start s old.learned → Stands s old.trail → IsAsserting s old.trail lits back → IsGlueOf old.trail.steps lits glue → GoesOn start u new.learned
    asked_goes_on start q stands lemma counts = subst (GoesOn start u) (sym asked_learned)
        (leaves.keeps start (old.learned + 1) (shared_goes_on s v old mid lits glue address h start old.trail back q stands lemma counts))

    pub asked_polling : old.import_due ≡ false → IsPolling s old → IsPolling u new
    asked_polling settled q = record {
      place = a.offers.place ∙ ap (λ (r : Ring). r.place) h.ring ∙ place_moved old.place s u asked_same.ring asked_same.rings q.place;
      polled = subst (λ (k : ℕ). u.polled ≡ polls_of u k) (let e : 1 + old.restarts.made ≡ imports_of new = omega (arith, asked_count) in e) (asked_polled settled q);
      low = left_low u (record old { import_due = new.import_due }) new lits back address left_old;
    }

    pub asked_in_time : IsInTime s old.restarts.since → new.import_due ≡ false → IsInTime u new.restarts.since
    asked_in_time q settled =
        let since : new.restarts.since ≡ old.restarts.since + 1 = ap (λ (r : Restarting). r.since) asked_restarts ∙ asked_since (noted old.restarts glue) (sym asked_pending ∙ settled) in
        in_time_wrote v u new.restarts.since leaves.wrote (in_time_more v (old.restarts.since + 1) new.restarts.since (sym since) (shared_in_time s v old mid lits glue address h q))

    pub asked_listed : InSearch s old → IsGlueOf old.trail.steps lits glue → HasLemmas s old → HasLemmas u new
    asked_listed search counts q =
        let m = h.shared.middle in
        let wrote = leaves.wrote in
        let ring = ap (λ (x : PortState). x.ring) lent.state in
        let mine = ap (λ (x : PortState). x.mine) lent.state in
        let lists = left_lists u (record old { import_due = new.import_due }) new lits back address left_old in
        listed_learned s m u old new lits glue address search.clauses h.shared.learned
        (wrote.stays.start ∙ ap (λ (x : PortState). x.start) lent.state)
        (wrote.recent ∙ recent_still m v ring mine)
        (record { lemmas = lists.0.lemmas; imports = lists.0.imports; last_start = lists.0.last_start; reductions = lists.0.reductions; reduced_at = lists.0.reduced_at; next_probe = lists.0.next_probe }) lists.1 asked_learned
        h.kept alike (grown_then m v u (grown_none m v mine) wrote.grown) (wrote.reduced ∙ reductions_still m v ring mine)
        (λ long. (glue_bounds old.trail.steps lits glue counts long).0) q

    pub asked_has_learned : (before : PortState) → HasDrawn before s Ticket → HasLearned before u old new lits back glue
    asked_has_learned before ticket = record {
      drawn = s;
      ticket = ticket;
      address = address;
      between = v;
      shared = asked_shared;
      tidied = leaves.tidied;
      learned = asked_learned;
      stored = stored_at s h.shared.middle u lits glue address h.shared.learned alike;
      restarts = asked_restarts;
      import_due = asked_pending;
      left = left_old;
    }
