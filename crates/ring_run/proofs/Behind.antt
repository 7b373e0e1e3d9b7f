-- What the call that learns a lemma comes to, clause by clause.
use Rattle.std.proofs.Common.{◌≡◌, ◌∙◌, ◌⊎◌, ℕ, ◌+◌, ◌<◌, ◌≤◌, false, List, sym, subst, ap, arith, inl, inr, Contains, drop, refl}
use Rattle.sat_words.specs.Literal.{Literal}
use Rattle.sat_words.specs.declared.shared.Cref.{Cref}
use Rattle.ring_port.specs.PortState.{PortState, Holding, IsPort, lits_at}
use Rattle.ring_port.specs.Log.{KeepsLog}
use Rattle.ring_port.specs.Drawing.{Drew, HasDrawn}
use Rattle.ring_port.specs.declared.draw.Drawn.TheVariants.{Ticket}
use Rattle.ring_trail.specs.declared.step.TrailStep.{TrailStep}
use Rattle.restart_plan.specs.Plan.{Restarting}
use Rattle.ring_decide.specs.DeciderData.{DeciderData}
use Rattle.watch_prop.specs.Propagation.{IsConflict}
use Rattle.analyze.specs.Levels.{count_of_levels}
use Rattle.analyze.specs.Lemma.{IsConclusion, IsLemma}
use Rattle.analyze.specs.declared.analysis.Conclusion.TheVariants.{Lemma}
use Rattle.ring_run.specs.Ended.{IsHalted, LookedAlong, import_slots, last_looks, polls_of, rounds}
use Rattle.ring_run.specs.Ending.{ComesTo, EndsAt, IsRefusal, end_refused}
use Rattle.ring_run.specs.Strategy.{IsPaced}
use Rattle.ring_run.specs.Searching.{GoesOn, HoldsByGlue, IsAsserting, IsGlueOf, OffersNothing}
use Rattle.ring_run.specs.Course.{HaltsAtConflict, AreSameOffers, InSearch, HasLemmas, IsOffering, IsPolling, HasTidied, KeepsInTime, KeepsImporting, KeepsPolling, KeepsLooking, Leads, LearnsFrom, LearnsTo, SumsUp, imports_of}
use Rattle.ring_run.specs.Learning.{ComesOf, WasFollowed, HasTried, CameOfDraw}
use Rattle.ring_run.specs.declared.job.End.{End}
use Rattle.ring_run.specs.declared.job.End.TheVariants.{Sat, Refuted, Spent, Stopped, NoHole, ProofFault, Memory}
use Rattle.ring_run.specs.declared.ring.Ring.{Ring}
use Rattle.ring_run.specs.declared.course.Next.{Next}
use Rattle.ring_run.specs.declared.course.Next.TheVariants.{Go, Finish}
use Rattle.ring_run.proofs.Asserting.{back_below, lemma_asserts}
use Rattle.ring_run.proofs.InTime.{in_time_halted, sums_exact}
use Rattle.ring_run.proofs.Drawing.{drawn_asserting, drawn_held, drawn_importing, drawn_in_time, drawn_lemmas, drawn_looks, drawn_offering, drawn_polling, drawn_polls, drawn_ready, drawn_searches, drawn_spent, ready_refused}
use Rattle.ring_run.proofs.Lending.{offering_stays}
use Rattle.ring_run.proofs.Offering.{nothing_refused}
use Rattle.ring_run.proofs.Outcomes.{AreSameButBumps, from_halted, learned_from, learns_halted}
use Rattle.ring_run.proofs.Pacing.{asked_odd}
use Rattle.ring_run.proofs.Polling.{polls_as, polls_same, polled_whole, polled_over, polled_halted, at_most_polls, settled_above}
use Rattle.ring_run.proofs.Progress.{IsReady, out_of_memory, refused_held, refused_looks}
use Rattle.ring_run.proofs.Rounds.{imports_along, imports_as, imports_count, imports_halted, imports_over, imports_same, imports_whole, tidy_halted}
use Rattle.ring_run.proofs.Sharing.{shared_goes_on, shared_noted, shared_offering, shared_stored, asked_count, asked_found, asked_goes_on, asked_has_learned, asked_imported, asked_restarts, asked_shared, asked_in_time, asked_learned, asked_level, asked_listed, asked_looks, asked_made, asked_paced, asked_polled, asked_polling, asked_search, asked_sums}
use Rattle.ring_run.proofs.Tidying.{refused_halted, refused_last, refused_refusal}

-- what is known where a lemma is learned
pub record CanLearn (s : PortState) (ring : Ring) (lits : List Literal) (back glue : ℕ) : Type 0 where
  pub search : InSearch s ring
  pub paced : IsPaced ring.restarts ring.learned
  pub offering : IsOffering s ring
  pub listed : HasLemmas s ring
  pub lemma : IsAsserting s ring.trail lits back
  pub counts : IsGlueOf ring.trail.steps lits glue

refusal_halted : (end : End) → IsRefusal end → IsHalted end
refusal_halted (Sat a) h = absurd h
refusal_halted Refuted h = tt
refusal_halted Spent h = absurd h
refusal_halted (Stopped x) h = absurd h
refusal_halted (NoHole lack) h = tt
refusal_halted ProofFault h = tt
refusal_halted Memory h = tt

refusal_last : (end : End) → IsRefusal end → last_looks end ≡ 0
refusal_last (Sat a) h = absurd h
refusal_last Refuted h = refl
refusal_last Spent h = absurd h
refusal_last (Stopped x) h = refl
refusal_last (NoHole lack) h = refl
refusal_last ProofFault h = refl
refusal_last Memory h = refl

over_not_on : (end : End) → Finish end ≡ Go → ⊥
over_not_on end e = cc

held_stored : (s u : PortState) (steps : List TrailStep) → u.held ≡ s.held → HoldsByGlue s u steps
held_stored s u steps held h there = inl (subst (λ (hs : List Holding). Contains hs h) held there)

-- what a step with a ticket in hand does
abbrev pub LeadsReady : PortState → Ring → PortState → Ring → Next → Type 0
LeadsReady old before new ring Go = InSearch new ring × ((start : PortState) → IsReady start old before.learned → GoesOn start new ring.learned)
LeadsReady old before new ring (Finish end) = (start : PortState) → IsReady start old before.learned → ComesTo start new ring.learned end

-- with the ticket in hand
module _ (s u : PortState) (old new : Ring) (lits : List Literal) (back glue : ℕ) (can : CanLearn s old lits back glue) where
  -- the conflict is above level 0, so no import is yet to be
  above : 0 < old.trail.level
  above = let below = back_below s old.trail lits back can.lemma can.search.trail in omega (arith, below)

  settled : IsPolling s old → old.import_due ≡ false
  settled p = settled_above s old p above

  pub comes_above : (course : Next) → course ≡ Go → 0 < old.trail.level
  comes_above course on = above

  followed_leads : (course : Next) → WasFollowed s u old new lits back glue course → IsPort u → LeadsReady s old u new course
  followed_leads Go p port = (
    asked_search s u old new lits back glue Go p p.finished.leaves can.search can.lemma port,
    λ start q. asked_goes_on s u old new lits back glue Go p p.finished.leaves start q can.search.stands can.lemma can.counts,
  )
  followed_leads (Finish end) p port = λ start q.
      (let count = asked_learned s u old new lits back glue (Finish end) p in
      p.finished.leaves.0 new.learned start
      (subst (GoesOn start p.between) (sym count) (shared_goes_on s p.between old p.middle lits glue p.address p.shared start old.trail back q can.search.stands can.lemma can.counts)))

  pub comes_leads : (course : Next) → ComesOf s u old new lits back glue course → IsPort u → LeadsReady s old u new course
  comes_leads course (inl p) port =
      subst (λ (x : Next). LeadsReady s old u new x) (sym p.over)
      (subst (λ (r : Ring). LeadsReady s old u r (Finish (end_refused p.stop))) (sym p.ring) (λ start q. ready_refused start s u old.learned p.stop q p.refused p.log p.port))
  comes_leads course (inr p) port = followed_leads course p port

  pub comes_found : (course : Next) → ComesOf s u old new lits back glue course → course ≡ Go → u.found ≡ s.found
  comes_found course (inl p) on = absurd (over_not_on (end_refused p.stop) (sym p.over ∙ on))
  comes_found course (inr p) on = asked_found s u old new lits back glue course p

  followed_learns : (before : PortState) → HasDrawn before s Ticket → (course : Next) → WasFollowed s u old new lits back glue course → LearnsTo before u old new lits back glue course
  followed_learns before ticket Go p = asked_has_learned s u old new lits back glue Go p p.finished.leaves before ticket
  followed_learns before ticket (Finish end) p =
      learns_halted before u old new lits back glue end p.finished.leaves.1 (
        s,
        ticket,
        inr (record {
          address = p.address;
          between = p.between;
          shared = asked_shared s u old new lits back glue (Finish end) p;
          deleting = p.finished.leaves.2;
          learned = asked_learned s u old new lits back glue (Finish end) p;
          restarts = asked_restarts s u old new lits back glue (Finish end) p;
        }),
      )

  pub comes_learns : (before : PortState) → HasDrawn before s Ticket → (course : Next) → ComesOf s u old new lits back glue course → LearnsTo before u old new lits back glue course
  comes_learns before ticket course (inl p) = subst (λ (x : Next). LearnsTo before u old new lits back glue x) (sym p.over)
      (learns_halted before u old new lits back glue (end_refused p.stop) (refused_refusal p.stop)
      (s, ticket, inl ((p.stop, p.refused, refl), record { learned = ap (λ (r : Ring). r.learned) p.ring; restarts = ap (λ (r : Ring). r.restarts) p.ring; exported = ap (λ (r : Ring). r.exported) p.ring; offered = ap (λ (r : Ring). r.offered) p.ring })))
  comes_learns before ticket course (inr p) = followed_learns before ticket course p

  followed_tidied : (course : Next) → WasFollowed s u old new lits back glue course → HasTidied u course
  followed_tidied Go p = p.finished.leaves.waiting
  followed_tidied (Finish end) p = tidy_halted u end (refusal_halted end p.finished.leaves.1)

  pub comes_tidied : (course : Next) → ComesOf s u old new lits back glue course → HasTidied u course
  comes_tidied course (inl p) = subst (HasTidied u) (sym p.over) (tidy_halted u (end_refused p.stop) (refused_halted p.stop))
  comes_tidied course (inr p) = followed_tidied course p

  followed_listed : (course : Next) → WasFollowed s u old new lits back glue course → course ≡ Go → HasLemmas u new
  followed_listed Go p on = asked_listed s u old new lits back glue Go p p.finished.leaves can.search can.counts can.listed
  followed_listed (Finish end) p on = absurd (over_not_on end on)

  pub comes_listed : (course : Next) → ComesOf s u old new lits back glue course → course ≡ Go → HasLemmas u new
  comes_listed course (inl p) on = absurd (over_not_on (end_refused p.stop) (sym p.over ∙ on))
  comes_listed course (inr p) on = followed_listed course p on

  pub comes_stored : (course : Next) → ComesOf s u old new lits back glue course → HoldsByGlue s u old.trail.steps
  comes_stored course (inl p) = held_stored s u old.trail.steps (refused_held s u p.stop p.refused)
  comes_stored course (inr p) = shared_stored s p.between old p.middle lits glue p.address p.shared u old.trail.steps can.counts p.finished.asked_for.held

  followed_looks : (course : Next) → WasFollowed s u old new lits back glue course → KeepsLooking s old u new course
  followed_looks Go p base before =
      let count = asked_learned s u old new lits back glue Go p in
      let same = asked_looks s u old new lits back glue Go p in
      let level = asked_level s u old new lits back glue Go p p.finished.leaves in
      let below = back_below s old.trail lits back can.lemma can.search.trail in
      omega (arith, before, count, same, level, below)
  followed_looks (Finish end) p base before =
      let count = asked_learned s u old new lits back glue (Finish end) p in
      let same = asked_looks s u old new lits back glue (Finish end) p in
      let none = refusal_last end p.finished.leaves.1 in
      omega (arith, before, count, same, none, above)

  pub comes_looks : (course : Next) → ComesOf s u old new lits back glue course → KeepsLooking s old u new course
  comes_looks course (inl p) =
      let same = refused_looks s u p.stop p.refused in
      let none = refused_last p.stop in
      let learned = ap (λ (r : Ring). r.learned) p.ring in
      subst (λ (x : Next). KeepsLooking s old u new x) (sym p.over) (λ base before. omega (arith, before, same, none, learned))
  comes_looks course (inr p) = followed_looks course p

  pub comes_paced : (course : Next) → ComesOf s u old new lits back glue course → IsPaced new.restarts new.learned
  comes_paced course (inl p) = subst (λ (r : Ring). IsPaced r.restarts r.learned) (sym p.ring) can.paced
  comes_paced course (inr p) = asked_paced s u old new lits back glue course p can.paced

  followed_polls : (course : Next) → WasFollowed s u old new lits back glue course → KeepsPolling s old u new course
  followed_polls Go p q = asked_polling s u old new lits back glue Go p p.finished.leaves (settled q) q
  followed_polls (Finish end) p q =
      let more = asked_made s u old new lits back glue (Finish end) p in
      polled_halted u new.restarts.made end (refusal_halted end p.finished.leaves.1)
      (at_most_polls u (1 + old.restarts.made) (1 + new.restarts.made) (omega (arith, more))
      (asked_polled s u old new lits back glue (Finish end) p (settled q) q))

  pub comes_polls : (course : Next) → ComesOf s u old new lits back glue course → KeepsPolling s old u new course
  comes_polls course (inl p) =
      subst (λ (x : Next). KeepsPolling s old u new x) (sym p.over)
      (subst (λ (r : Ring). KeepsPolling s old u r (Finish (end_refused p.stop))) (sym p.ring)
      (λ q. polled_halted u old.restarts.made (end_refused p.stop) (refused_halted p.stop) (polled_over u old (polls_same s u (imports_of old) (nothing_refused s u p.stop p.refused) q.polled))))
  comes_polls course (inr p) = followed_polls course p

  followed_imports : (course : Next) → WasFollowed s u old new lits back glue course → KeepsImporting s old u new course
  followed_imports Go p start q i =
      let count = asked_count s u old new lits back glue Go p in
      imports_count start u (1 + old.restarts.made) (imports_of new) (omega (arith, count))
      (asked_imported s u old new lits back glue Go p start (settled q) i)
  followed_imports (Finish end) p start q i =
      let more = asked_made s u old new lits back glue (Finish end) p in
      imports_halted start u new.restarts.made end (refusal_halted end p.finished.leaves.1)
      (imports_along start u (1 + old.restarts.made) (1 + new.restarts.made) (omega (arith, more))
      (asked_imported s u old new lits back glue (Finish end) p start (settled q) i))

  pub comes_imports : (course : Next) → ComesOf s u old new lits back glue course → KeepsImporting s old u new course
  comes_imports course (inl p) =
      subst (λ (x : Next). KeepsImporting s old u new x) (sym p.over)
      (subst (λ (r : Ring). KeepsImporting s old u r (Finish (end_refused p.stop))) (sym p.ring)
      (λ start q i. imports_halted start u old.restarts.made (end_refused p.stop) (refused_halted p.stop)
      (imports_over start u old (imports_same start s u (imports_of old) (nothing_refused s u p.stop p.refused) i))))
  comes_imports course (inr p) = followed_imports course p

  followed_in_time : (course : Next) → WasFollowed s u old new lits back glue course → KeepsInTime s old u new course
  followed_in_time Go p q h = asked_in_time s u old new lits back glue Go p p.finished.leaves (h (settled q))
  followed_in_time (Finish end) p q h = in_time_halted u new.restarts end (refusal_halted end p.finished.leaves.1)

  pub comes_in_time : (course : Next) → ComesOf s u old new lits back glue course → KeepsInTime s old u new course
  comes_in_time course (inl p) = subst (λ (x : Next). KeepsInTime s old u new x) (sym p.over) (λ q h. in_time_halted u new.restarts (end_refused p.stop) (refused_halted p.stop))
  comes_in_time course (inr p) = followed_in_time course p

  pub comes_sums : (course : Next) → ComesOf s u old new lits back glue course → SumsUp new.restarts
  comes_sums course (inl p) = subst (λ (r : Ring). SumsUp r.restarts) (sym p.ring) (sums_exact old.restarts old.learned can.paced)
  comes_sums course (inr p) = asked_sums s u old new lits back glue course p can.paced

  pub comes_offering : (course : Next) → ComesOf s u old new lits back glue course → IsOffering u new
  comes_offering course (inl p) =
      subst (IsOffering u) (sym p.ring) (offering_stays s u old old (nothing_refused s u p.stop p.refused) (record { exported = refl; offered = refl; place = refl }) refl can.offering)
  comes_offering course (inr p) =
      offering_stays p.between u p.middle new p.finished.asked_for.nothing p.finished.asked_for.offers p.finished.asked_for.learned
      (shared_offering s p.between old p.middle lits glue p.address p.shared old.trail.steps can.counts can.offering)

  pub comes_odd : (course : Next) → ComesOf s u old new lits back glue course → new.restarts.odd ≡ old.restarts.odd
  comes_odd course (inl p) = ap (λ (r : Ring). r.restarts.odd) p.ring
  comes_odd course (inr p) =
      ap (λ (r : Restarting). r.odd) (p.finished.asked_for.restarts) ∙ asked_odd p.middle.restarts
      ∙ ap (λ (r : Restarting). r.odd) (shared_noted s p.between old p.middle lits glue p.address p.shared)

  pub comes_active : (course : Next) → ComesOf s u old new lits back glue course → new.decider.active ≡ old.decider.active
  comes_active course (inl p) = ap (λ (r : Ring). r.decider.active) p.ring
  comes_active course (inr p) = p.finished.asked_for.active ∙ ap (λ (r : Ring). r.decider.active) p.shared.ring

-- Behind a conflict

-- the ring whose variables were bumped
abbrev pub bumped : Ring → Ring → Ring
bumped old x = record old { decider = x.decider; bumps = x.bumps }

-- what learning the lemma of a conflict leaves
pub record BehindLemma (s u : PortState) (old new : Ring) (conflict : Cref) (lits : List Literal) (course : Next) : Type 0 where
  pub leads : Leads s old u new course
  pub drawn : course ≡ Go → s.found < u.found
  pub learns : LearnsFrom s u old new conflict lits course
  pub tidied : HasTidied u course
  pub listed : course ≡ Go → HasLemmas u new
  pub stored : HoldsByGlue s u old.trail.steps
  pub looks : KeepsLooking s old u new course
  pub paced : IsPaced new.restarts new.learned
  pub polls : KeepsPolling s old u new course
  pub imports : KeepsImporting s old u new course
  pub above : course ≡ Go → 0 < old.trail.level
  pub in_time : KeepsInTime s old u new course
  pub sums : SumsUp new.restarts
  pub offering : IsOffering u new
  pub odd : new.restarts.odd ≡ old.restarts.odd
  pub active : new.decider.active ≡ old.decider.active

can_bumped : (s : PortState) (old x : Ring) (lits : List Literal) (back glue : ℕ) → CanLearn s old lits back glue → CanLearn s (bumped old x) lits back glue
can_bumped s old x lits back glue can =
    let p = can.listed in
    record {
      search = can.search;
      paced = can.paced;
      offering = record { counts = can.offering.counts; few = can.offering.few };
      listed = record { ordered = p.ordered; glued = p.glued; noted = p.noted; distinct = p.distinct; member = p.member; apart = p.apart; count = p.count; few = p.few; imported = p.imported; last = p.last };
      lemma = can.lemma;
      counts = can.counts;
    }

polling_bumped : (s : PortState) (old x : Ring) → IsPolling s old → IsPolling s (bumped old x)
polling_bumped s old x p = record { place = p.place; polled = p.polled; low = p.low }

-- a ticket changes nothing of what is asked for
can_drawn : (s m : PortState) (ring : Ring) (lits : List Literal) (back glue : ℕ) → Drew s m → KeepsLog s m → IsPort m → CanLearn s ring lits back glue → CanLearn m ring lits back glue
can_drawn s m ring lits back glue d log port can = record {
  search = drawn_searches s m d log port ring.trail ring.watches ring.written can.search;
  paced = can.paced;
  offering = drawn_offering s m d log port ring can.offering;
  listed = drawn_lemmas s m d log port ring can.listed;
  lemma = drawn_asserting s m d log port ring.trail lits back can.lemma;
  counts = can.counts;
}

module _ (s u : PortState) (old x : Ring) (conflict : Cref) (lits : List Literal) (back glue : ℕ) (same : x.decider ≡ old.decider) (can : CanLearn s old lits back glue) (lemma : IsLemma s old.trail (lits_at s conflict.address) lits back glue) where
  abbrev between : Ring
  between = bumped old x

  alike : AreSameButBumps between old
  alike = record { trail = refl; watches = refl; lemmas = refl; imports = refl; last_start = refl; reductions = refl; reduced_at = refl; next_probe = refl; written = refl; decider = same; restarts = refl; learned = refl; exported = refl; offered = refl }

  high : 0 < old.trail.level
  high = above s u old old lits back glue can

  -- all tickets had been drawn
  module _ (d : Drew s u) (gone : s.limit < u.found) (log : KeepsLog s u) (port : IsPort u) where
    behind_gone : BehindLemma s u old between conflict lits (Finish Spent)
    behind_gone = record {
      leads = λ start q. drawn_spent s u d log port start old.learned q gone;
      drawn = λ on. absurd (over_not_on Spent on);
      learns = learned_from s u between old between conflict lits back glue (Finish Spent) alike lemma can.lemma can.counts
          (record { gone = (d, gone); counts = record { learned = refl; restarts = refl; exported = refl; offered = refl } });
      tidied = tt;
      listed = λ on. absurd (over_not_on Spent on);
      stored = held_stored s u old.trail.steps (drawn_held s u d log port);
      looks = λ base before. (let looks = drawn_looks s u d log port in omega (arith, before, looks, high));
      paced = can.paced;
      polls = λ q. polls_as s u (1 + old.restarts.made) (drawn_polls s u d log port) (polled_whole s old (settled_above s old q high) q.polled);
      imports = λ start q i. imports_as start s u (1 + old.restarts.made) (drawn_polls s u d log port) (imports_whole start s old (settled_above s old q high) i);
      above = λ on. absurd (over_not_on Spent on);
      in_time = λ q h. drawn_in_time s u d log port old.restarts.since (h (settled_above s old q high));
      sums = sums_exact old.restarts old.learned can.paced;
      offering = drawn_offering s u d log port between (record { counts = can.offering.counts; few = can.offering.few });
      odd = refl;
      active = ap (λ (y : DeciderData). y.active) same;
    }

  -- or one was in hand
  module _ (new : Ring) (course : Next) (p : HasTried s u between new lits back glue course) (port : IsPort u) where
    abbrev m : PortState
    m = p.drawn

    d : Drew s m
    d = p.ticket.0

    by : CanLearn m between lits back glue
    by = can_bumped m old x lits back glue (can_drawn s m old lits back glue d p.log p.port can)

    polling : IsPolling s old → IsPolling m between
    polling q = drawn_polling s m d p.log p.port between (polling_bumped s old x q)

    leads_drawn : (y : Next) → LeadsReady m between u new y → Leads s old u new y
    leads_drawn Go h = record { search = h.0; goes = λ start q. h.1 start (drawn_ready s m d p.log p.port start old.learned q p.ticket.1) }
    leads_drawn (Finish end) h = λ start q. h start (drawn_ready s m d p.log p.port start old.learned q p.ticket.1)

    behind_tried : BehindLemma s u old new conflict lits course
    behind_tried = record {
      leads = leads_drawn course (comes_leads m u between new lits back glue by course p.comes port);
      drawn = λ on. (let found = comes_found m u between new lits back glue by course p.comes on in omega (arith, found, d.more));
      learns = learned_from s u between old new conflict lits back glue course alike lemma can.lemma can.counts (comes_learns m u between new lits back glue by s p.ticket course p.comes);
      tidied = comes_tidied m u between new lits back glue by course p.comes;
      listed = comes_listed m u between new lits back glue by course p.comes;
      stored = λ h there. elim (comes_stored m u between new lits back glue by course p.comes h there) as (λ _. Contains s.held h ⊎ IsGlueOf old.trail.steps h.lits h.glue) [
        | inl before ↦ inl (subst (λ (hs : List Holding). Contains hs h) (drawn_held s m d p.log p.port) before)
        | inr own ↦ inr own
      ];
      looks = λ base before. comes_looks m u between new lits back glue by course p.comes base (let looks = drawn_looks s m d p.log p.port in omega (arith, before, looks));
      paced = comes_paced m u between new lits back glue by course p.comes;
      polls = λ q. comes_polls m u between new lits back glue by course p.comes (polling q);
      imports = λ start q i. comes_imports m u between new lits back glue by course p.comes start (polling q) (drawn_importing s m d p.log p.port start between i);
      above = comes_above m u between new lits back glue by course;
      in_time = λ q h. comes_in_time m u between new lits back glue by course p.comes (polling q) (λ settled. drawn_in_time s m d p.log p.port old.restarts.since (h settled));
      sums = comes_sums m u between new lits back glue by course p.comes;
      offering = comes_offering m u between new lits back glue by course p.comes;
      odd = comes_odd m u between new lits back glue by course p.comes;
      active = comes_active m u between new lits back glue by course p.comes ∙ ap (λ (y : DeciderData). y.active) same;
    }

  pub behind_lemma : (new : Ring) (course : Next) → CameOfDraw s u between new lits back glue course → IsPort u → BehindLemma s u old new conflict lits course
  behind_lemma new course (inl p) port =
      subst (λ (y : Next). BehindLemma s u old new conflict lits y) (sym p.over)
      (subst (λ (r : Ring). BehindLemma s u old r conflict lits (Finish Spent)) (sym p.ring) (behind_gone p.gone.0 p.gone.1 p.log port))
  behind_lemma new course (inr p) port = behind_tried new course p port

-- a lemma that an analysis found may be learned
pub can_found : (s : PortState) (old : Ring) (conflict : Cref) (lits : List Literal) (back glue : ℕ) → InSearch s old → IsPaced old.restarts old.learned → IsOffering s old → HasLemmas s old
    → IsConflict old.watches (lits_at s) old.trail conflict → IsConclusion s old.trail (lits_at s conflict.address) lits (Lemma back glue) → CanLearn s old lits back glue
can_found s old conflict lits back glue search paced offering listed is_conflict found = record {
  search = search;
  paced = paced;
  offering = offering;
  listed = listed;
  lemma = lemma_asserts s old.trail old.watches conflict lits back glue old.written search is_conflict found.0 found.1;
  counts = found.1.glue_is ∙ ap (λ (ls : List Literal). count_of_levels old.trail.steps (drop 1 ls)) (sym found.1.parts);
}

-- no lemma was learned, and nothing of the ring that is told of changed
pub record IsStill (old new : Ring) : Type 0 where
  pub learned : new.learned ≡ old.learned
  pub restarts : new.restarts ≡ old.restarts
  pub active : new.decider.active ≡ old.decider.active
  pub offers : AreSameOffers old new

-- an end without a lemma
pub behind_end : (s u : PortState) (old new : Ring) (conflict : Cref) (lits : List Literal) (end : End) → IsStill old new → EndsAt s u end → IsRefusal end → HaltsAtConflict s u old new conflict lits end → OffersNothing s u → u.held ≡ s.held → u.looks ≡ s.looks
    → IsPaced old.restarts old.learned → IsOffering s old → BehindLemma s u old new conflict lits (Finish end)
behind_end s u old new conflict lits end still ends refusal how nothing held looks paced offering =
    let halted = refusal_halted end refusal in
    let made = ap (λ (r : Restarting). r.made) still.restarts in
    record {
      leads = λ start p. subst (λ (n : ℕ). ComesTo start u n end) (sym still.learned) (ends old.learned start p);
      drawn = λ on. absurd (over_not_on end on);
      learns = from_halted s u old new conflict lits end refusal how;
      tidied = tidy_halted u end halted;
      listed = λ on. absurd (over_not_on end on);
      stored = held_stored s u old.trail.steps held;
      looks = λ base before. (let none = refusal_last end refusal in omega (arith, before, looks, still.learned, none));
      paced = subst (λ (n : ℕ). IsPaced new.restarts n) (sym still.learned) (subst (λ (r : Restarting). IsPaced r old.learned) (sym still.restarts) paced);
      polls = λ p. polled_halted u new.restarts.made end halted
          (subst (λ (k : ℕ). u.polled ≤ polls_of u (1 + k)) (sym made) (polled_over u old (polls_same s u (imports_of old) nothing p.polled)));
      imports = λ start p i. imports_halted start u new.restarts.made end halted
          (subst (λ (k : ℕ). LookedAlong start u (rounds (1 + k) (import_slots u))) (sym made) (imports_over start u old (imports_same start s u (imports_of old) nothing i)));
      above = λ on. absurd (over_not_on end on);
      in_time = λ p h. in_time_halted u new.restarts end halted;
      sums = subst SumsUp (sym still.restarts) (sums_exact old.restarts old.learned paced);
      offering = offering_stays s u old new nothing still.offers still.learned offering;
      odd = ap (λ (r : Restarting). r.odd) still.restarts;
      active = still.active;
    }

-- there was no memory, and nothing was done at the port
pub behind_memory : (s u : PortState) (old new : Ring) (conflict : Cref) (lits : List Literal) → u ≡ s → IsStill old new → IsPaced old.restarts old.learned → IsOffering s old
    → BehindLemma s u old new conflict lits (Finish Memory)
behind_memory s u old new conflict lits same still paced offering = subst (λ (x : PortState). BehindLemma s x old new conflict lits (Finish Memory)) (sym same)
    (behind_end s s old new conflict lits Memory still (λ count start p. out_of_memory start s count p) tt
    (inr (inl (refl, refl, record { learned = still.learned; restarts = still.restarts; exported = still.offers.exported; offered = still.offers.offered })))
    (record { shared = refl; polled = refl; polls = refl; polls_after = refl; caught_up = omega arith; ring = refl; rings = refl; depth = refl; found = refl; lemmas = refl }) refl refl paced offering)
