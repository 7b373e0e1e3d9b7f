-- What the port says after a clause was added.
use Rattle.std.proofs.Common.{◌≡◌, ◌≢◌, ℕ, ◌<◌, ◌≤◌, ◌==◌, ◌||◌, Bool, true, false, if◌then◌else◌, List, [], ◌∷◌, ◌++◌, map, length, refl, sym, ap, subst, ◌∙◌, arith, Option, Some, None, IfSome, eq-eqb, ne_eqb, length-append}
use Rattle.std.specs.Prelude.{All}
use Rattle.std.specs.List.{list_any}
use Rattle.std.specs.Option.{option_map}
use mathlib.Core.Logic.{dite}
use native.Mathlib.Decide.{ℕ_discrete}
use Rattle.std.proofs.lemmas.Bool.{true≢false}
use Rattle.sat_words.specs.Literal.{Literal, IsOn}
use Rattle.sat_words.specs.Clause.{has, includes}
use Rattle.sat_words.specs.declared.shared.Cref.{Cref}
use Rattle.rup_model.specs.Basics.{one_if}
use Rattle.rup_model.specs.declared.journal.Kind.{Kind}
use Rattle.drat_text.specs.LineState.{LineState}
use Rattle.rup_model.specs.Opening.{IsLong}
use Rattle.rup_model.proofs.Lists.{any_In}
use Rattle.rup_model.proofs.ProgramOpening.{All_from_In}
use Rattle.atomic_table.specs.declared.shared.Seat.{Seat}
use Rattle.share_core.specs.declared.part.Part.{Part}
use Rattle.share_core.specs.declared.part.CoreOpening.{CoreOpening}
use Rattle.share_core.specs.declared.stored.ClauseAt.{ClauseAt}
use Rattle.share_core.specs.Learning.{may_derive}
use Rattle.share_core.specs.State.{times_at}
use Rattle.share_core.proofs.ClauseLists.{all_in, all_map, at_both}
use Rattle.share_rule.specs.declared.Shared.{Shared}
use Rattle.share_rule.specs.declared.view.GlueAt.{GlueAt}
use Rattle.share_rule.specs.declared.view.RingPart.{RingPart}
use Rattle.share_rule.specs.declared.view.View.{View}
use Rattle.share_rule.specs.Layout.{InVars}
use Rattle.share_rule.specs.Passes.{IsPassOf}
use Rattle.share_rule.specs.Views.{only, clause_in, clause_of, glue_in}
use Rattle.share_rule.proofs.Lists.{first_at}
use Rattle.ring_port.specs.Port.{IsClause, EndsWith, IsPartOfHeld, IsFreeAddress, AddedClause, KeepsHeld, Refused, after_refusal, last_after}
use Rattle.ring_port.specs.Port as port
use Rattle.ring_port.specs.declared.stops.PortStop.{PortStop}
use Rattle.ring_port.specs.declared.stops.PortStop.TheVariants.{Ended, Broken, ProofFault, NoHole, Memory}
use Rattle.ring_port.specs.PortState.{Holding, PortState, held_at}
use Rattle.ring_port.proofs.Holdings.{found_in_front}
use Rattle.ring_pass.specs.declared.spares.Spares.{Spares}
use Rattle.ring_pass.specs.declared.waiting.Waiting.{Waiting}
use Rattle.ring_pass.specs.Adding.{Added, clause_with, placed_line}
use Rattle.ring_pass.specs.RingState.{Own, port_with, port_of, home_of, holding_of, IsOwn, IsRingPass, HasRoom, HasUnits, CanOffer, AreShort}
use Rattle.ring_pass.proofs.NumbersHere.{numbers_keep}
use Rattle.ring_pass.proofs.EndsHere.{ends_here}
use Rattle.ring_pass.proofs.OffersHere.{first_front}
use Rattle.ring_pass.proofs.PollsHere.{port_step, map_last, map_same}
use Rattle.ring_pass.proofs.NextPlaces.{places_stay}
use Rattle.ring_pass.proofs.RingPorts.{held_here, there_here, nothing_here, lits_here}
use Rattle.ring_pass.proofs.Stays.{only_is}
use Rattle.ring_pass.proofs.TurnsHere.{mine_last, ticket_as, ring_turns, room_turns, units_turns}
use Rattle.ring_pass.specs.Refusals.{answer_noted}
use Rattle.ring_pass.proofs.AllListed.{long_none, listed_last}

-- Lists

-- the last one, if no other is at its address
pub last_found : (a : ℕ) (hs : List ClauseAt) (h : ClauseAt) → h.address ≡ a → times_at a hs ≡ 0 → clause_in a (hs ++ h ∷ []) ≡ h
last_found a [] h e z = λ i. if eq-eqb h.address a e i then h else clause_in a []
last_found a (x ∷ hs) h e z = dite (ℕ_discrete x.address a)
    (λ f. let o : one_if (x.address == a) ≡ 1 = ap one_if (eq-eqb x.address a f) in absurd (omega arith))
    (λ ne. (λ i. if ne_eqb x.address a ne i then x else clause_in a (hs ++ h ∷ [])) ∙ last_found a hs h e (let o : one_if (x.address == a) ≡ 0 = ap one_if (ne_eqb x.address a ne) in omega arith))

none_waits : (gs : List GlueAt) (hs : List ClauseAt) (a : ℕ) → times_at a hs ≡ 0 → list_any (λ (h : Holding). h.address == a) (map (holding_of gs) hs) ≡ false
none_waits gs [] a z = refl
none_waits gs (x ∷ hs) a z = dite (ℕ_discrete x.address a)
    (λ f. let o : one_if (x.address == a) ≡ 1 = ap one_if (eq-eqb x.address a f) in absurd (omega arith))
    (λ ne. (λ i. ne_eqb x.address a ne i || list_any (λ (h : Holding). h.address == a) (map (holding_of gs) hs)) ∙ none_waits gs hs a (let o : one_if (x.address == a) ≡ 0 = ap one_if (ne_eqb x.address a ne) in omega arith))

glues_keep : (n g : ℕ) (gs : List GlueAt) (hs : List ClauseAt) → All (λ k. k.number ≢ n) hs → All (λ k. glue_in k.number (record { number = n; glue = g } ∷ gs) ≡ glue_in k.number gs) hs
glues_keep n g gs hs apart = all_map (λ (k : ClauseAt). k.number ≢ n) (λ (k : ClauseAt). glue_in k.number (record { number = n; glue = g } ∷ gs) ≡ glue_in k.number gs) hs (λ k i ne j. if ne_eqb n k.number (λ e. ne (sym e)) j then g else glue_in k.number gs) apart

-- What may be derived

-- a part of what is held
pub may_derive_here : (v : View) (o : Own) (s : PortState) (lits : List Literal) → port_of v o ≡ s → IsPartOfHeld s lits → may_derive (only v).core lits ≡ true
may_derive_here v o s lits view h =
    let p : IsPartOfHeld (port_of v o) lits = subst (λ (y : PortState). IsPartOfHeld y lits) (sym view) h in
    let f = first_at p.address (only v).core.held (held_here v o p.address p.held).0 in
    any_In (λ (k : ClauseAt). includes k.lits lits) (only v).core.held (clause_of p.address v) f.0 (ap (λ (ls : List Literal). includes ls lits) (sym (lits_here v o p.address p.held)) ∙ p.part)

pub long_here : {vars : ℕ} {lits : List Literal} → 2 ≤ length lits → IsClause vars lits → IsLong lits
long_here long c = record { long = long; distinct = c.distinct; no_opposites = c.no_opposites }

pub on_here : (v : View) (o : Own) (s : PortState) (lits : List Literal) → port_of v o ≡ s → IsClause s.vars lits → InVars v.layout lits
on_here v o s lits view c =
    let k : IsClause (port_of v o).vars lits = subst (λ (y : PortState). IsClause y.vars lits) (sym view) c in
    All_from_In (λ (l : Literal). (1 ≤ l.var) × (l.var ≤ v.layout.vars)) lits (λ l i. let on = all_in (IsOn v.layout.vars) lits l i k.on in (on.low, on.high))

-- The port

module _ (v w : View) (o : Own) (home : List ℕ) (lits : List Literal) (glue : ℕ) (c : Cref) (kind : Kind) (last : Option Cref) (hints : List ℕ) (f : Added v w kind lits hints glue c.address) where
  clause : ClauseAt
  clause = clause_with c.address f.number lits

  now : only w ≡ f.part
  now = only_is w f.part f.parts

  held : (only w).core.held ≡ (only v).core.held ++ clause_with c.address f.number lits ∷ []
  held = ap (λ (p : RingPart). p.core.held) now ∙ ap (λ (q : Part). q.held) f.core

  own_glue : glue_in f.number (record { number = f.number; glue = glue } ∷ (only v).glues) ≡ glue
  own_glue i = if eq-eqb f.number f.number refl i then glue else glue_in f.number (only v).glues

  found : clause_of c.address w ≡ clause_with c.address f.number lits
  found = ap (clause_in c.address) held ∙ last_found c.address (only v).core.held (clause_with c.address f.number lits) refl f.not_held

  there : 0 < times_at c.address (only w).core.held
  there =
      let both = ap (times_at c.address) held ∙ at_both c.address (only v).core.held (clause_with c.address f.number lits ∷ []) in
      let one : one_if (c.address == c.address) ≡ 1 = ap one_if (eq-eqb c.address c.address refl) in
      omega arith

  holding : holding_of (only w).glues (clause_of c.address w) ≡ port.holding_of c f.number glue lits
  holding =
      ap (holding_of (only w).glues) found
      ∙ (λ i. record { address = c.address; number = f.number; glue = glue_in f.number ((ap (λ (p : RingPart). p.glues) now ∙ f.glues) i); lits = lits })
      ∙ (λ i. record { address = c.address; number = f.number; glue = own_glue i; lits = lits })

  new_held : map (holding_of (record { number = f.number; glue = glue } ∷ (only v).glues)) ((only v).core.held ++ clause_with c.address f.number lits ∷ []) ≡ map (holding_of (only v).glues) (only v).core.held ++ port.holding_of c f.number glue lits ∷ []
  new_held =
      map_last (record { number = f.number; glue = glue } ∷ (only v).glues) (only v).core.held (clause_with c.address f.number lits)
      ∙ (λ i. map_same (only v).glues (record { number = f.number; glue = glue } ∷ (only v).glues) (only v).core.held (glues_keep f.number glue (only v).glues (only v).core.held f.held_apart) i
      ++ record { address = c.address; number = f.number; glue = own_glue i; lits = lits } ∷ [])

  pub added_here : IsOwn (only v) o → 2 ≤ length lits → home ≡ o.home → option_map (λ (x : Cref). x.address) last ≡ last_after kind (option_map (λ (x : Cref). x.address) o.last) c.address → AddedClause (port_of v o) (port_of w (record o { last = last; home = home })) lits glue kind c
  added_here own long hm lm = record {
    number = f.number;
    hints = hints;
    going = by o.ended own.ended_is;
    long = long;
    free = record { not_held = nothing_here v o c.address f.not_held; not_waiting = none_waits (only v).glues (only v).core.waiting c.address f.not_waiting };
    there = (held_here w (record o { last = last; home = home }) c.address (there_here w (record o { last = last; home = home }) c.address there)).1 ∙ ap (λ (h : Holding). Some h) holding;
    state = port_step v w f.part (record o { last = last; home = home }) f.parts f.layout f.opening f.stop f.looks
        ∙ (λ i. port_with v (record f.part { core = f.core i; glues = f.glues i; polls = f.polls i; caught_up = f.caught_up i }) (record o { last = last; home = hm i }))
        ∙ (λ i. record (port_of v o) {
          held = new_held i;
          last = lm i;
          ticket = ticket_as kind (only v).core.ticket i;
          waiting = map_same (only v).glues (record { number = f.number; glue = glue } ∷ (only v).glues) (only v).core.waiting (glues_keep f.number glue (only v).glues (only v).core.waiting f.waiting_apart) i;
          mine = mine_last (only v).core.wrote (placed_line f.place (only v).core.ring f.number lits kind hints) i;
        });
  }
    where
      by : (b : Bool) → (b ≡ true → (only v).ended ≡ true) → b ≡ false
      by true e = sym (e refl) ∙ f.going
      by false e = refl

-- what was held stays held
pub added_keeps : {s t : PortState} {lits : List Literal} {glue : ℕ} {kind : Kind} {c : Cref} → AddedClause s t lits glue kind c → KeepsHeld s t
unfolding held_at
added_keeps {s} {t} {lits} {glue} {kind} {c} is a h = ap (λ (x : PortState). held_at x a) is.state ∙ found_in_front (λ k. k.address == a) s.held (port.holding_of c is.number glue lits ∷ []) h

-- nor does a refusal change it
pub refused_keeps : {s t : PortState} {stop : PortStop} → Refused s t stop → KeepsHeld s t
unfolding held_at
refused_keeps {s} {t} {stop} is a h = ap (λ (x : PortState). held_at x a) is.state ∙ by t.output stop
  where
    by : (out : Option LineState) (x : PortStop) → held_at (after_refusal s out x) a ≡ held_at s a
    by out Ended = refl
    by out Broken = refl
    by out ProofFault = refl
    by out (NoHole lack) = refl
    by out Memory = refl

-- as a call tells it
pub added_as : {hints : List ℕ} {v w : View} (o : Own) (s : PortState) (home : List ℕ) (lits : List Literal) (glue : ℕ) (c : Cref) (kind : Kind) (last : Option Cref) → port_of v o ≡ s → IsOwn (only v) o → 2 ≤ length lits → Added v w kind lits hints glue c.address → home ≡ o.home
    → option_map (λ (x : Cref). x.address) last ≡ last_after kind (option_map (λ (x : Cref). x.address) o.last) c.address → AddedClause s (port_of w (record o { last = last; home = home })) lits glue kind c
added_as {hints} {v} {w} o s home lits glue c kind last view own long f hm lm = subst (λ (y : PortState). AddedClause y (port_of w (record o { last = last; home = home })) lits glue kind c) view (added_here v w o home lits glue c kind last hints f own long hm lm)

-- its line is the ring's last
pub added_ends : {v w : View} {kind : Kind} {lits : List Literal} {hints : List ℕ} {glue a : ℕ} → Added v w kind lits hints glue a → (o : Own) → EndsWith (port_of w o) hints
added_ends {v} {w} {kind} {lits} {hints} {glue} {a} f o =
    let now = only_is w f.part f.parts in
    let ring : (only v).core.ring ≡ (only w).core.ring = sym (ap (λ (p : RingPart). p.core.ring) now ∙ ap (λ (q : Part). q.ring) f.core) in
    ends_here w o (only v).core.wrote f.place f.number lits kind hints (ap (λ (p : RingPart). p.core.wrote) now ∙ ap (λ (q : Part). q.wrote) f.core ∙ (λ i. (only v).core.wrote ++ placed_line f.place (ring i) f.number lits kind hints ∷ []))

-- For a ring with its pass

pub ring_adds : {hints : List ℕ} {B : Type 0} {t : Shared B} {p : Seat (Option B) View} {n : ℕ} {st : List Cref} {o : Own} (q : Seat (Option B) View) (kind : Kind) (lits : List Literal) (glue a : ℕ) (last : Option Cref) → IsRingPass t p n st o → IsPassOf t q → q.id ≡ p.id → q.me.1 ≡ [] → Added p.me.0 q.me.0 kind lits hints glue a → IsLong lits → IsRingPass t q n st (record o { last = last; home = home_of q })
ring_adds {hints} {B} {t} {p} {n} {st} {o} q kind lits glue a last r pass id slots f long =
    let h : ClauseAt = clause_with a f.number lits in
    ring_turns q f.part (record o { last = last; home = home_of q }) r pass id slots f.opening f.parts (ap (λ (k : Part). k.ring) f.core) f.turn refl (record {
      passed = r.own.passed;
      distinct = r.own.distinct;
      told = subst (λ (ls : List Literal). All (λ l. has ls l ≡ true) o.arrived) (sym (ap (λ (k : Part). k.seen) f.core)) r.own.told;
      taken = subst (λ (hs : List ClauseAt). All (λ x. 0 < times_at x.address hs) o.taken) (sym (ap (λ (k : Part). k.held) f.core))
          (all_map (λ (x : Cref). 0 < times_at x.address (only p.me.0).core.held) (λ (x : Cref). 0 < times_at x.address ((only p.me.0).core.held ++ clause_with a f.number lits ∷ [])) o.taken (λ x i lt. let m = at_both x.address (only p.me.0).core.held (clause_with a f.number lits ∷ []) in omega arith) r.own.taken);
      ended_is = λ e. f.ended_is (r.own.ended_is e);
      refused_is = r.own.refused_is ∙ ap (option_map answer_noted) (sym f.refused);
      faulty_is = λ e. f.failed_is (r.own.faulty_is e);
      making = f.built r.own.making;
      listed = listed_last (only p.me.0) f.part (placed_line f.place (only p.me.0).core.ring f.number lits kind hints) (ap (λ (k : Part). k.wrote) f.core) (ap (λ (k : Part). k.seen) f.core) (long_none lits long) r.own.listed;
    })
    (λ _ e. absurd (true≢false (sym e ∙ f.whole)))
    refl
    (numbers_keep (ap (λ (k : Part). k.seen) f.core) (ap (λ (k : Part). k.numbers) f.core) refl)

pub room_adds : {hints : List ℕ} (v w : View) (kind : Kind) (lits : List Literal) (glue a : ℕ) (last : Option Cref) (ws : List Waiting) (room : ℕ) → Added v w kind lits hints glue a → HasRoom (only v) v.opening.rings last ws room → HasRoom (only w) w.opening.rings last ws room
room_adds {hints} v w kind lits glue a last ws room f m =
    let long = length-append (only v).core.wrote (placed_line f.place (only v).core.ring f.number lits kind hints ∷ []) in
    let wrote = ap (λ (k : Part). length k.wrote) f.core in
    room_turns v w f.part last ws room f.opening f.parts (ap (λ (k : Part). k.waiting) f.core) (ap (λ (k : Part). k.shared) f.core) (omega arith) m

pub units_adds : {hints : List ℕ} (v w : View) (kind : Kind) (lits : List Literal) (glue a : ℕ) (seen : List Literal) (x y : ℕ) → Added v w kind lits hints glue a → HasUnits (only v) v.layout.vars seen x y → HasUnits (only w) w.layout.vars seen x y
units_adds {hints} v w kind lits glue a seen x y f m = units_turns v w f.part seen x y f.layout f.parts (ap (λ (k : Part). k.seen) f.core) m

-- the next offer's clause is held still
next_stays : (hs : List ClauseAt) (h : ClauseAt) (longest : ℕ) (last : Option Cref) → IfSome last (λ c. (0 < times_at c.address hs) × (length (clause_in c.address hs).lits ≤ longest))
    → IfSome last (λ c. (0 < times_at c.address (hs ++ h ∷ [])) × (length (clause_in c.address (hs ++ h ∷ [])).lits ≤ longest))
next_stays hs h longest None next = tt
next_stays hs h longest (Some c) next =
    let more = at_both c.address hs (h ∷ []) in
    let some = next.0 in
    (omega arith, subst (λ (k : ClauseAt). length k.lits ≤ longest) (sym (first_front c.address hs (h ∷ []) next.0)) next.1)

pub offer_adds : {hints : List ℕ} (v w : View) (kind : Kind) (lits : List Literal) (glue a : ℕ) (last : Option Cref) (s : Spares) → Added v w kind lits hints glue a → CanOffer (only v) v.opening last s → CanOffer (only w) w.opening last s
offer_adds {hints} v w kind lits glue a last s f r =
    subst (λ (o : CoreOpening). CanOffer (only w) o last s) (sym f.opening) (subst (λ (y : RingPart). CanOffer y v.opening last s) (sym (only_is w f.part f.parts)) (record {
      buffers = r.buffers;
      enough = r.enough;
      gave = subst (AreShort s.longest) (sym f.gave) r.gave;
      next = subst (λ (hs : List ClauseAt). IfSome last (λ c. (0 < times_at c.address hs) × (length (clause_in c.address hs).lits ≤ s.longest))) (sym (ap (λ (k : Part). k.held) f.core)) (next_stays (only v).core.held (clause_with a f.number lits) s.longest last r.next);
      places = places_stay (ap (λ (k : Part). k.ring) f.core) (ap (λ (k : Part). k.puts) f.core) r.places;
    }))
