-- What vivification of a clause leaves of a run.
use Rattle.std.proofs.Common.{◌≡◌, ◌≢◌, ◌∙◌, ℕ, ◌-◌, ◌^◌, ◌≤◌, min, false, List, [], ◌∷◌, ◌++◌, length, sym, subst, ap, arith, inl, inr, ◌⊎◌, refl, Contains, IsSome, Some}
use Rattle.std.specs.Prelude.{All}
use Rattle.std.specs.declared.option.Option.{Option}
use Rattle.std.proofs.lemmas.Bool.{false≢true}
use Rattle.std.proofs.lemmas.List.Elements.{All-cons, All-nil}
use Rattle.sat_words.specs.Literal.{Literal}
use Rattle.sat_words.specs.Clause.{has}
use Rattle.sat_words.specs.declared.shared.Cref.{Cref}
use Rattle.rup_model.specs.declared.journal.Addition.{Addition}
use Rattle.rup_model.specs.declared.journal.Entry.{Entry}
use Rattle.rup_model.specs.declared.journal.Kind.TheVariants.{Derive, UnitLine}
use Rattle.rup_model.specs.Journal.{learned, recent, is_learn}
use Rattle.rup_model.proofs.Lists.{In, Contains_In, In_Contains, In_append}
use Rattle.ring_port.specs.declared.stops.PortStop.{PortStop}
use Rattle.ring_port.specs.PortState.{PortState, Holding, HoldsStart, IsPort, IsOn, held_at, lits_at}
use Rattle.ring_port.specs.Port.{AddedClause, WroteUnit, Refused, IsClause, entry_of, holding_of}
use Rattle.ring_port.specs.Deleting.{DroppedOnce}
use Rattle.ring_port.specs.Log.{KeepsLog}
use Rattle.ring_port.proofs.Holdings.{All_In}
use Rattle.ring_port.proofs.LogSteps.{In_All}
use Rattle.ring_trail.specs.declared.step.TrailStep.{TrailStep}
use Rattle.watch_prop.specs.WatchData.{WatchData, attached}
use Rattle.vivify.specs.Walk.{others}
use Rattle.vivify.specs.Outcome.{glue_at, left_at, WasShortened, BecameUnit, WroteLeft, WasCutShort}
use Rattle.vivify.proofs.Parts.{left_part, left_distinct}
use Rattle.vivify.proofs.Shortening.{part_clause}
use Rattle.ring_run.specs.Ended.{Stays, IsGlued, Cause, reductions}
use Rattle.ring_run.specs.Searching.{GoesOn, KeepsOn, Runs, UnitsSeen, OffersNothing}
use Rattle.ring_run.specs.Ending.{EndsAt, end_refused}
use Rattle.ring_run.proofs.Progress.{Unchanged, AddsGlued, same_refused, runs_entry, new_line, not_learned, none_learned, recent_other, some_literal, going_more, refused_cause, refused_ends, unset, usable_none}
use Rattle.ring_run.proofs.Lately.{lately_none}
use Rattle.ring_run.proofs.Reducing.{less_one}
use Rattle.rup_model.proofs.Additions.{learned-append}
use Rattle.std.proofs.Common.{append-nil}
use Rattle.ring_run.proofs.Tickets.{tickets_of, found_same, limit_same, draws_same, drawn_none, tickets_refused}

-- An entry, and then a clause that is dropped, or a refusal

-- the port has one entry more, and may hold and wait for other clauses
pub record Behind (s u : PortState) (e : Entry) : Type 0 where
  pub start : u.start ≡ s.start
  pub opening : u.opening ≡ s.opening
  pub vars : u.vars ≡ s.vars
  pub ring : u.ring ≡ s.ring
  pub rings : u.rings ≡ s.rings
  pub depth : u.depth ≡ s.depth
  pub shared : u.shared ≡ s.shared
  pub polled : u.polled ≡ s.polled
  pub polls : u.polls ≡ s.polls
  pub polls_after : u.polls_after ≡ s.polls_after
  pub caught_up : min s.caught_up (2 ^ 64 - 1) ≤ u.caught_up
  pub taken : u.taken ≡ s.taken
  pub tickets : tickets_of u ≡ tickets_of s
  pub home : u.home ≡ s.home
  pub hinted : u.hinted ≡ s.hinted
  pub given : u.given ≡ s.given
  pub looks : u.looks ≡ s.looks
  pub stop : u.stop ≡ s.stop
  pub mine : u.mine ≡ s.mine ++ e ∷ []

added_behind : (s m : PortState) (lits : List Literal) (glue : ℕ) (d : Cref) (w : AddedClause s m lits glue Derive d) → Behind s m (entry_of s w.number lits Derive w.hints)
added_behind s m lits glue d w = record {
  start = ap (λ (x : PortState). x.start) w.state;
  opening = ap (λ (x : PortState). x.opening) w.state;
  vars = ap (λ (x : PortState). x.vars) w.state;
  ring = ap (λ (x : PortState). x.ring) w.state;
  rings = ap (λ (x : PortState). x.rings) w.state;
  depth = ap (λ (x : PortState). x.depth) w.state;
  shared = ap (λ (x : PortState). x.shared) w.state;
  polled = ap (λ (x : PortState). x.polled) w.state;
  polls = ap (λ (x : PortState). x.polls) w.state;
  polls_after = ap (λ (x : PortState). x.polls_after) w.state;
  caught_up = (let same = ap (λ (x : PortState). x.caught_up) w.state in omega (arith, same));
  taken = ap (λ (x : PortState). x.taken) w.state;
  tickets = ap tickets_of w.state;
  home = ap (λ (x : PortState). x.home) w.state;
  hinted = ap (λ (x : PortState). x.hinted) w.state;
  given = ap (λ (x : PortState). x.given) w.state;
  looks = ap (λ (x : PortState). x.looks) w.state;
  stop = ap (λ (x : PortState). x.stop) w.state;
  mine = ap (λ (x : PortState). x.mine) w.state;
}

unit_behind : (s m : PortState) (l : Literal) (last : Option ℕ) (w : WroteUnit s m l UnitLine last) → Behind s m (entry_of s w.number (l ∷ []) UnitLine w.hints)
unit_behind s m l last w = record {
  start = ap (λ (x : PortState). x.start) w.state;
  opening = ap (λ (x : PortState). x.opening) w.state;
  vars = ap (λ (x : PortState). x.vars) w.state;
  ring = ap (λ (x : PortState). x.ring) w.state;
  rings = ap (λ (x : PortState). x.rings) w.state;
  depth = ap (λ (x : PortState). x.depth) w.state;
  shared = ap (λ (x : PortState). x.shared) w.state;
  polled = ap (λ (x : PortState). x.polled) w.state;
  polls = ap (λ (x : PortState). x.polls) w.state;
  polls_after = ap (λ (x : PortState). x.polls_after) w.state;
  caught_up = omega (arith, w.looked);
  taken = ap (λ (x : PortState). x.taken) w.state;
  tickets = ap tickets_of w.state;
  home = ap (λ (x : PortState). x.home) w.state;
  hinted = ap (λ (x : PortState). x.hinted) w.state;
  given = ap (λ (x : PortState). x.given) w.state;
  looks = ap (λ (x : PortState). x.looks) w.state;
  stop = ap (λ (x : PortState). x.stop) w.state;
  mine = ap (λ (x : PortState). x.mine) w.state;
}

dropped_behind : (s m u : PortState) (e : Entry) (a : ℕ) → Behind s m e → DroppedOnce m u a → Behind s u e
dropped_behind s m u e a b w = record {
  start = ap (λ (x : PortState). x.start) w.state ∙ b.start;
  opening = ap (λ (x : PortState). x.opening) w.state ∙ b.opening;
  vars = ap (λ (x : PortState). x.vars) w.state ∙ b.vars;
  ring = ap (λ (x : PortState). x.ring) w.state ∙ b.ring;
  rings = ap (λ (x : PortState). x.rings) w.state ∙ b.rings;
  depth = ap (λ (x : PortState). x.depth) w.state ∙ b.depth;
  shared = ap (λ (x : PortState). x.shared) w.state ∙ b.shared;
  polled = ap (λ (x : PortState). x.polled) w.state ∙ b.polled;
  polls = ap (λ (x : PortState). x.polls) w.state ∙ b.polls;
  polls_after = ap (λ (x : PortState). x.polls_after) w.state ∙ b.polls_after;
  caught_up = (let same = ap (λ (x : PortState). x.caught_up) w.state in omega (arith, same, b.caught_up));
  taken = ap (λ (x : PortState). x.taken) w.state ∙ b.taken;
  tickets = ap tickets_of w.state ∙ b.tickets;
  home = ap (λ (x : PortState). x.home) w.state ∙ b.home;
  hinted = ap (λ (x : PortState). x.hinted) w.state ∙ b.hinted;
  given = ap (λ (x : PortState). x.given) w.state ∙ b.given;
  looks = ap (λ (x : PortState). x.looks) w.state ∙ b.looks;
  stop = ap (λ (x : PortState). x.stop) w.state ∙ b.stop;
  mine = ap (λ (x : PortState). x.mine) w.state ∙ b.mine;
}

same_behind : (s m u : PortState) (e : Entry) → Behind s m e → Unchanged m u → Behind s u e
same_behind s m u e b q = record {
  start = q.start ∙ b.start;
  opening = q.opening ∙ b.opening;
  vars = q.vars ∙ b.vars;
  ring = q.ring ∙ b.ring;
  rings = q.rings ∙ b.rings;
  depth = q.depth ∙ b.depth;
  shared = q.shared ∙ b.shared;
  polled = q.polled ∙ b.polled;
  polls = q.polls ∙ b.polls;
  polls_after = q.polls_after ∙ b.polls_after;
  caught_up = omega (arith, b.caught_up, q.caught_up);
  taken = q.taken ∙ b.taken;
  tickets = q.tickets ∙ b.tickets;
  home = q.home ∙ b.home;
  hinted = q.hinted ∙ b.hinted;
  given = q.given ∙ b.given;
  looks = q.looks ∙ b.looks;
  stop = q.stop ∙ b.stop;
  mine = q.mine ∙ b.mine;
}

behind_stays : (s u : PortState) (e : Entry) → Behind s u e → KeepsLog s u → Stays s u
behind_stays s u e b log = record {
  start = b.start;
  opening = b.opening;
  vars = b.vars;
  ring = b.ring;
  rings = b.rings;
  depth = b.depth;
  polled = omega (arith, b.polled);
  limit = limit_same s u b.tickets;
  home = b.home;
  hinted = b.hinted;
  log = log;
}

behind_nothing : (s u : PortState) (x : Addition) → Behind s u (Rattle.rup_model.specs.declared.journal.Entry.TheVariants.Add x) → is_learn x.kind ≡ false → OffersNothing s u
behind_nothing s u x b other = record {
  shared = b.shared;
  polled = b.polled;
  polls = b.polls;
  polls_after = b.polls_after;
  caught_up = b.caught_up;
  ring = b.ring;
  rings = b.rings;
  depth = b.depth;
  found = found_same s u b.tickets;
  lemmas = ap (λ (r : ℕ). learned r u.mine) b.ring ∙ ap (learned s.ring) b.mine ∙ learned-append s.ring s.mine (Rattle.rup_model.specs.declared.journal.Entry.TheVariants.Add x ∷ [])
      ∙ ap (λ (cs : List (List Literal)). learned s.ring s.mine ++ cs) (none_learned s.ring x other) ∙ append-nil (learned s.ring s.mine);
}

-- What is held

module _ (s u : PortState) (c : Cref) (others : (a : ℕ) → a ≢ c.address → IsSome (held_at s a) → held_at u a ≡ held_at s a) (apart : (h : Holding) → Contains s.start h → c.address ≢ h.address) where
  pub starts_left : u.start ≡ s.start → HoldsStart s → HoldsStart u
  starts_left same held = subst (All (λ (h : Holding). held_at u h.address ≡ Some h)) (sym same)
      (In_All (λ (h : Holding). held_at u h.address ≡ Some h) s.start (λ h m. (
      let is : held_at s h.address ≡ Some h = All_In (λ (k : Holding). held_at s k.address ≡ Some k) s.start h held m in
      others h.address (λ e. apart h (In_Contains s.start h m) (sym e)) (subst (λ (o : Option Holding). IsSome o) (sym is) refl) ∙ is)))

dropped_less : (m u : PortState) (a : ℕ) → DroppedOnce m u a → (h : Holding) → Contains u.held h → Contains m.held h
dropped_less m u a w h there =
    In_Contains m.held h (less_one m.held a h (subst (λ (hs : List Holding). In h hs) (ap (λ (x : PortState). x.held) w.state) (Contains_In u.held h there)))

derived_glued : (s m : PortState) (lits : List Literal) (old : ℕ) (d : Cref) → AddedClause s m lits (min old (length lits - 1)) Derive d → 1 ≤ old → AddsGlued s m
derived_glued s m lits old d w some h there =
    let x : Holding = holding_of d w.number (min old (length lits - 1)) lits in
    let is : m.held ≡ s.held ++ x ∷ [] = ap (λ (y : PortState). y.held) w.state in
    let long = w.long in
    elim (In_append s.held (x ∷ []) h (Contains_In (s.held ++ x ∷ []) h (subst (λ (hs : List Holding). Contains hs h) is there))) as (λ _. Contains s.held h ⊎ IsGlued h) [
      | inl old_one ↦ inl (In_Contains s.held h old_one)
      | inr (inl e) ↦ inr (subst IsGlued e (record { some = omega (arith, long, some); few = omega (arith, long, some) }))
      | inr (inr none) ↦ absurd none
    ]

-- The run

pub left_clause : (s : PortState) (v : WatchData) (steps : List TrailStep) (c : Cref) → IsPort s → IsSome (held_at s c.address) → IsClause s.vars (left_at s (attached v) steps c.address)
left_clause s v steps c port held =
    let G = others s (attached v) c.address steps in
    part_clause s c.address (left_at s (attached v) steps c.address) port held (left_part G (lits_at s c.address)) (λ d. left_distinct G (lits_at s c.address) d)

-- a shorter clause was derived
derived_runs : (start s u : PortState) (n number : ℕ) (lits : List Literal) (hints : List ℕ) → GoesOn start s n → Behind s u (entry_of s number lits Derive hints) → KeepsLog s u → HoldsStart u → IsClause s.vars lits → 2 ≤ length lits → (1 ≤ reductions s.ring s.mine) × (recent s.ring s.mine ≡ []) → AddsGlued s u → IsPort u → Runs start u n
derived_runs start s u n number lits hints p b log held clause long time glued port =
    let x : Addition = record { ring = s.ring; number = number; lits = lits; kind = Derive; hints = hints } in
    runs_entry start s u n n (entry_of s number lits Derive hints) p.runs (behind_stays s u (entry_of s number lits Derive hints) b log) held b.mine
    (p.runs.stays.ring, subst (λ (v : ℕ). All (IsOn v) lits) p.runs.stays.vars clause.on, inr long)
    (omega (arith, not_learned s.ring x refl)) (λ learns. absurd (false≢true learns)) b.given (λ is_line. absurd (false≢true is_line)) (λ two. time) glued (lately_none u (recent_other s u number lits Derive hints refl b.ring b.mine ∙ time.1)) port

-- the line of a unit was written
unit_runs : (start s u : PortState) (n number : ℕ) (l : Literal) (hints : List ℕ) → GoesOn start s n → Behind s u (entry_of s number (l ∷ []) UnitLine hints) → KeepsLog s u → HoldsStart u → IsOn s.vars l → UnitsSeen s → has s.seen l ≡ false → recent s.ring s.mine ≡ [] → AddsGlued s u → IsPort u → Runs start u n
unit_runs start s u n number l hints p b log held on units unseen none glued port =
    let x : Addition = record { ring = s.ring; number = number; lits = l ∷ []; kind = UnitLine; hints = hints } in
    runs_entry start s u n n (entry_of s number (l ∷ []) UnitLine hints) p.runs (behind_stays s u (entry_of s number (l ∷ []) UnitLine hints) b log) held b.mine
    (p.runs.stays.ring, subst (λ (v : ℕ). All (IsOn v) (l ∷ [])) p.runs.stays.vars (All-cons (IsOn s.vars) l [] on (All-nil (IsOn s.vars))), refl)
    (omega (arith, not_learned s.ring x refl)) (λ learns. absurd (false≢true learns)) b.given (new_line s l number hints units p.runs.port unseen) tt glued (lately_none u (recent_other s u number (l ∷ []) UnitLine hints refl b.ring b.mine ∙ none)) port

module _ (s u : PortState) (v : WatchData) (steps : List TrailStep) (c : Cref) (port : IsPort s) (held : IsSome (held_at s c.address)) (some : 1 ≤ glue_at s c.address)
    (time : (1 ≤ reductions s.ring s.mine) × (recent s.ring s.mine ≡ []))
    (others : (a : ℕ) → a ≢ c.address → IsSome (held_at s a) → held_at u a ≡ held_at s a) (apart : (h : Holding) → Contains s.start h → c.address ≢ h.address) (log : KeepsLog s u) (port_then : IsPort u) where
  abbrev left : List Literal
  left = left_at s (attached v) steps c.address

  pub shorter_behind : (w : WatchData) (d : Cref) (z : WasShortened s u v w steps c d) → Behind s u (entry_of s z.derived.number left Derive z.derived.hints)
  shorter_behind w d z = dropped_behind s z.middle u (entry_of s z.derived.number left Derive z.derived.hints) c.address (added_behind s z.middle left (min (glue_at s c.address) (length left - 1)) d z.derived) z.dropped

  pub shorter_keeps : (w : WatchData) (d : Cref) → WasShortened s u v w steps c d → KeepsOn s u
  shorter_keeps w d z start n p =
      let e : Entry = entry_of s z.derived.number left Derive z.derived.hints in
      let b = shorter_behind w d z in
      let starts = starts_left s u c others apart b.start p.held in
      record {
        runs = derived_runs start s u n z.derived.number left z.derived.hints p b log starts (left_clause s v steps c port held) z.derived.long time
            (λ h there. derived_glued s z.middle left (glue_at s c.address) d z.derived some h (dropped_less z.middle u c.address z.dropped h there)) port_then;
        draws = draws_same s u n b.tickets p.draws;
        going = going_more s u e b.mine p.going (some_literal left (omega (arith, z.derived.long)));
        stop = b.stop ∙ p.stop;
        refused = ap (λ (x : PortState). x.refused) z.dropped.state ∙ ap (λ (x : PortState). x.refused) z.derived.state ∙ p.refused;
        held = starts;
      }

  pub became_behind : (w : WatchData) (l : Literal) (z : BecameUnit s u v w steps c l) → Behind s u (entry_of s z.wrote.number (l ∷ []) UnitLine z.wrote.hints)
  became_behind w l z = dropped_behind s z.middle u (entry_of s z.wrote.number (l ∷ []) UnitLine z.wrote.hints) c.address (unit_behind s z.middle l s.last z.wrote) z.dropped

  pub unit_on : (l : Literal) → left ≡ l ∷ [] → IsOn s.vars l
  unit_on l is = subst (All (IsOn s.vars)) is (left_clause s v steps c port held).on 0 l (omega arith)

  unit_glued : (m : PortState) (l : Literal) → WroteUnit s m l UnitLine s.last → (h : Holding) → Contains m.held h → Contains s.held h ⊎ IsGlued h
  unit_glued m l w h there = inl (subst (λ (hs : List Holding). Contains hs h) (ap (λ (x : PortState). x.held) w.state) there)

  pub became_keeps : (w : WatchData) (l : Literal) → BecameUnit s u v w steps c l → UnitsSeen s → has s.seen l ≡ false → KeepsOn s u
  became_keeps w l z units unseen start n p =
      let e : Entry = entry_of s z.wrote.number (l ∷ []) UnitLine z.wrote.hints in
      let b = became_behind w l z in
      let starts = starts_left s u c others apart b.start p.held in
      record {
        runs = unit_runs start s u n z.wrote.number l z.wrote.hints p b log starts (unit_on l z.left) units unseen time.1
            (λ h there. unit_glued z.middle l z.wrote h (dropped_less z.middle u c.address z.dropped h there)) port_then;
        draws = draws_same s u n b.tickets p.draws;
        going = going_more s u e b.mine p.going refl;
        stop = b.stop ∙ p.stop;
        refused = ap (λ (x : PortState). x.refused) z.dropped.state ∙ ap (λ (x : PortState). x.refused) z.wrote.state ∙ p.refused;
        held = starts;
      }

  -- a call of the port was refused
  module _ (stop : PortStop) (units : UnitsSeen s) (unseen : (l : Literal) → left ≡ l ∷ [] → has s.seen l ≡ false) where
    refused_same : (m : PortState) → Refused m u stop → Unchanged m u
    refused_same m r = subst (Unchanged m) (sym r.state) (same_refused m u.output stop)

    pub cut_ends : WasCutShort s u v steps c stop → EndsAt s u (end_refused stop)
    cut_ends z = by z.middle z.before z.refused
      where
        by : (m : PortState) → (m ≡ s) ⊎ WroteLeft s m v steps c → Refused m u stop → EndsAt s u (end_refused stop)
        by m (inl is) r n start p = refused_ends start s u n stop p (subst (λ (x : PortState). Refused x u stop) is r) log port_then
        by m (inr (inl k)) r n start p =
            let same = refused_same m r in
            let first = added_behind s m left (min (glue_at s c.address) (length left - 1)) k.0 k.1 in
            let e : Entry = entry_of s k.1.number left Derive k.1.hints in
            let b = same_behind s m u e first same in
            record {
              runs = derived_runs start s u n k.1.number left k.1.hints p b log (starts_left s u c others apart b.start p.held) (left_clause s v steps c port held) k.1.long time
                  (λ h there. derived_glued s m left (glue_at s c.address) k.0 k.1 some h (subst (λ (hs : List Holding). Contains hs h) same.held there)) port_then;
              cause = subst (λ (x : PortState). Cause x (end_refused stop)) (sym r.state) (refused_cause m u.output stop r.reason (usable_none m (ap (λ (x : PortState). x.refused) k.1.state ∙ p.refused))
                  (going_more s m e first.mine p.going (some_literal left (omega (arith, k.1.long)))));
              unset = unset u (end_refused stop) (b.stop ∙ p.stop);
              tickets = tickets_refused u stop (draws_same s u n b.tickets p.draws).left;
              drawn = drawn_none u n (draws_same s u n b.tickets p.draws);
            }
        by m (inr (inr k)) r n start p =
            let same = refused_same m r in
            let l = k.0 in
            let w = k.2 in
            let first = unit_behind s m l s.last w in
            let e : Entry = entry_of s w.number (l ∷ []) UnitLine w.hints in
            let b = same_behind s m u e first same in
            record {
              runs = unit_runs start s u n w.number l w.hints p b log (starts_left s u c others apart b.start p.held) (unit_on l k.1) units (unseen l k.1) time.1
                  (λ h there. unit_glued m l w h (subst (λ (hs : List Holding). Contains hs h) same.held there)) port_then;
              cause = subst (λ (x : PortState). Cause x (end_refused stop)) (sym r.state) (refused_cause m u.output stop r.reason (usable_none m (ap (λ (x : PortState). x.refused) w.state ∙ p.refused))
                  (going_more s m e first.mine p.going refl));
              unset = unset u (end_refused stop) (b.stop ∙ p.stop);
              tickets = tickets_refused u stop (draws_same s u n b.tickets p.draws).left;
              drawn = drawn_none u n (draws_same s u n b.tickets p.draws);
            }

    -- and nothing was learned or looked for
    pub cut_nothing : WasCutShort s u v steps c stop → OffersNothing s u × (u.looks ≡ s.looks) × (u.start ≡ s.start)
    cut_nothing z = by z.middle z.before z.refused
      where
        by : (m : PortState) → (m ≡ s) ⊎ WroteLeft s m v steps c → Refused m u stop → OffersNothing s u × (u.looks ≡ s.looks) × (u.start ≡ s.start)
        by m (inl is) r =
            let same = refused_same m r in (
              subst (λ (x : PortState). OffersNothing x u) is (record {
                shared = same.shared;
                polled = same.polled;
                polls = same.polls;
                polls_after = same.polls_after;
                caught_up = omega (arith, same.caught_up);
                ring = same.ring;
                rings = same.rings;
                depth = same.depth;
                found = found_same m u same.tickets;
                lemmas = ap (λ (q : ℕ). learned q u.mine) same.ring ∙ ap (learned m.ring) same.mine;
              }),
              same.looks ∙ ap (λ (x : PortState). x.looks) is,
              same.start ∙ ap (λ (x : PortState). x.start) is,
            )
        by m (inr (inl k)) r =
            let b = same_behind s m u (entry_of s k.1.number left Derive k.1.hints) (added_behind s m left (min (glue_at s c.address) (length left - 1)) k.0 k.1) (refused_same m r) in
            (behind_nothing s u (record { ring = s.ring; number = k.1.number; lits = left; kind = Derive; hints = k.1.hints }) b refl, b.looks, b.start)
        by m (inr (inr k)) r =
            let b = same_behind s m u (entry_of s k.2.number (k.0 ∷ []) UnitLine k.2.hints) (unit_behind s m k.0 s.last k.2) (refused_same m r) in
            (behind_nothing s u (record { ring = s.ring; number = k.2.number; lits = k.0 ∷ []; kind = UnitLine; hints = k.2.hints }) b refl, b.looks, b.start)

pub shorter_nothing : (s u : PortState) (lits : List Literal) (number : ℕ) (hints : List ℕ) → Behind s u (entry_of s number lits Derive hints) → OffersNothing s u
shorter_nothing s u lits number hints b = behind_nothing s u (record { ring = s.ring; number = number; lits = lits; kind = Derive; hints = hints }) b refl

pub became_nothing : (s u : PortState) (l : Literal) (number : ℕ) (hints : List ℕ) → Behind s u (entry_of s number (l ∷ []) UnitLine hints) → OffersNothing s u
became_nothing s u l number hints b = behind_nothing s u (record { ring = s.ring; number = number; lits = l ∷ []; kind = UnitLine; hints = hints }) b refl
