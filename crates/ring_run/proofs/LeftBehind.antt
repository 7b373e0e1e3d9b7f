-- What vivification of a lemma leaves of a ring that rests.
use Rattle.std.proofs.Common.{◌≡◌, ◌≢◌, ◌∙◌, ℕ, ◌-◌, ◌≤◌, min, true, false, List, [], ◌∷◌, ◌++◌, length, sym, subst, ap, arith, refl, inl, Contains, IsSome, Some, None, append-nil}
use Rattle.std.specs.Option.{option_map_or}
use Rattle.std.specs.declared.option.Option.{Option}
use Rattle.sat_words.specs.Literal.{Literal}
use Rattle.sat_words.specs.Clause.{has, includes}
use Rattle.sat_words.specs.declared.shared.Cref.{Cref}
use Rattle.rup_model.specs.declared.journal.Kind.TheVariants.{Derive, UnitLine}
use Rattle.rup_model.specs.Journal.{recent}
use Rattle.rup_model.proofs.Lists.{In, all_In}
use Rattle.ring_port.specs.PortState.{PortState, Holding, IsPort, IsOn, held_at, lits_at}
use Rattle.ring_port.specs.Port.{Sees, holding_of}
use Rattle.ring_port.specs.Log.{KeepsLog}
use Rattle.ring_port.specs.declared.stops.PortStop.{PortStop}
use Rattle.ring_port.proofs.PlainLemmas.{dropped_others}
use Rattle.ring_trail.specs.declared.step.TrailStep.{TrailStep}
use Rattle.ring_trail.specs.TrailData.{TrailData, IsTrail, IsTrueOn, IsFalseOn, assigned}
use Rattle.watch_prop.specs.WatchData.{WatchData, attached, without}
use Rattle.watch_prop.specs.Watched.{Watched}
use Rattle.watch_prop.specs.Propagation.{HasReasons, IsQuiet}
use Rattle.vivify.specs.Walk.{others}
use Rattle.vivify.specs.Outcome.{left_at, glue_at, IsVivified, WasCutShort}
use Rattle.vivify.specs.declared.shorten.Vivified.{Vivified}
use Rattle.vivify.specs.declared.shorten.Vivified.TheVariants.{Kept, Shorter, Unit, Empty}
use Rattle.vivify.proofs.Parts.{left_part}
use Rattle.ring_run.specs.Searching.{KeepsOn, OffersNothing, HasClauses}
use Rattle.ring_run.specs.Ending.{EndsAt, end_refused}
use Rattle.ring_run.specs.Course.{Searches, numbers}
use Rattle.ring_run.specs.Renewal.{Point, point, IsNamed, WentOn, IsResting, LeftBehind, MayVivify, KeepsOthers, IsLeft}
use Rattle.ring_run.specs.declared.ring.Ring.{Ring}
use Rattle.ring_run.proofs.Offering.{nothing_none}
use Rattle.ring_run.proofs.Progress.{recent_other}
use Rattle.ring_run.proofs.Remembering.{added_seen, held_same}
use Rattle.ring_run.proofs.Resting.{held_member, seen_units, unseen_open, no_place, others_stay, left_member, clauses_left, derived_units, search_left, search_unit}
use Rattle.ring_run.proofs.Shortened.{shorter_behind, shorter_keeps, became_behind, became_keeps, unit_on, left_clause, cut_ends, cut_nothing, shorter_nothing, became_nothing}
use Rattle.ring_run.specs.declared.vivification.AfterVivify.{AfterVivify}
use Rattle.ring_run.specs.declared.vivification.AfterVivify.TheVariants.{Unchanged}
use Rattle.ring_run.specs.Ended.{reductions}
use Rattle.ring_run.proofs.Numbering.{grown_none, grown_then, reductions_other, glue_kept, numbers_added}
use Rattle.rup_model.specs.declared.journal.Addition.{Addition}
use Rattle.rup_model.specs.declared.journal.Entry.TheVariants.{Add}

none_both : (o : Option Holding) → IsSome o → o ≡ None → ⊥
none_both None h e = absurd cc
none_both (Some x) h e = absurd cc

module _ (s m : PortState) (ring mid : Ring) (c : Cref) (p : IsResting s ring) (may : MayVivify s ring.watches c) (named : IsNamed (point s ring) c)
    (stay : (a : ℕ) → a ≢ c.address → IsSome (held_at s a) → held_at m a ≡ held_at s a) (log : KeepsLog s m) (port : IsPort m) where
  held : IsSome (held_at s c.address)
  held = held_member s ring c p may.member

  abbrev left_lits : List Literal
  left_lits = left_at s (attached ring.watches) ring.trail.steps c.address

  -- a literal that is left is the lemma's, so it isn't true
  pub left_open : (l : Literal) → left_lits ≡ l ∷ [] → IsTrueOn ring.trail.steps l → ⊥
  left_open l is =
      let part : includes (lits_at s c.address) left_lits ≡ true = left_part (others s (attached ring.watches) c.address ring.trail.steps) (lits_at s c.address) in
      let inside : In l left_lits = subst (In l) (sym is) (inl refl) in
      named.none_true l (all_In (has (lits_at s c.address)) left_lits l part inside)

  pub left_unseen : (l : Literal) → left_lits ≡ l ∷ [] → has s.seen l ≡ false
  left_unseen l is = unseen_open s ring l p (left_open l is)

  pub cut_over : (stop : PortStop) → WasCutShort s m ring.watches ring.trail.steps c stop → EndsAt s m (end_refused stop)
  cut_over stop z = cut_ends s m ring.watches ring.trail.steps c p.search.clauses.port held may.glued (p.reduced, p.lately) stay may.apart log port stop (seen_units s ring p) left_unseen z

  pub cut_rest : (stop : PortStop) → WasCutShort s m ring.watches ring.trail.steps c stop → OffersNothing s m × (m.looks ≡ s.looks) × (m.start ≡ s.start)
  cut_rest stop z = cut_nothing s m ring.watches ring.trail.steps c p.search.clauses.port held may.glued (p.reduced, p.lately) stay may.apart log port stop (seen_units s ring p) left_unseen z

  pub left_keeps : (left : Vivified) → IsVivified s m ring.watches mid.watches ring.trail.steps c left → KeepsOn s m
  left_keeps Kept z = λ start n q. subst (λ (x : PortState). Rattle.ring_run.specs.Searching.GoesOn start x n) (sym z.state) q
  left_keeps (Shorter d) z = shorter_keeps s m ring.watches ring.trail.steps c p.search.clauses.port held may.glued (p.reduced, p.lately) stay may.apart log port mid.watches d z
  left_keeps (Unit l) z = became_keeps s m ring.watches ring.trail.steps c p.search.clauses.port held may.glued (p.reduced, p.lately) stay may.apart log port mid.watches l z (seen_units s ring p) (left_unseen l z.left)
  left_keeps Empty z = absurd z

  pub left_rest : (left : Vivified) → IsVivified s m ring.watches mid.watches ring.trail.steps c left → OffersNothing s m × (m.looks ≡ s.looks) × (m.start ≡ s.start)
  left_rest Kept z = (subst (OffersNothing s) (sym z.state) (nothing_none s), ap (λ (x : PortState). x.looks) z.state, ap (λ (x : PortState). x.start) z.state)
  left_rest (Shorter d) z =
      let b = shorter_behind s m ring.watches ring.trail.steps c p.search.clauses.port held may.glued (p.reduced, p.lately) stay may.apart log port mid.watches d z in
      (shorter_nothing s m left_lits z.derived.number z.derived.hints b, b.looks, b.start)
  left_rest (Unit l) z =
      let b = became_behind s m ring.watches ring.trail.steps c p.search.clauses.port held may.glued (p.reduced, p.lately) stay may.apart log port mid.watches l z in
      (became_nothing s m l z.wrote.number z.wrote.hints b, b.looks, b.start)
  left_rest Empty z = absurd z

  module _ (trail : mid.trail ≡ ring.trail) (written : mid.written ≡ ring.written) (watched : Watched mid.watches (lits_at m) mid.trail) (reasons : HasReasons (attached mid.watches) m mid.trail.steps) (quiet : IsQuiet mid.watches (lits_at m) mid.trail) where
    watched_then : Watched mid.watches (lits_at m) ring.trail
    watched_then = subst (Watched mid.watches (lits_at m)) trail watched

    reasons_then : HasReasons (attached mid.watches) m ring.trail.steps
    reasons_then = subst (λ (t : TrailData). HasReasons (attached mid.watches) m t.steps) trail reasons

    -- a search after a clause that stands yet
    rests_again : Searches m ring.trail mid.watches ring.written → reductions m.ring m.mine ≡ reductions s.ring s.mine → recent m.ring m.mine ≡ [] → m.taken ≡ [] → IsResting m mid
    rests_again search reduced lately none = record {
      reduced = omega (arith, reduced, p.reduced);
      search = subst (λ (t : TrailData). Searches m t mid.watches mid.written) (sym trail) (subst (Searches m ring.trail mid.watches) (sym written) search);
      level = ap (λ (t : TrailData). t.level) trail ∙ p.level;
      quiet = quiet;
      whole = written ∙ p.whole ∙ ap (λ (t : TrailData). length t.steps) (sym trail);
      lately = lately;
      none_taken = none;
    }

    pub left_behind : (left : Vivified) → IsVivified s m ring.watches mid.watches ring.trail.steps c left → ((l : Literal) → left ≡ Unit l → IsFalseOn ring.trail.steps l → ⊥) → LeftBehind m mid left
    left_behind Kept z open_unit =
        let same : m ≡ s = z.state in
        let clauses : HasClauses m (attached mid.watches) = subst (λ (x : PortState). HasClauses x (attached mid.watches)) (sym same) (subst (HasClauses s) (sym z.attached_now) p.search.clauses) in
        rests_again
        (search_left s m ring.trail ring.watches mid.watches ring.written p.search p.level clauses watched_then reasons_then (ap (λ (x : PortState). x.vars) same) (ap (λ (x : PortState). x.opening) same) (ap (λ (x : PortState). x.seen) same))
        (ap (λ (x : PortState). reductions x.ring x.mine) same) (ap (λ (x : PortState). recent x.ring x.mine) same ∙ p.lately) (ap (λ (x : PortState). x.taken) same ∙ p.none_taken)
    left_behind (Shorter d) z open_unit =
        let b = shorter_behind s m ring.watches ring.trail.steps c p.search.clauses.port held may.glued (p.reduced, p.lately) stay may.apart log port mid.watches d z in
        let lits = left_lits in
        let seen : m.seen ≡ s.seen = ap (λ (x : PortState). x.seen) z.dropped.state ∙ ap (λ (x : PortState). x.seen) z.derived.state in
        let apart : d.address ≢ c.address = λ e. none_both (held_at s d.address) (subst (λ (a : ℕ). IsSome (held_at s a)) (sym e) held) z.derived.free.not_held in
        let there : IsSome (held_at m d.address) = subst (λ (o : Option Holding). IsSome o) (sym (dropped_others z.middle m c.address d.address z.dropped apart ∙ z.derived.there)) refl in
        let lately : recent m.ring m.mine ≡ [] = recent_other s m z.derived.number lits Derive z.derived.hints refl b.ring b.mine ∙ p.lately in
        let none : m.taken ≡ [] = b.taken ∙ p.none_taken in
        let refused : m.refused ≡ s.refused = ap (λ (x : PortState). x.refused) z.dropped.state ∙ ap (λ (x : PortState). x.refused) z.derived.state in
        let distinct = (left_clause s ring.watches ring.trail.steps c p.search.clauses.port held).distinct in
        let clauses : HasClauses m (attached mid.watches) = clauses_left s m ring.watches mid.watches c (Some d) c z.attached_now p.search.clauses stay may.apart there b.start lately none
        (derived_units s m lits z.derived.number z.derived.hints b z.derived.long distinct seen p.search.clauses.own.units) refused b.stop port in
        rests_again (search_left s m ring.trail ring.watches mid.watches ring.written p.search p.level clauses watched_then reasons_then b.vars b.opening seen)
        (reductions_other s m (record { ring = s.ring; number = z.derived.number; lits = lits; kind = Derive; hints = z.derived.hints }) b.ring b.mine) lately none
    left_behind (Unit l) z open_unit =
        let b = became_behind s m ring.watches ring.trail.steps c p.search.clauses.port held may.glued (p.reduced, p.lately) stay may.apart log port mid.watches l z in
        let dropped_seen : m.seen ≡ z.middle.seen = ap (λ (x : PortState). x.seen) z.dropped.state in
        let sees : Sees s.seen m.seen l = λ k. ap (λ (ls : List Literal). has ls k) dropped_seen ∙ z.wrote.sees k in
        let lately : recent m.ring m.mine ≡ [] = recent_other s m z.wrote.number (l ∷ []) UnitLine z.wrote.hints refl b.ring b.mine ∙ p.lately in
        let none : m.taken ≡ [] = b.taken ∙ p.none_taken in
        let refused : m.refused ≡ s.refused = ap (λ (x : PortState). x.refused) z.dropped.state ∙ ap (λ (x : PortState). x.refused) z.wrote.state in
        let units : (k : Literal) → Rattle.rup_model.specs.Opening.adds_unit m.ring m.mine k ≡ true → has m.seen k ≡ true = λ k h.
        ap (λ (ls : List Literal). has ls k) dropped_seen
        ∙ added_seen s z.middle l UnitLine s.last z.wrote p.search.clauses.own.units k (sym (ap (λ (x : PortState). Rattle.rup_model.specs.Opening.adds_unit x.ring x.mine k) z.dropped.state) ∙ h) in
        let is : attached mid.watches ≡ without (attached ring.watches) c.address ++ [] = z.attached_now ∙ sym (append-nil (without (attached ring.watches) c.address)) in
        let clauses : HasClauses m (attached mid.watches) = clauses_left s m ring.watches mid.watches c None c is p.search.clauses stay may.apart tt b.start lately none units refused b.stop port in
        let free = no_place ring.trail.steps l (left_open l z.left) (open_unit l refl) in
        let on : IsOn s.vars l = unit_on s m ring.watches ring.trail.steps c p.search.clauses.port held may.glued (p.reduced, p.lately) stay may.apart log port l z.left in
        let reduced = reductions_other s m (record { ring = s.ring; number = z.wrote.number; lits = l ∷ []; kind = UnitLine; hints = z.wrote.hints }) b.ring b.mine in
        record {
          reduced = omega (arith, reduced, p.reduced);
          search = λ shape. (
              let here : IsTrail (assigned ring.trail l None) = subst (λ (t : TrailData). IsTrail (assigned t l None)) trail shape in
              subst (λ (t : TrailData). Searches m (assigned t l None) mid.watches mid.written) (sym trail) (subst (Searches m (assigned ring.trail l None) mid.watches) (sym written)
              (search_unit s m ring.trail ring.watches mid.watches ring.written p.search p.level clauses watched_then reasons_then b.vars b.opening l sees free here)));
          level = ap (λ (t : TrailData). t.level) trail ∙ p.level;
          high = (let vars = ap (λ (t : TrailData). t.vars) trail in let high = on.high in let same = p.search.stands.vars in omega (arith, high, vars, same));
          free = subst (λ (t : TrailData). Rattle.ring_trail.specs.TrailData.HasNoPlace t.steps l.var) (sym trail) free;
          lately = lately;
          none_taken = none;
        }
    left_behind Empty z open_unit = absurd z

  -- the others stay
  pub left_others : (u : PortState) (new : Ring) (left : Vivified) (o : AfterVivify) → IsVivified s m ring.watches mid.watches ring.trail.steps c left → WentOn (point m mid) (point u new) left o → KeepsOthers s u ring.watches new.watches c
  left_others u new Kept o z w =
      let now : attached new.watches ≡ attached ring.watches = ap (λ (x : Point). attached x.watches) w.0 ∙ z.attached_now in
      let is : u ≡ s = ap (λ (x : Point). x.port) w.0 ∙ z.state in
      record {
        others = λ d there ne. subst (λ (cs : List Cref). Contains cs d) (sym now) there;
        held = λ a ne some. ap (λ (x : PortState). held_at x a) is;
        grown = grown_none s u (ap (λ (x : PortState). x.mine) is);
        noted = ap (λ (x : PortState). reductions x.ring x.mine) is;
      }
  left_others u new (Shorter d) o z w =
      let now : attached new.watches ≡ without (attached ring.watches) c.address ++ d ∷ [] = ap (λ (x : Point). attached x.watches) w.0 ∙ z.attached_now in
      let b = shorter_behind s m ring.watches ring.trail.steps c p.search.clauses.port held may.glued (p.reduced, p.lately) stay may.apart log port mid.watches d z in
      let is : u ≡ m = ap (λ (x : Point). x.port) w.0 in
      let x : Addition = record { ring = s.ring; number = z.derived.number; lits = left_lits; kind = Derive; hints = z.derived.hints } in
      record {
        others = others_stay s m ring.watches new.watches c (Some d) c now;
        held = λ a ne some. ap (λ (y : PortState). held_at y a) is ∙ stay a ne some;
        grown = (Add x ∷ [], ap (λ (y : PortState). y.mine) is ∙ b.mine);
        noted = ap (λ (y : PortState). reductions y.ring y.mine) is ∙ reductions_other s m x b.ring b.mine;
      }
  left_others u new (Unit l) o z w =
      let now : attached new.watches ≡ without (attached ring.watches) c.address ++ [] = w.0.same_clauses ∙ z.attached_now ∙ sym (append-nil (without (attached ring.watches) c.address)) in
      let b = became_behind s m ring.watches ring.trail.steps c p.search.clauses.port held may.glued (p.reduced, p.lately) stay may.apart log port mid.watches l z in
      let x : Addition = record { ring = s.ring; number = z.wrote.number; lits = l ∷ []; kind = UnitLine; hints = z.wrote.hints } in
      record {
        others = others_stay s m ring.watches new.watches c None c now;
        held = λ a ne some. held_same m u a w.0.lines.held ∙ stay a ne some;
        grown = grown_then s m u (Add x ∷ [], b.mine) w.0.lines.grown;
        noted = w.0.lines.reduced ∙ reductions_other s m x b.ring b.mine;
      }
  left_others u new Empty o z w = absurd z

  -- and so is what is left of the lemma
  pub what_is_left : (u : PortState) (new : Ring) (left : Vivified) (o : AfterVivify) → IsVivified s m ring.watches mid.watches ring.trail.steps c left → WentOn (point m mid) (point u new) left o → IsLeft s u new.watches c o
  what_is_left u new Kept o z w =
      let now : attached new.watches ≡ attached ring.watches = ap (λ (x : Point). attached x.watches) w.0 ∙ z.attached_now in
      subst (IsLeft s u new.watches c) (sym w.1)
      (subst (λ (cs : List Cref). Contains cs c) (sym now) may.member, ap (λ (x : PortState). held_at x c.address) (ap (λ (x : Point). x.port) w.0 ∙ z.state))
  what_is_left u new (Shorter d) o z w =
      let now : attached new.watches ≡ without (attached ring.watches) c.address ++ d ∷ [] = ap (λ (x : Point). attached x.watches) w.0 ∙ z.attached_now in
      let b = shorter_behind s m ring.watches ring.trail.steps c p.search.clauses.port held may.glued (p.reduced, p.lately) stay may.apart log port mid.watches d z in
      let is : u ≡ m = ap (λ (x : Point). x.port) w.0 in
      let x : Addition = record { ring = s.ring; number = z.derived.number; lits = left_lits; kind = Derive; hints = z.derived.hints } in
      let apart : d.address ≢ c.address = λ e. none_both (held_at s d.address) (subst (λ (a : ℕ). IsSome (held_at s a)) (sym e) held) z.derived.free.not_held in
      let glue : ℕ = min (glue_at s c.address) (length left_lits - 1) in
      let there : held_at u d.address ≡ Some (holding_of d z.derived.number glue left_lits)
      = ap (λ (y : PortState). held_at y d.address) is ∙ dropped_others z.middle m c.address d.address z.dropped apart ∙ z.derived.there in
      subst (IsLeft s u new.watches c) (sym w.1) (record {
        member = left_member s m ring.watches new.watches c (Some d) c now;
        free = z.derived.free.not_held;
        glued = glue_kept (held_at u d.address) (Some (holding_of d z.derived.number glue left_lits)) there (omega (arith, may.glued, z.derived.long));
        last = numbers_added s u x (ap (λ (y : PortState). y.mine) is ∙ b.mine) ∙ ap (λ (n : ℕ). numbers s ++ n ∷ []) (sym (ap (λ (q : Option Holding). option_map_or (λ (h : Holding). h.number) q 0) there));
      })
  what_is_left u new (Unit l) o z w = subst (IsLeft s u new.watches c) (sym w.1) tt
  what_is_left u new Empty o z w = absurd z

-- nothing was done for a lemma that isn't named
pub idle_others : (s : PortState) (w : WatchData) (c : Cref) → KeepsOthers s s w w c
idle_others s w c = record { others = λ d there apart. there; held = λ a ne some. refl; grown = grown_none s s refl; noted = refl }

pub idle_left : (s : PortState) (w : WatchData) (c : Cref) → Contains (attached w) c → IsLeft s s w c Unchanged
idle_left s w c member = (member, refl)

-- the trail is as long as before, or longer
pub went_longer : (m u : PortState) (mid new : Ring) (left : Vivified) (o : AfterVivify) → WentOn (point m mid) (point u new) left o → length mid.trail.steps ≤ length new.trail.steps
went_longer m u mid new Kept o w = let same = ap (λ (x : Point). length x.trail.steps) w.0 in omega (arith, same)
went_longer m u mid new (Shorter d) o w = let same = ap (λ (x : Point). length x.trail.steps) w.0 in omega (arith, same)
went_longer m u mid new (Unit l) o w =
    let grown = w.0.grown in
    let long = ap (λ (ss : List TrailStep). length ss) grown.steps ∙ Rattle.std.proofs.Common.length-append (assigned mid.trail l None).steps grown.more in
    let one = Rattle.std.proofs.Common.length-append mid.trail.steps (record { lit = l; level = mid.trail.level; reason = None } ∷ []) in
    omega (arith, long, one)
went_longer m u mid new Empty o w = absurd w

-- nor do the start clauses change
pub went_start : (m u : PortState) (mid new : Ring) (left : Vivified) (o : AfterVivify) → WentOn (point m mid) (point u new) left o → u.start ≡ m.start
went_start m u mid new Kept o w = ap (λ (x : Point). x.port.start) w.0
went_start m u mid new (Shorter d) o w = ap (λ (x : Point). x.port.start) w.0
went_start m u mid new (Unit l) o w = w.0.lines.stays.start
went_start m u mid new Empty o w = absurd w
