-- What vivification of a clause leaves of a search at level 0.
use Rattle.std.proofs.Common.{◌≡◌, ◌≢◌, ◌∙◌, ℕ, ◌≤◌, Bool, true, false, not, List, [], ◌∷◌, ◌++◌, length, sym, subst, ap, arith, inl, inr, ◌⊎◌, refl, Contains, IsSome, Some, None}
use Rattle.std.specs.Prelude.{All, IfSome}
use Rattle.std.specs.Option.{option_to_list}
use Rattle.std.specs.declared.option.Option.{Option}
use Rattle.std.proofs.lemmas.Bool.{false≢true, cases_Bool}
use Rattle.sat_words.specs.Literal.{Literal, opposite, same}
use Rattle.sat_words.specs.Clause.{has, distinct_lits}
use Rattle.sat_words.specs.declared.shared.Cref.{Cref}
use Rattle.rup_model.specs.declared.journal.Addition.{Addition}
use Rattle.rup_model.specs.declared.journal.Kind.TheVariants.{Derive}
use Rattle.rup_model.specs.declared.journal.Entry.{Entry}
use Rattle.rup_model.specs.declared.journal.Entry.TheVariants.{Add}
use Rattle.rup_model.specs.Journal.{recent}
use Rattle.rup_model.specs.Opening.{adds_unit}
use Rattle.rup_model.specs.Rup.{rup}
use Rattle.rup_model.proofs.Lists.{In, Contains_In, In_Contains, In_append, In_append_left, In_append_right}
use Rattle.ring_port.specs.PortState.{PortState, Holding, IsPort, held_at, lits_at, known}
use Rattle.ring_port.specs.Port.{Sees, entry_of}
use Rattle.ring_port.proofs.Holdings.{All_In, held_is_known}
use Rattle.ring_port.proofs.LogSteps.{In_All}
use Rattle.ring_trail.specs.declared.step.TrailStep.{TrailStep}
use Rattle.ring_trail.specs.TrailData.{TrailData, IsTrail, HasNoPlace, IsTrueOn, IsFalseOn, lit_at, assigned}
use Rattle.ring_trail.specs.Closed.{TrueWithin}
use Rattle.ring_trail.proofs.Causes.{IsReasoned-seen}
use Rattle.watch_prop.specs.WatchData.{WatchData, attached, without}
use Rattle.watch_prop.specs.Watched.{Watched}
use Rattle.watch_prop.specs.Propagation.{HasReasons, IsQuiet, IsConflict, attached_at}
use Rattle.watch_prop.proofs.TrailLaws.{Watched-assign, Reasons-held}
use Rattle.watch_prop.proofs.DetachingLaws.{without-others}
use Rattle.vivify.specs.Walking.{IsNoReason}
use Rattle.ring_run.specs.Searching.{IsHeldBy, HasClauses, OpeningSeen, UnitsSeen, Stands, AreTold}
use Rattle.ring_run.specs.Course.{Searches, MayImport}
use Rattle.ring_run.specs.Renewal.{IsResting}
use Rattle.ring_run.specs.declared.ring.Ring.{Ring}
use Rattle.ring_run.proofs.LevelZero.{false_at_zero}
use Rattle.ring_run.proofs.Remembering.{unit_cases, no_unit}
use Rattle.ring_run.proofs.Shortened.{Behind, starts_left}
use Rattle.ring_run.proofs.Standing.{within_more, within_last, sees_old, sees_new}
use Rattle.ring_run.proofs.Telling.{told_step, told_unit, told_same}
use Rattle.std.proofs.lemmas.Bool.{or_cases}
use Rattle.sat_words.proofs.Members.{same-true}
use Rattle.ring_run.specs.Ended.{reductions}

-- Before

-- a literal at level 0 is known, so no clause need be kept for it
pub no_reason : (s : PortState) (ring : Ring) (a : ℕ) → IsResting s ring → IsNoReason s ring.trail.steps a
no_reason s ring a p q c lt reason is = record {
  level = (let w = p.search.trail.within q lt in omega (arith, w, p.level));
  seen_is = p.search.told.first q (omega (arith, lt, p.whole));
}

pub seen_units : (s : PortState) (ring : Ring) → IsResting s ring → UnitsSeen s
seen_units s ring p = record { opening = p.search.opening; added = p.search.clauses.own.units }

pub held_member : (s : PortState) (ring : Ring) (c : Cref) → IsResting s ring → Contains (attached ring.watches) c → IsSome (held_at s c.address)
held_member s ring c p member = All_In (IsHeldBy s) (attached ring.watches) c p.search.clauses.held (Contains_In (attached ring.watches) c member)

-- what isn't true isn't seen
pub unseen_open : (s : PortState) (ring : Ring) (l : Literal) → IsResting s ring → (IsTrueOn ring.trail.steps l → ⊥) → has s.seen l ≡ false
unseen_open s ring l p open_yet =
    elim (cases_Bool (has s.seen l)) as (λ _. has s.seen l ≡ false) [
      | inl seen ↦ absurd (let w = p.search.stands.seen l seen in open_yet (record { place = w.place; before = w.in_range; true_there = w.true_there }))
      | inr none ↦ none
    ]

-- a literal of this variable
one_of_two : (k l : Literal) → k.var ≡ l.var → (k ≡ l) ⊎ (k ≡ opposite l)
one_of_two k l var = by k.neg l.neg refl refl
  where
    lit_of : ℕ → Bool → Literal
    lit_of v n = record { var = v; neg = n }

    made : (x y : Literal) → x.var ≡ y.var → x.neg ≡ y.neg → x ≡ y
    made x y v n = ap (λ (m : ℕ). lit_of m x.neg) v ∙ ap (lit_of y.var) n

    by : (a b : Bool) → k.neg ≡ a → l.neg ≡ b → (k ≡ l) ⊎ (k ≡ opposite l)
    by true true e f = inl (made k l var (e ∙ sym f))
    by false false e f = inl (made k l var (e ∙ sym f))
    by true false e f = inr (made k (opposite l) var (e ∙ sym (ap not f)))
    by false true e f = inr (made k (opposite l) var (e ∙ sym (ap not f)))

-- a literal that is neither true nor false has no value
pub no_place : (steps : List TrailStep) (l : Literal) → (IsTrueOn steps l → ⊥) → (IsFalseOn steps l → ⊥) → HasNoPlace steps l.var
no_place steps l not_true not_false q lt var =
    elim (one_of_two (lit_at steps q) l var) as (λ _. ⊥) [
      | inl e ↦ not_true (record { place = q; before = lt; true_there = e })
      | inr e ↦ not_false (record { place = q; before = lt; false_there = e })
    ]

-- Behind a clause's turn

module _ (s u : PortState) (v w : WatchData) (c : Cref) (left : Option Cref) (lit : Cref) (is : attached w ≡ without (attached v) c.address ++ option_to_list left) where
  abbrev kept : List Cref
  kept = without (attached v) c.address

  inside : (d : Cref) → In d kept → Contains (attached v) d × (d.address ≢ c.address)
  inside d m = (without-others (attached v) c.address d).0 (In_Contains kept d m)

  pub others_stay : (d : Cref) → Contains (attached v) d → d.address ≢ c.address → Contains (attached w) d
  others_stay d there apart = subst (λ (cs : List Cref). Contains cs d) (sym is)
      (In_Contains (kept ++ option_to_list left) d (In_append_left kept (option_to_list left) d (Contains_In kept d ((without-others (attached v) c.address d).1 (there, apart)))))

  pub left_member : IfSome left (Contains (attached w))
  left_member = by left refl
    where
      by : (o : Option Cref) → left ≡ o → IfSome o (Contains (attached w))
      by None e = tt
      by (Some d) e = subst (λ (cs : List Cref). Contains cs d) (sym (is ∙ ap (λ (x : Option Cref). kept ++ option_to_list x) e))
          (In_Contains (kept ++ d ∷ []) d (In_append_right kept (d ∷ []) d (inl refl)))

  in_left : (o : Option Cref) (d : Cref) → In d (option_to_list o) → IfSome o (IsHeldBy u) → IsSome (held_at u d.address)
  in_left None d m h = absurd m
  in_left (Some x) d (inl e) h = subst (IsHeldBy u) e h
  in_left (Some x) d (inr none) h = absurd none

  module _ (p : HasClauses s (attached v)) (others : (a : ℕ) → a ≢ c.address → IsSome (held_at s a) → held_at u a ≡ held_at s a) (apart : (h : Holding) → Contains s.start h → c.address ≢ h.address) (held_left : IfSome left (IsHeldBy u)) where
    all_held : All (IsHeldBy u) (attached w)
    all_held = subst (All (IsHeldBy u)) (sym is) (In_All (IsHeldBy u) (kept ++ option_to_list left) (λ d m. elim (In_append kept (option_to_list left) d m) as (λ _. IsHeldBy u d) [
      | inl old ↦ (
          let i = inside d old in
          let before : IsSome (held_at s d.address) = All_In (IsHeldBy s) (attached v) d p.held (Contains_In (attached v) d i.0) in
          subst (λ (o : Option Holding). IsSome o) (sym (others d.address i.1 before)) before)
      | inr new ↦ in_left left d new held_left
    ]))

    -- the clauses attached are those of a search
    pub clauses_left : u.start ≡ s.start → recent u.ring u.mine ≡ [] → u.taken ≡ [] → ((l : Literal) → adds_unit u.ring u.mine l ≡ true → has u.seen l ≡ true) → u.refused ≡ s.refused → u.stop ≡ s.stop → IsPort u → HasClauses u (attached w)
    clauses_left start lately none units refused stop port = record {
      held = all_held;
      starts = λ h there. (
          let here : Contains s.start h = subst (λ (hs : List Holding). Contains hs h) start there in
          others_stay (record { address = h.address }) (p.starts h here) (λ e. apart h here (sym e)));
      starts_held = starts_left s u c others apart start p.starts_held;
      own = record {
        lemmas = λ d there. absurd (Contains_In [] d (subst (λ (G : List (List Literal)). Contains G d) lately there));
        units = units;
      };
      taken = λ a there. absurd (Contains_In [] a (subst (λ (xs : List ℕ). Contains xs a) none there));
      refused = refused ∙ p.refused;
      stop = stop ∙ p.stop;
      port = port;
    }

-- the units that the ring added are seen, after a shorter clause and after a unit
pub derived_units : (s u : PortState) (lits : List Literal) (number : ℕ) (hints : List ℕ) → Behind s u (entry_of s number lits Derive hints) → 2 ≤ length lits → distinct_lits lits ≡ true → u.seen ≡ s.seen
    → ((l : Literal) → adds_unit s.ring s.mine l ≡ true → has s.seen l ≡ true) → (l : Literal) → adds_unit u.ring u.mine l ≡ true → has u.seen l ≡ true
derived_units s u lits number hints b long distinct seen units l h =
    let x : Addition = record { ring = s.ring; number = number; lits = lits; kind = Derive; hints = hints } in
    elim (unit_cases s.ring s.mine x l (ap (λ (r : ℕ). adds_unit r (s.mine ++ Add x ∷ []) l) (sym b.ring) ∙ ap (λ (J : List Entry). adds_unit u.ring J l) (sym b.mine) ∙ h)) as (λ _. has u.seen l ≡ true) [
      | inl old ↦ ap (λ (ls : List Literal). has ls l) seen ∙ units l old
      | inr new ↦ absurd (no_unit l lits long distinct new)
    ]

-- At level 0

module _ (s u : PortState) (t : TrailData) (v w : WatchData) (n : ℕ) (p : Searches s t v n) (level : t.level ≡ 0) (clauses : HasClauses u (attached w)) (watched : Watched w (lits_at u) t) (reasons : HasReasons (attached w) u t.steps)
    (vars : u.vars ≡ s.vars) (opening : u.opening ≡ s.opening) where
  -- after a clause that is kept or made shorter
  pub search_left : u.seen ≡ s.seen → Searches u t w n
  search_left seen = record {
    clauses = clauses;
    opening = λ l h. ap (λ (ls : List Literal). has ls l) seen ∙ p.opening l (ap (λ (ls : List Literal). has ls l) (sym opening) ∙ h);
    stands = record {
      vars = p.stands.vars ∙ sym vars;
      reasoned = Reasons-held (attached w) u t.steps reasons;
      seen = λ l h. p.stands.seen l (ap (λ (ls : List Literal). has ls l) (sym seen) ∙ h);
    };
    trail = p.trail;
    watched = watched;
    closed = λ k below. absurd (omega (arith, level, below));
    reasons = reasons;
    told = told_same s u t n seen p.told;
  }

  -- after a unit, once it is true
  module _ (l : Literal) (sees : Sees s.seen u.seen l) where
    unit_reasons : HasReasons (attached w) u (assigned t l None).steps
    unit_reasons = IsReasoned-seen (attached_at (attached w) u) u.seen t l None reasons level (sees_new s.seen u.seen l sees)

    pub unit_opening : OpeningSeen u
    unit_opening k h = sees_old s.seen u.seen l k sees (p.opening k (ap (λ (ls : List Literal). has ls k) (sym opening) ∙ h))

    pub unit_stands : Stands u (assigned t l None)
    unit_stands =
        let x : TrailStep = record { lit = l; level = t.level; reason = None } in
        record {
          vars = p.stands.vars ∙ sym vars;
          reasoned = Reasons-held (attached w) u (assigned t l None).steps unit_reasons;
          seen = λ k h. elim (or_cases (has s.seen k) (same l k) (sym (sees k) ∙ h)) as (λ _. TrueWithin (t.steps ++ x ∷ []) 0 k) [
            | inl old ↦ within_more t.steps (x ∷ []) 0 k (p.stands.seen k old)
            | inr e ↦ subst (TrueWithin (t.steps ++ x ∷ []) 0) (same-true l k e) (within_last t.steps x 0 (omega (arith, level)))
          ];
        }

    pub unit_told : HasNoPlace t.steps l.var → AreTold u (assigned t l None) n
    unit_told free =
        told_step u t (assigned t l None) (record { lit = l; level = t.level; reason = None }) n refl (told_unit s u t n l sees free p.told) (λ none. absurd (false≢true none)) (λ up. absurd (omega (arith, up, level))) (λ up. up)

    pub search_unit : HasNoPlace t.steps l.var → IsTrail (assigned t l None) → Searches u (assigned t l None) w n
    search_unit free shape = record {
      clauses = clauses;
      opening = unit_opening;
      stands = unit_stands;
      trail = shape;
      watched = Watched-assign w (lits_at u) t l None p.trail watched;
      closed = λ k below. absurd (omega (arith, level, below));
      reasons = unit_reasons;
      told = unit_told free;
    }

-- a clause that is false at level 0 refutes what is held and seen
pub conflict_refutes : (s : PortState) (t : TrailData) (w x : WatchData) (n : ℕ) (c : Cref) → Searches s t w n → t.level ≡ 0 → IsConflict x (lits_at s) t c → attached x ≡ attached w → rup (known s) [] ≡ true
conflict_refutes s t w x n c p level k same_clauses =
    false_at_zero s t.steps (length t.steps) (lits_at s c.address) p.stands.reasoned (omega arith)
    (λ q lt. (let i = p.trail.within q lt in omega (arith, i, level)))
    (held_is_known s c.address (All_In (IsHeldBy s) (attached w) c p.clauses.held (Contains_In (attached w) c (subst (λ (cs : List Cref). Contains cs c) same_clauses k.member))))
    (λ l h. k.false_all l h)

-- a search that rests may import
pub resting_import : (s : PortState) (ring : Ring) → IsResting s ring → MayImport s ring.trail ring.watches ring.written
resting_import s ring p = record {
  clauses = p.search.clauses;
  stands = p.search.stands;
  trail = p.search.trail;
  level = p.level;
  watched = p.search.watched;
  reasons = p.search.reasons;
  told = p.search.told;
  whole = p.whole;
}

-- and one that may import rests, once nothing that was learned or taken has to be kept
pub import_resting : (s : PortState) (ring : Ring) → MayImport s ring.trail ring.watches ring.written → OpeningSeen s → IsQuiet ring.watches (lits_at s) ring.trail → 1 ≤ reductions s.ring s.mine → recent s.ring s.mine ≡ [] → s.taken ≡ [] → IsResting s ring
import_resting s ring p opening quiet reduced lately none = record {
  reduced = reduced;
  search = record {
    clauses = p.clauses;
    opening = opening;
    stands = p.stands;
    trail = p.trail;
    watched = p.watched;
    closed = λ k below. (let level = p.level in absurd (omega (arith, level, below)));
    reasons = p.reasons;
    told = p.told;
  };
  level = p.level;
  quiet = quiet;
  whole = p.whole;
  lately = lately;
  none_taken = none;
}

-- a literal is true if its opposite is false
twice_not : (b : Bool) → not (not b) ≡ b
twice_not true = refl
twice_not false = refl

twice : (l : Literal) → opposite (opposite l) ≡ l
twice l = ap (λ (n : Bool). signed l.var n) (twice_not l.neg)
  where
    signed : ℕ → Bool → Literal
    signed v n = record { var = v; neg = n }

pub opposite_false : (steps : List TrailStep) (l : Literal) → IsFalseOn steps (opposite l) → IsTrueOn steps l
opposite_false steps l f = record { place = f.place; before = f.before; true_there = f.false_there ∙ twice l }

pub true_is_not : (steps : List TrailStep) (l k : Literal) (b : Bool) → k ≡ opposite l → (IsFalseOn steps k → b ≡ true) → b ≡ false → IsTrueOn steps l → ⊥
true_is_not steps l k b is told none w =
    false≢true (sym none ∙ told (subst (IsFalseOn steps) (sym is) (record { place = w.place; before = w.before; false_there = w.true_there ∙ sym (twice l) })))
