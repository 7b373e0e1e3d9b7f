-- What propagation over watches came to is what plain rounds come to.
use Rattle.std.proofs.Common.{◌≡◌, ◌∙◌, ◌↔◌, ℕ, ◌==◌, true, false, List, [], map, Option, None, Some, sym, refl, ap, subst, inl, inr, ◌⊎◌, Contains}
use Rattle.std.specs.List.{list_any}
use Rattle.std.specs.Option.{option_map, option_map_or}
use Rattle.std.proofs.lemmas.Bool.{cases_Bool, eqb-true, true≢false}
use Rattle.sat_words.specs.Literal.{Literal}
use Rattle.sat_words.specs.declared.shared.Cref.{Cref}
use Rattle.rup_model.specs.Rounds.{Rounds}
use Rattle.rup_model.specs.Rup.{conflicts}
use Rattle.rup_model.proofs.Lists.{In, In_any, In_map, In_Contains, Contains_In}
use Rattle.ring_port.specs.PortState.{Holding, PortState, held_at, lits_at, clause_at}
use Rattle.ring_trail.specs.declared.step.TrailStep.{TrailStep}
use Rattle.ring_trail.specs.TrailData.{TrailData, IsTrail, IsTrueOn, IsFalseClause}
use Rattle.ring_trail.specs.Reasoned.{Held, IsReasoned}
use Rattle.ring_trail.specs.Closed.{IsClosed}
use Rattle.watch_prop.specs.WatchData.{WatchData, attached, clauses_of}
use Rattle.watch_prop.specs.Propagation.{attached_at, HasReasons, IsConflict, IsQuiet}
use Rattle.watch_prop.specs.Rounds.{decisions_of, fixed_of, with_units, AllTrueOn, HeldAmong, IsDerived, IsUnfinished}
use Rattle.watch_prop.proofs.TrailRounds.{derived_in_rounds, derived_conflict, closed_quiet, closed_same, closed_with, closed_or_unfinished}
use Rattle.watch_prop.proofs.Decisions.{decisions_true, fixed_true, derived_seen, derived_fixed, clause_with}

-- the literals of a clause that is looked up
lits_of : (s : PortState) (a : ℕ) (d : List Literal) → clause_at s a ≡ Some d → lits_at s a ≡ d
lits_of s a d e = by (held_at s a) e
  where
    by : (o : Option Holding) → option_map (λ (h : Holding). h.lits) o ≡ Some d → option_map_or (λ (h : Holding). h.lits) o [] ≡ d
    by None e = absurd (cc)
    by (Some h) e = cc

-- a clause that is looked up among the attached ones is one of them
pub attached_in : (cs : List Cref) (s : PortState) → HeldAmong (attached_at cs s) (map (λ (c : Cref). lits_at s c.address) cs)
attached_in cs s a d e =
    elim (cases_Bool (list_any (λ (c : Cref). c.address == a) cs)) as (λ _. Contains (map (λ (c : Cref). lits_at s c.address) cs) d) [
      | inl found ↦ (
          let m = In_any (λ (c : Cref). c.address == a) cs found in
          let here : attached_at cs s a ≡ clause_at s a = rw found refl in
          let lits : lits_at s m.0.address ≡ d = ap (lits_at s) (eqb-true m.0.address a m.2) ∙ lits_of s a d (sym here ∙ e) in
          In_Contains (map (λ (c : Cref). lits_at s c.address) cs) d
          (subst (λ (x : List Literal). In x (map (λ (c : Cref). lits_at s c.address) cs)) lits (In_map (λ (c : Cref). lits_at s c.address) cs m.0 m.1)))
      | inr missing ↦ absurd (let here : attached_at cs s a ≡ None = rw missing refl in let z : None ≡ Some d = sym here ∙ e in cc)
    ]

-- over units that are true
module _ (cs : List (List Literal)) (units : List Literal) (t : TrailData) where
  pub quiet_with : IsTrail t → AllTrueOn t.steps units → IsClosed cs t.steps t.level → conflicts (with_units cs units) (decisions_of t.steps) ≡ false
  quiet_with shape given closed = closed_quiet t shape (with_units cs units) (decisions_of t.steps) (closed_with t shape cs units closed given) (decisions_true t.steps)

  pub same_with : (l : Literal) → IsTrail t → AllTrueOn t.steps units → IsClosed cs t.steps t.level → IsDerived (with_units cs units) (decisions_of t.steps) t.steps
      → (Rounds (with_units cs units) (decisions_of t.steps) l ≡ true) ↔ IsTrueOn t.steps l
  same_with l shape given closed d = closed_same t shape (with_units cs units) (decisions_of t.steps) l (closed_with t shape cs units closed given) (decisions_true t.steps) d

-- over clauses that have what is held, and the units seen
pub reasoned_in_rounds : (held : Held) (seen : List Literal) (cs : List (List Literal)) (steps : List TrailStep) (l : Literal) → IsReasoned held seen steps → HeldAmong held cs
    → IsTrueOn steps l → (Rounds (with_units cs seen) (decisions_of steps) l ≡ true) ⊎ (conflicts (with_units cs seen) (decisions_of steps) ≡ true)
reasoned_in_rounds held seen cs steps l r among = derived_in_rounds (with_units cs seen) (decisions_of steps) steps l (derived_seen held seen cs steps r among)

pub reasoned_conflict : (held : Held) (seen : List Literal) (cs : List (List Literal)) (steps : List TrailStep) (c : List Literal) → IsReasoned held seen steps → HeldAmong held cs
    → Contains (with_units cs seen) c → IsFalseClause steps c → conflicts (with_units cs seen) (decisions_of steps) ≡ true
reasoned_conflict held seen cs steps c r among = derived_conflict (with_units cs seen) (decisions_of steps) steps c (derived_seen held seen cs steps r among)

pub reasoned_same : (held : Held) (seen : List Literal) (cs : List (List Literal)) (t : TrailData) (l : Literal) → IsTrail t → IsReasoned held seen t.steps → HeldAmong held cs
    → IsClosed cs t.steps t.level → AllTrueOn t.steps seen → (Rounds (with_units cs seen) (decisions_of t.steps) l ≡ true) ↔ IsTrueOn t.steps l
reasoned_same held seen cs t l shape r among closed given = same_with cs seen t l shape given closed (derived_seen held seen cs t.steps r among)

pub reasoned_unfinished : (seen : List Literal) (cs : List (List Literal)) (t : TrailData) → IsTrail t → AllTrueOn t.steps seen
    → conflicts (with_units cs seen) (decisions_of t.steps) ≡ true → IsUnfinished cs t.steps
reasoned_unfinished seen cs t shape given bad =
    elim (closed_or_unfinished t shape cs) as (λ _. IsUnfinished cs t.steps) [
      | inl closed ↦ absurd (true≢false (sym bad ∙ quiet_with cs seen t shape given closed))
      | inr u ↦ u
    ]

-- over the attached clauses of a port
module _ (w : WatchData) (s : PortState) (t : TrailData) where
  held_in : HeldAmong (attached_at (attached w) s) (clauses_of w (lits_at s))
  held_in = attached_in (attached w) s

  conflict_in : (c : Cref) → IsConflict w (lits_at s) t c → Contains (clauses_of w (lits_at s)) (lits_at s c.address)
  conflict_in c k =
      In_Contains (clauses_of w (lits_at s)) (lits_at s c.address)
      (In_map (λ (c : Cref). lits_at s c.address) (attached w) c (Contains_In (attached w) c k.member))

  pub units_same : (l : Literal) → IsTrail t → HasReasons (attached w) s t.steps → AllTrueOn t.steps s.seen → IsQuiet w (lits_at s) t
      → (Rounds (with_units (clauses_of w (lits_at s)) s.seen) (decisions_of t.steps) l ≡ true) ↔ IsTrueOn t.steps l
  units_same l shape r given q =
      same_with (clauses_of w (lits_at s)) s.seen t l shape given (q.closed t.level)
      (derived_seen (attached_at (attached w) s) s.seen (clauses_of w (lits_at s)) t.steps r held_in)

  pub units_quiet : IsTrail t → AllTrueOn t.steps s.seen → IsQuiet w (lits_at s) t → conflicts (with_units (clauses_of w (lits_at s)) s.seen) (decisions_of t.steps) ≡ false
  units_quiet shape given q = quiet_with (clauses_of w (lits_at s)) s.seen t shape given (q.closed t.level)

  pub units_conflict : (c : Cref) → HasReasons (attached w) s t.steps → IsConflict w (lits_at s) t c → conflicts (with_units (clauses_of w (lits_at s)) s.seen) (decisions_of t.steps) ≡ true
  units_conflict c r k =
      derived_conflict (with_units (clauses_of w (lits_at s)) s.seen) (decisions_of t.steps) t.steps (lits_at s c.address)
      (derived_seen (attached_at (attached w) s) s.seen (clauses_of w (lits_at s)) t.steps r held_in)
      (clause_with (clauses_of w (lits_at s)) s.seen (lits_at s c.address) (conflict_in c k)) k.false_all

  pub fixed_same : (l : Literal) → IsTrail t → HasReasons (attached w) s t.steps → IsQuiet w (lits_at s) t
      → (Rounds (with_units (clauses_of w (lits_at s)) (fixed_of t.steps)) (decisions_of t.steps) l ≡ true) ↔ IsTrueOn t.steps l
  fixed_same l shape r q =
      same_with (clauses_of w (lits_at s)) (fixed_of t.steps) t l shape (fixed_true t.steps) (q.closed t.level)
      (derived_fixed (attached_at (attached w) s) s.seen (clauses_of w (lits_at s)) t.steps r held_in)

  pub fixed_quiet : IsTrail t → IsQuiet w (lits_at s) t → conflicts (with_units (clauses_of w (lits_at s)) (fixed_of t.steps)) (decisions_of t.steps) ≡ false
  fixed_quiet shape q = quiet_with (clauses_of w (lits_at s)) (fixed_of t.steps) t shape (fixed_true t.steps) (q.closed t.level)

  pub fixed_conflict : (c : Cref) → HasReasons (attached w) s t.steps → IsConflict w (lits_at s) t c → conflicts (with_units (clauses_of w (lits_at s)) (fixed_of t.steps)) (decisions_of t.steps) ≡ true
  fixed_conflict c r k =
      derived_conflict (with_units (clauses_of w (lits_at s)) (fixed_of t.steps)) (decisions_of t.steps) t.steps (lits_at s c.address)
      (derived_fixed (attached_at (attached w) s) s.seen (clauses_of w (lits_at s)) t.steps r held_in)
      (clause_with (clauses_of w (lits_at s)) (fixed_of t.steps) (lits_at s c.address) (conflict_in c k)) k.false_all
