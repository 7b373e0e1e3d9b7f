-- One step of propagation.
use Rattle.std.proofs.Common.{◌≡◌, ℕ, ◌+◌, ◌<◌, ◌≤◌, ◌||◌, Bool, true, false, not, List, [], ◌∷◌, ◌++◌, length, set, drop, refl, sym, ap, ◌∙◌, subst, inl, inr, ⊎_elim, arith, Option, Some, Contains, length-append, length-set}
use Rattle.std.specs.List.{list_any, list_all}
use Rattle.std.specs.Prelude.{Ok}
use Rattle.std.proofs.lemmas.List.{drop-append-le}
use Rattle.std.proofs.lemmas.Bool.{or_left, or_right, or_cases, and_parts, cases_Bool, true≢false, false≢true}
use Rattle.std.proofs.lemmas.List.Folds.{list_any-append}
use Rattle.sat_words.specs.Literal.{Literal, IsOn, opposite, same}
use Rattle.sat_words.specs.Clause.{has}
use Rattle.sat_words.proofs.Members.{same-true, same-refl}
use Rattle.sat_words.specs.Values.{is_true}
use Rattle.rup_model.specs.Rounds.{falsifies}
use Rattle.rup_model.specs.Rup.{rup}
use Rattle.rup_model.specs.Status.{IsSettled}
use Rattle.rup_model.proofs.Lists.{In, In_has, has_In, In_append, In_append_left, In_append_right, Contains_In, In_Contains}
use Rattle.rup_model.proofs.RoundsLemmas.{forces-parts}
use Rattle.rup_model.proofs.Covers.{both_true}
use Rattle.rup_model.proofs.Reaches.{Reaches, Reaches-set, Reaches-conflict}
use Rattle.rup_model.proofs.AssignedLemmas.{is_true-set, is_true-opposite}
use Rattle.drat_text.specs.declared.stop.LineStop.{LineStop}
use Rattle.simp_base.specs.WorkState.{WorkState, IsWork, known, is_alive_unit}
use Rattle.simp_base.specs.Log.{KeepsLog}
use Rattle.simp_base.proofs.Known.{known_alive, unit_among, on_alive, nothing_logged, first_or_rest, Grew, grew}
use Rattle.simp_base.proofs.LiftSteps.{logs_along}
use Rattle.simp_base.proofs.Lists.{Contains_left}
use Rattle.simp_base.proofs.Removal.{same_number}
use Rattle.simp_base.specs.Causes.{HasCause}
use Rattle.simp_base.proofs.Stopping.{cause_after}
use Rattle.simp_units.specs.Progress.{IsSet, IsUnitsClause, Progress, waits, IsKnown, Ready, ForcedStep, IdleStep, Passed, Stuck, WasLookedAt}
use Rattle.simp_units.specs.Progress.IsKnown.{settled, waiting, coming}
use Rattle.simp_units.specs.declared.propagate.Propagation.TheVariants.{Conflict, Quiet}
use Rattle.simp_units.proofs.Forcing.{keeps, itself, settled_kept, settled_by, falsified_follows}

-- a clause that came for a unit is settled
pub settled_came : (w : WorkState) (a : List (Option Bool)) → IsSet w a → (c : List Literal) (u : IsUnitsClause w.units c) → (is_true a u.lit ≡ true) × (has c u.lit ≡ true)
settled_came w a s c u = (sym (s.same u.lit) ∙ u.listed, ap (λ d. has d u.lit) u.alone ∙ or_left _ _ (same-refl u.lit))

-- A forced literal

module _ (old new : WorkState) (a b : List (Option Bool)) (number : ℕ) (s : IsSet old a) (step : ForcedStep old a new b number) where
  abbrev k : Literal
  k = step.lit

  abbrev c : List Literal
  c = step.forced.clause

  parts : (has c k ≡ true) × (is_true a (opposite k) ≡ false) × (list_all (λ j. same k j || is_true a (opposite j)) c ≡ true)
  parts = forces-parts (is_true a) k c step.forced.unit.forced

  yet : is_true a k ≡ false
  yet = step.forced.unit.yet

  on : IsOn old.vars k
  on = on_alive old s.work number c step.forced.alive k (has_In c k parts.0)

  range : k.var < length a
  range = let r = s.range in let h = on.high in omega arith

  pub grown : Grew old new k
  grown = grew old new k (has old.units k) (is_alive_unit old k) (s.same k ∙ yet) step.listed

  same_step : (l : Literal) → has new.units l ≡ is_true b l
  same_step l = ap (λ us. has us l) grown.units ∙ both_true (has (old.units ++ k ∷ []) l) (is_true b l)
      (λ h. ⊎_elim
      (λ (i : In l old.units). subst (λ v. is_true v l ≡ true) (sym step.values) (keeps a k yet parts.1 range l (sym (s.same l) ∙ In_has old.units l i)))
      (λ (i : In l (k ∷ [])). subst (λ v. is_true v l ≡ true) (sym step.values) (one l i))
      (In_append old.units (k ∷ []) l (has_In (old.units ++ k ∷ []) l h)))
      (λ h. elim (is_true-set a k l range (subst (λ v. is_true v l ≡ true) step.values h)) as (λ _. has (old.units ++ k ∷ []) l ≡ true) [
        | inl e ↦ In_has (old.units ++ k ∷ []) l (In_append_right old.units (k ∷ []) l (inl e))
        | inr t ↦ In_has (old.units ++ k ∷ []) l (In_append_left old.units (k ∷ []) l (has_In old.units l (s.same l ∙ t)))
      ])
    where
      one : (m : Literal) → In m (k ∷ []) → is_true (set a k.var (Some (not k.neg))) m ≡ true
      one m (inl e) = subst (λ x. is_true (set a k.var (Some (not k.neg))) x ≡ true) e (itself a k yet parts.1 range)
      one m (inr i) = absurd i

  pub set_step : IsWork new → IsSet new b
  set_step kept = record {
    same = same_step;
    range = ap length step.values ∙ length-set a k.var (Some (not k.neg)) ∙ s.range ∙ ap (λ v. v + 1) (sym grown.vars);
    going = grown.ended ∙ s.going;
    unspent = grown.spent ∙ s.unspent;
    work = kept;
  }

  pub units_longer : length old.units ≤ length new.units
  units_longer = let e = ap (λ us. length us) grown.units in let n = length-append old.units (k ∷ []) in omega arith

  more_units : (l : Literal) → has old.units l ≡ true → has new.units l ≡ true
  more_units l h = subst (λ us. has us l ≡ true) (sym grown.units) (In_has (old.units ++ k ∷ []) l (In_append_left old.units (k ∷ []) l (has_In old.units l h)))

  listed_now : has new.units k ≡ true
  listed_now = subst (λ us. has us k ≡ true) (sym grown.units) (In_has (old.units ++ k ∷ []) k (In_append_right old.units (k ∷ []) k (inl refl)))

  -- the clause is one of the start
  from_start : (start : WorkState) → Progress start old a → In c (known start)
  from_start start p = ⊎_elim
      (λ (h : Contains start.clauses (number, c)). known_alive start number c h)
      (λ (u : IsUnitsClause old.units c). absurd (true≢false (sym (true_here u) ∙ yet)))
      (p.came number c step.forced.alive)
    where
      true_here : (u : IsUnitsClause old.units c) → is_true a k ≡ true
      true_here u = let e : k ≡ u.lit = lone k u.lit (subst (λ d. has d k ≡ true) u.alone parts.0) in ap (is_true a) e ∙ (settled_came old a s c u).0
        where
          lone : (x y : Literal) → has (y ∷ []) x ≡ true → x ≡ y
          lone x y h = elim (or_cases (same x y) false h) as (λ _. x ≡ y) [ inl e ↦ same-true x y e | inr f ↦ absurd (false≢true f) ]

  pub progress_step : (start : WorkState) → Progress start old a → Progress start new b
  progress_step start p = record {
    reaches = subst (Reaches (known start) []) (sym step.values) (Reaches-set (known start) [] a c k p.reaches (from_start start p) parts.0 parts.2 yet parts.1 range);
    vars = grown.vars ∙ p.vars;
    stack = grown.stack ∙ p.stack;
    quiet = grown.faults ∙ p.quiet;
    stay = λ n d h. subst (λ cs. Contains cs (n, d)) (sym grown.clauses) (Contains_left old.clauses grown.extra (n, d) (p.stay n d h));
    came = λ n d h. ⊎_elim
        (λ (i : In {X = ℕ × List Literal} (n, d) old.clauses). ⊎_elim
        (λ (x : Contains start.clauses (n, d)). inl x)
        (λ (u : IsUnitsClause old.units d). inr (record { lit = u.lit; listed = more_units u.lit u.listed; alone = u.alone }))
        (p.came n d (In_Contains old.clauses (n, d) i)))
        (λ (i : In {X = ℕ × List Literal} (n, d) grown.extra). inr (record { lit = k; listed = listed_now; alone = grown.alone (n, d) i }))
        (In_append old.clauses grown.extra (n, d) (subst (λ (cs : List (ℕ × List Literal)). In {X = ℕ × List Literal} (n, d) cs) grown.clauses (Contains_In new.clauses (n, d) h)));
    units = λ l h. more_units l (p.units l h);
  }

  dropped : (i : ℕ) → i ≤ length old.units → drop i new.units ≡ drop i old.units ++ k ∷ []
  dropped i le = ap (drop i) grown.units ∙ drop-append-le i old.units (k ∷ []) le

  waits_new : (i : ℕ) → i ≤ length old.units → (x : List Literal) → has x (opposite k) ≡ true → waits new.units i x ≡ true
  waits_new i le x h = ap (list_any (λ u. has x (opposite u))) (dropped i le) ∙ list_any-append (λ u. has x (opposite u)) (drop i old.units) (k ∷ []) ∙ or_right _ _ (or_left _ _ h)

  waits_old : (i : ℕ) → i ≤ length old.units → (x : List Literal) → waits old.units i x ≡ true → waits new.units i x ≡ true
  waits_old i le x h = ap (list_any (λ u. has x (opposite u))) (dropped i le) ∙ list_any-append (λ u. has x (opposite u)) (drop i old.units) (k ∷ []) ∙ or_left _ _ h

  -- what was settled, or waited, or was to be looked at
  pub ready_step : (start : WorkState) (i : ℕ) (rest : List ℕ) → i ≤ length old.units → Progress start old a → Ready start old a i (number ∷ rest) → Ready start new b i rest
  ready_step start i rest le p ready n d h = by (ready n d h)
    where
      here : number ≡ n → d ≡ c
      here e = same_number old.clauses s.work.numbers number d c (subst (λ (m : ℕ). Contains old.clauses (m, d)) (sym e) (p.stay n d h)) step.forced.alive

      by : IsKnown old.units a i (number ∷ rest) n d → IsKnown new.units b i rest n d
      by (settled q) = elim (cases_Bool (has d (opposite k))) as (λ _. IsKnown new.units b i rest n d) [
        | inl held ↦ waiting (waits_new i le d held)
        | inr away ↦ settled (subst (λ v. IsSettled v d) (sym step.values) (settled_kept a k yet parts.1 range d q away))
      ]
      by (waiting w) = waiting (waits_old i le d w)
      by (coming q) = elim (first_or_rest number rest n q) as (λ _. IsKnown new.units b i rest n d) [
        | inl e ↦ settled (subst (λ v. IsSettled v d) (sym step.values) (settled_by a k yet parts.1 range d (ap (λ x. has x k) (here e) ∙ parts.0)))
        | inr r ↦ coming r
      ]

-- What one look keeps

pub passed_none : (old : WorkState) (a : List (Option Bool)) → IsSet old a → (numbers : List ℕ) → Passed old a old a numbers numbers
passed_none old a s numbers = record {
  set = s;
  quiet = refl;
  units = omega arith;
  vars = refl;
  goes = λ start p. p;
  ready = λ start i le p r. r;
  log = nothing_logged old;
}

module _ (old now new : WorkState) (a b e : List (Option Bool)) (numbers : List ℕ) (q : ℕ) (rest : List ℕ) (before : Passed old a now b numbers (q ∷ rest)) (kept : IsWork new) (log : KeepsLog now new) where
  both_logs : KeepsLog old new
  both_logs = logs_along old now new before.log log

  idle : IdleStep now b new e q → Passed old a new e numbers rest
  idle h = record {
    set = subst (λ w. IsSet w e) (sym h.work) (subst (IsSet now) (sym h.values) before.set);
    quiet = ap (λ (w : WorkState). w.output.faults) h.work ∙ before.quiet;
    units = subst (λ (w : WorkState). length old.units ≤ length w.units) (sym h.work) before.units;
    vars = ap (λ (w : WorkState). w.vars) h.work ∙ before.vars;
    goes = λ start p. subst (λ w. Progress start w e) (sym h.work) (subst (Progress start now) (sym h.values) (before.goes start p));
    ready = λ start i le p r. subst (λ w. Ready start w e i rest) (sym h.work) (subst (λ v. Ready start now v i rest) (sym h.values) (λ n d k. past start (before.goes start p) i n d k (before.ready start i le p r n d k)));
    log = both_logs;
  }
    where
      past : (start : WorkState) → Progress start now b → (i n : ℕ) (d : List Literal) → Contains start.clauses (n, d) → IsKnown now.units b i (q ∷ rest) n d → IsKnown now.units b i rest n d
      past start p i n d k (settled s) = settled s
      past start p i n d k (waiting w) = waiting w
      past start p i n d k (coming m) = elim (first_or_rest q rest n m) as (λ _. IsKnown now.units b i rest n d) [
        | inl is ↦ settled (h.settled d (subst (λ (j : ℕ). Contains now.clauses (j, d)) (sym is) (p.stay n d k)))
        | inr r ↦ coming r
      ]

  forced : ForcedStep now b new e q → Passed old a new e numbers rest
  forced h = record {
    set = set_step now new b e q before.set h kept;
    quiet = (grown now new b e q before.set h).faults ∙ before.quiet;
    units = (let m = before.units in let n = units_longer now new b e q before.set h in omega arith);
    vars = (grown now new b e q before.set h).vars ∙ before.vars;
    goes = λ start p. progress_step now new b e q before.set h start (before.goes start p);
    ready = λ start i le p r. ready_step now new b e q before.set h start i rest (let m = before.units in omega arith) (before.goes start p) (before.ready start i le p r);
    log = both_logs;
  }

  pub passed_more : WasLookedAt now b new e q (Ok Quiet) → Passed old a new e numbers rest
  passed_more (inl h) = idle h
  passed_more (inr h) = forced h

  pub stuck_here : WasLookedAt now b new e q (Ok Conflict) → Stuck old a new e
  stuck_here h = record {
    set = subst (λ w. IsSet w e) (sym h.work) (subst (IsSet now) (sym h.values) before.set);
    quiet = ap (λ (w : WorkState). w.output.faults) h.work ∙ before.quiet;
    empty = subst (λ w. rup (known w) [] ≡ true) (sym h.work) (falsified_follows (known now) now.units b (unit_among now) before.set.same h.falsified.clause (known_alive now q h.falsified.clause h.falsified.alive) h.falsified.falsified);
    falsified = λ start p. (
        let was = before.goes start p in
        ⊎_elim
        (λ (x : Contains start.clauses (q, h.falsified.clause)). Reaches-conflict (known start) [] b h.falsified.clause was.reaches (known_alive start q h.falsified.clause x) h.falsified.falsified)
        (λ (u : IsUnitsClause now.units h.falsified.clause). absurd (true≢false (sym (negated u) ∙ is_true-opposite b u.lit (settled_came now b before.set h.falsified.clause u).0)))
        (was.came q h.falsified.clause h.falsified.alive));
    log = both_logs;
  }
    where
      negated : (u : IsUnitsClause now.units h.falsified.clause) → is_true b (opposite u.lit) ≡ true
      negated u = (and_parts (is_true b (opposite u.lit)) true (subst (λ d. falsifies (is_true b) d ≡ true) u.alone h.falsified.falsified)).0

  pub stopped_here : (stop : LineStop) → HasCause now new stop → HasCause old new stop × KeepsLog old new
  stopped_here stop h = (cause_after old now new stop before.quiet h, both_logs)
