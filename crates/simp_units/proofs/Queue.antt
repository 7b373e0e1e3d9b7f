-- The queue of units.
use Rattle.std.proofs.Common.{◌≡◌, ℕ, suc, ◌+◌, ◌<◌, Bool, true, false, List, [], ◌∷◌, length, drop, get_or, refl, sym, ap, ◌∙◌, subst, inl, inr, ⊎_elim, arith, Option, Contains, add-one}
use Rattle.std.specs.List.{list_any}
use Rattle.std.specs.Prelude.{Result, Ok, Err}
use Rattle.std.proofs.Math.Seq.{drop-cons}
use Rattle.std.proofs.lemmas.Bool.{or_left, or_cases, true≢false}
use Rattle.sat_words.specs.Literal.{Literal, opposite}
use Rattle.sat_words.specs.Clause.{has}
use Rattle.sat_words.proofs.Members.{same-refl}
use Rattle.rup_model.specs.Rounds.{Rounds}
use Rattle.rup_model.specs.Rup.{conflicts}
use Rattle.rup_model.specs.Status.{IsSettled}
use Rattle.rup_model.proofs.Lists.{In, In_append, In_has, map_In, In_Contains}
use Rattle.rup_model.proofs.Reaches.{Reaches-quiet, Rounds-quiet}
use Rattle.drat_text.specs.declared.stop.LineStop.{LineStop}
use Rattle.simp_base.specs.WorkState.{WorkState, known, lists, unit_clauses}
use Rattle.simp_base.specs.Log.{KeepsLog}
use Rattle.simp_base.proofs.LiftSteps.{logs_along}
use Rattle.simp_base.specs.Causes.{HasCause}
use Rattle.simp_base.proofs.Stopping.{cause_after}
use Rattle.simp_units.specs.Progress.{IsSet, IsUnitsClause, Progress, waits, IsKnown, Ready, Passed, Stuck, Spread, WasSpread, Falsified, WasPropagated}
use Rattle.simp_units.specs.Progress.IsKnown.{settled, waiting, coming}
use Rattle.simp_units.specs.declared.propagate.Propagation.{Propagation}
use Rattle.simp_units.specs.declared.propagate.Propagation.TheVariants.{Conflict, Quiet}
use Rattle.simp_units.proofs.Forcing.{settled_true}
use Rattle.simp_base.proofs.Known.{nothing_logged}
use Rattle.simp_units.proofs.Steps.{settled_came}

nothing_comes : (n : ℕ) → Contains [] n → ⊥
nothing_comes n h = let z = h.1 in omega arith

pub spread_none : (old : WorkState) (a : List (Option Bool)) → IsSet old a → Spread old a old a 0
spread_none old a s = record {
  set = s;
  quiet = refl;
  vars = refl;
  within = omega arith;
  goes = λ start p. p;
  ready = λ start p r. r;
  log = nothing_logged old;
}

module _ (old now new : WorkState) (a b e : List (Option Bool)) (next : ℕ) (before : Spread old a now b next) where
  pub stuck_along : Stuck now b new e → Stuck old a new e
  stuck_along p = record {
    set = p.set;
    quiet = p.quiet ∙ before.quiet;
    empty = p.empty;
    falsified = λ start q. p.falsified start (before.goes start q);
    log = logs_along old now new before.log p.log;
  }

  pub stopped_along : (stop : LineStop) → HasCause now new stop × KeepsLog now new → HasCause old new stop × KeepsLog old new
  stopped_along stop h = (cause_after old now new stop before.quiet h.0, logs_along old now new before.log h.1)

  module _ (lt : next < length now.units) (u v : Literal) (is : u ≡ get_or now.units next u) (vis : v ≡ opposite u)
      (numbers : List ℕ) (every : (n : ℕ) (c : List Literal) → Contains now.clauses (n, c) → has c v ≡ true → Contains numbers n) where
    front : drop next now.units ≡ u ∷ drop (suc next) now.units
    front = drop-cons now.units next u lt ∙ ap (λ x. x ∷ drop (suc next) now.units) (sym is)

    ready_queue : (start : WorkState) → Progress start now b → Ready start now b next [] → Ready start now b (next + 1) numbers
    ready_queue start p ready n d h = by (ready n d h)
      where
        by : IsKnown now.units b next [] n d → IsKnown now.units b (next + 1) numbers n d
        by (settled s) = settled s
        by (waiting w) =
            elim (or_cases (has d (opposite u)) (waits now.units (suc next) d) (sym (ap (list_any (λ x. has d (opposite x))) front) ∙ w)) as (λ _. IsKnown now.units b (next + 1) numbers n d) [
              | inl x ↦ coming (every n d (p.stay n d h) (ap (has d) vis ∙ x))
              | inr t ↦ waiting (ap (λ m. waits now.units m d) (add-one next) ∙ t)
            ]
        by (coming m) = absurd (nothing_comes n m)

    pub spread_more : Passed now b new e numbers [] → Spread old a new e (next + 1)
    spread_more p = record {
      set = p.set;
      quiet = p.quiet ∙ before.quiet;
      vars = p.vars ∙ before.vars;
      within = (let m = p.units in omega arith);
      goes = λ start q. p.goes start (before.goes start q);
      ready = λ start q r. p.ready start (next + 1) (omega arith) (before.goes start q) (ready_queue start (before.goes start q) (before.ready start q r));
      log = logs_along old now new before.log p.log;
    }

-- If nothing waits, the units are those of the rounds

none_waits : (us : List Literal) (c : List Literal) → waits us (length us) c ≡ false
none_waits us c = ap (list_any (λ u. has c (opposite u))) (drop-all us)
  where
    drop-all : (xs : List Literal) → drop (length xs) xs ≡ []
    drop-all [] = refl
    drop-all (x ∷ xs) = drop-all xs

module _ (start now : WorkState) (b : List (Option Bool)) (s : IsSet now b) (p : Progress start now b) (ready : Ready start now b (length now.units) []) where
  settled_start : (n : ℕ) (c : List Literal) → Contains start.clauses (n, c) → IsSettled b c
  settled_start n c h = by (ready n c h)
    where
      by : IsKnown now.units b (length now.units) [] n c → IsSettled b c
      by (settled q) = q
      by (waiting w) = absurd (true≢false (sym w ∙ none_waits now.units c))
      by (coming m) = absurd (nothing_comes n m)

  pub settled_now : (n : ℕ) (c : List Literal) → Contains now.clauses (n, c) → IsSettled b c
  settled_now n c h = ⊎_elim
      (λ (x : Contains start.clauses (n, c)). settled_start n c x)
      (λ (u : IsUnitsClause now.units c). (let t = settled_came now b s c u in settled_true b u.lit c t.0 t.1))
      (p.came n c h)

  all_settled : (c : List Literal) → In c (known start) → IsSettled b c
  all_settled c i = ⊎_elim
      (λ (k : In c (lists start.clauses)). (let t = map_In (λ (x : ℕ × List Literal). x.1) start.clauses c k in
      subst (IsSettled b) t.2 (settled_start t.0.0 t.0.1 (In_Contains start.clauses t.0 t.1))))
      (λ (k : In c (unit_clauses start.units)). (let t = map_In (λ (l : Literal). l ∷ []) start.units c k in
      subst (IsSettled b) t.2 (settled_true b t.0 (t.0 ∷ []) (sym (s.same t.0) ∙ p.units t.0 (In_has start.units t.0 t.1)) (or_left _ _ (same-refl t.0)))))
      (In_append (lists start.clauses) (unit_clauses start.units) c i)

  -- the units are those of the rounds, which falsify no clause
  pub rounds_are : (l : Literal) → has now.units l ≡ Rounds (known start) [] l
  rounds_are l = s.same l ∙ Rounds-quiet (known start) [] b p.reaches all_settled l

  pub quiet_is : conflicts (known start) [] ≡ false
  quiet_is = Reaches-quiet (known start) [] b p.reaches all_settled

-- From all clauses, and then unit by unit

module _ (old mid : WorkState) (a b : List (Option Bool)) (numbers : List ℕ) (begun : Progress old old a) (each : (n : ℕ) (c : List Literal) → Contains old.clauses (n, c) → Contains numbers n) where
  module _ (passed : Passed old a mid b numbers []) where
    mid_ready : Ready old mid b 0 []
    mid_ready = passed.ready old 0 (omega arith) begun (λ n c h. coming (each n c h))

    pub whole : (new : WorkState) (e : List (Option Bool)) (result : Result Propagation LineStop) → WasSpread mid b new e result → WasPropagated old new e result
    whole new e (Ok Quiet) h = (
        let goes = h.goes old (passed.goes old begun) in
        let ready = h.ready old (passed.goes old begun) mid_ready in
        record {
          set = h.set;
          open_yet = quiet_is old new e h.set goes ready;
          units = rounds_are old new e h.set goes ready;
          progress = goes;
          settled = settled_now old new e h.set goes ready;
          log = logs_along old mid new passed.log h.log;
        })
    whole new e (Ok Conflict) h = record {
      going = h.set.going;
      unspent = h.set.unspent;
      work = h.set.work;
      quiet = h.quiet ∙ passed.quiet;
      falsified = h.falsified old (passed.goes old begun);
      empty = h.empty;
      log = logs_along old mid new passed.log h.log;
    }
    whole new e (Err stop) h = (cause_after old mid new stop passed.quiet h.0, logs_along old mid new passed.log h.1)

  pub stuck_whole : Stuck old a mid b → Falsified old mid
  stuck_whole h = record {
    going = h.set.going;
    unspent = h.set.unspent;
    work = h.set.work;
    quiet = h.quiet;
    falsified = h.falsified old begun;
    empty = h.empty;
    log = h.log;
  }
