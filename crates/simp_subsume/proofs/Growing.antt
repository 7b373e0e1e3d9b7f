-- A part of a clause comes.
use Rattle.std.proofs.Common.{◌≡◌, ◌⊎◌, ℕ, ◌+◌, Bool, true, false, List, [], ◌∷◌, ◌++◌, refl, sym, ap, subst, ◌∙◌, inl, inr, ⊎_elim, arith, get_or}
use Rattle.std.specs.List.{Contains, All}
use Rattle.std.specs.Prelude.{Result, Ok, Err}
use Rattle.std.proofs.lemmas.Bool.{cases_Bool, true≢false, false≢true}
use Rattle.sat_words.specs.Literal.{Literal, IsOn, opposite, same}
use Rattle.sat_words.specs.Clause.{has, has_opposites, is_empty, clause_of}
use Rattle.sat_words.proofs.Insertion.{has-clause_of}
use Rattle.sat_words.proofs.Members.{same-true}
use Rattle.rup_model.specs.Rup.{rup}
use Rattle.rup_model.proofs.Lists.{In, In_any, In_has, has_In, In_append, In_append_left, In_append_right, In_get_or, Contains_In, In_Contains}
use Rattle.drat_text.specs.LineState.{LineState}
use Rattle.drat_text.specs.declared.stop.LineStop.{LineStop}
use Rattle.simp_base.specs.WorkState.{WorkState, IsWork, known, is_alive_unit}
use Rattle.simp_base.specs.Calls.{Added, IsListed, WasListed}
use Rattle.simp_base.specs.Log.{KeepsLog}
use Rattle.simp_base.proofs.Known.{known_alive, on_alive, Grew, grew}
use Rattle.simp_base.proofs.Lists.{Contains_left, Contains_last, Contains_apart}
use Rattle.simp_base.proofs.Stopping.{not_added_cause}
use Rattle.simp_base.proofs.Weaken.{strengthened_follows}
use Rattle.simp_subsume.specs.Compared.{Strengthens, Grown, WasGrown, IsLoaded}
use Rattle.simp_subsume.proofs.Relating.{refuted, opposed, part_parts, strengthens_parts, left_in, in_left, another}

pub grown_added : (old new : WorkState) (lits : List Literal) (number : ℕ) → old.output.spent ≡ false → is_empty lits ≡ false → Added old new lits number → KeepsLog old new → Grown old new lits
grown_added old new lits number unspent some h log =
    let given : number ≡ old.output.last + 1 = h.line.given in
    let clauses : new.clauses ≡ old.clauses ++ (number, clause_of lits) ∷ [] = ap (λ (w : WorkState). w.clauses) h.state in
    let units : new.units ≡ old.units = ap (λ (w : WorkState). w.units) h.state in
    record {
      going = ap (λ (w : WorkState). w.ended) h.state ∙ some;
      unspent = ap (λ (s : LineState). s.spent) h.line.put.state ∙ unspent;
      quiet = ap (λ (s : LineState). s.faults) h.line.put.state;
      stack = ap (λ (w : WorkState). w.stack) h.state;
      vars = ap (λ (w : WorkState). w.vars) h.state;
      later = (let e : new.output.last ≡ old.output.last + 1 = ap (λ (s : LineState). s.last) h.line.put.state in omega arith);
      stay = λ n c i. subst (λ (cs : List (ℕ × List Literal)). Contains cs (n, c)) (sym clauses) (Contains_left old.clauses ((number, clause_of lits) ∷ []) (n, c) i);
      came = λ n c i. ⊎_elim
          (λ (k : Contains old.clauses (n, c)). inl k)
          (λ (q : ◌≡◌ {A = ℕ × List Literal} (number, clause_of lits) (n, c)). inr (
            (let e : number ≡ n = ap (λ (x : ℕ × List Literal). x.0) q in omega arith),
            λ l. ap (λ (x : ℕ × List Literal). has x.1 l) (sym q) ∙ has-clause_of lits l,
          ))
          (Contains_apart old.clauses (number, clause_of lits) (n, c) (subst (λ (cs : List (ℕ × List Literal)). Contains cs (n, c)) clauses i));
      units_stay = λ l i. ap (λ us. has us l) units ∙ i;
      units_came = λ l i. inl (ap (λ us. has us l) (sym units) ∙ i);
      there = inl (number, clause_of lits, subst (λ (cs : List (ℕ × List Literal)). Contains cs (number, clause_of lits)) (sym clauses) (Contains_last old.clauses (number, clause_of lits)), omega arith, has-clause_of lits);
      log = log;
    }

grown_listed : (old new : WorkState) (l : Literal) → old.ended ≡ false → old.output.spent ≡ false → (b : Bool) → has old.units l ≡ b → IsListed b (is_alive_unit old l) old new l → KeepsLog old new → Grown old new (l ∷ [])
grown_listed old new l going unspent true e h log = record {
  going = ap (λ (w : WorkState). w.ended) h ∙ going;
  unspent = ap (λ (w : WorkState). w.output.spent) h ∙ unspent;
  quiet = ap (λ (w : WorkState). w.output.faults) h;
  stack = ap (λ (w : WorkState). w.stack) h;
  vars = ap (λ (w : WorkState). w.vars) h;
  later = (let e : new.output.last ≡ old.output.last = ap (λ (w : WorkState). w.output.last) h in omega arith);
  stay = λ n c i. subst (λ (w : WorkState). Contains w.clauses (n, c)) (sym h) i;
  came = λ n c i. inl (subst (λ (w : WorkState). Contains w.clauses (n, c)) h i);
  units_stay = λ k i. ap (λ (w : WorkState). has w.units k) h ∙ i;
  units_came = λ k i. inl (ap (λ (w : WorkState). has w.units k) (sym h) ∙ i);
  there = inr (l, ap (λ (w : WorkState). has w.units l) h ∙ e, refl);
  log = log;
}
grown_listed old new l going unspent false e h log =
    let g : Grew old new l = grew old new l false (is_alive_unit old l) refl h in
    record {
      going = g.ended ∙ going;
      unspent = g.spent ∙ unspent;
      quiet = g.faults;
      stack = g.stack;
      vars = g.vars;
      later = g.later;
      stay = λ n c i. subst (λ (cs : List (ℕ × List Literal)). Contains cs (n, c)) (sym g.clauses) (Contains_left old.clauses g.extra (n, c) i);
      came = λ n c i. ⊎_elim
          (λ (k : In {X = ℕ × List Literal} (n, c) old.clauses). inl (In_Contains old.clauses (n, c) k))
          (λ (k : In {X = ℕ × List Literal} (n, c) g.extra). inr (g.late (n, c) k, λ m. ap (λ x. has x m) (g.alone (n, c) k)))
          (In_append old.clauses g.extra (n, c) (subst (λ (cs : List (ℕ × List Literal)). In {X = ℕ × List Literal} (n, c) cs) g.clauses (Contains_In new.clauses (n, c) i)));
      units_stay = λ k i. subst (λ us. has us k ≡ true) (sym g.units) (In_has (old.units ++ l ∷ []) k (In_append_left old.units (l ∷ []) k (has_In old.units k i)));
      units_came = λ k i. ⊎_elim
          (λ (j : In k old.units). inl (In_has old.units k j))
          (λ (j : In k (l ∷ [])). inr (ap (λ (x : Literal). x ∷ []) (one k j)))
          (In_append old.units (l ∷ []) k (has_In (old.units ++ l ∷ []) k (subst (λ us. has us k ≡ true) g.units i)));
      there = inr (l, subst (λ us. has us l ≡ true) (sym g.units) (In_has (old.units ++ l ∷ []) l (In_append_right old.units (l ∷ []) l (inl refl))), refl);
      log = log;
    }
  where
    one : (k : Literal) → In k (l ∷ []) → l ≡ k
    one k (inl q) = q
    one k (inr i) = absurd i

pub was_listed : (old new : WorkState) (l : Literal) → old.ended ≡ false → old.output.spent ≡ false → KeepsLog old new → (result : Result (Unit {0}) LineStop) → WasListed old new l result → WasGrown old new (l ∷ []) result
was_listed old new l going unspent log (Ok done) h = grown_listed old new l going unspent (has old.units l) refl h log
was_listed old new l going unspent log (Err stop) h = (not_added_cause old new (l ∷ []) stop going h, log)

-- What is left of a clause follows

module _ (w : WorkState) (kept : IsWork w) (n m : ℕ) (c d rest : List Literal) (loaded : IsLoaded w n c) (alive : Contains w.clauses (m, d)) (s : Strengthens c d rest) where
  both : (has c s.lit ≡ true) × (has d (opposite s.lit) ≡ true) × ((k : Literal) → has c k ≡ true → (same s.lit k ≡ true) ⊎ (has d k ≡ true))
  both = strengthens_parts c d s.lit s.strengthens

  proper : has_opposites d ≡ false
  proper = (part_parts d s.part).1

  pub rest_inside : (k : Literal) → has rest k ≡ true → has d k ≡ true
  rest_inside k h = (left_in (opposite s.lit) k d (ap (λ x. has x k) (sym s.is) ∙ h)).0

  -- a literal of the clause but the one that is negated
  other_in_rest : (k : Literal) → has c k ≡ true → has d k ≡ true → has rest k ≡ true
  other_in_rest k hc h = ap (λ x. has x k) s.is ∙ in_left (opposite s.lit) k d h
      (refuted (same (opposite s.lit) k) (λ e. opposed c s.lit both.0 (ap (has c) (same-true (opposite s.lit) k e) ∙ hc) (part_parts c loaded.part).1))

  pub rest_follows : rup (known w) rest ≡ true
  rest_follows = strengthened_follows (known w) c d rest s.lit (known_alive w n c loaded.alive) (known_alive w m d alive) both.0
      (λ k i. ⊎_elim (λ (e : same s.lit k ≡ true). inl e) (λ (h : has d k ≡ true). inr (other_in_rest k (In_has c k i) h)) (both.2 k (In_has c k i)))
      (λ k i. elim (cases_Bool (same (opposite s.lit) k)) as (λ _. (k ≡ opposite s.lit) ⊎ (has rest k ≡ true)) [
        | inl e ↦ inl (sym (same-true (opposite s.lit) k e))
        | inr ne ↦ inr (ap (λ x. has x k) s.is ∙ in_left (opposite s.lit) k d (In_has d k i) ne)
      ])

  pub rest_proper : has_opposites rest ≡ false
  rest_proper = refuted (has_opposites rest) (λ h. (
      let t = In_any (λ l. has rest (opposite l)) rest h in
      opposed d t.0 (rest_inside t.0 (In_has rest t.0 t.1)) (rest_inside (opposite t.0) t.2) proper))

  pub rest_on : All (IsOn w.vars) rest
  rest_on k e lt = on_alive w kept m d alive (get_or rest k e) (has_In d (get_or rest k e) (rest_inside (get_or rest k e) (In_has rest (get_or rest k e) (In_get_or rest k e lt))))

  pub rest_some : is_empty rest ≡ false
  rest_some =
      let t = another c s.lit (part_parts c loaded.part).0 in
      ⊎_elim
      (λ (e : same s.lit t.0 ≡ true). absurd (true≢false (sym e ∙ t.2)))
      (λ (h : has d t.0 ≡ true). holding rest t.0 (other_in_rest t.0 t.1 h))
      (both.2 t.0 t.1)
    where
      holding : (r : List Literal) (k : Literal) → has r k ≡ true → is_empty r ≡ false
      holding [] k h = absurd (false≢true h)
      holding (x ∷ r) k h = refl
