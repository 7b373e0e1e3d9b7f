-- Clauses are added with their literals replaced.
use Rattle.std.proofs.Common.{◌≡◌, ℕ, true, false, List, [], ◌∷◌, map, refl, sym, ap, subst, ◌∙◌, inl, inr, ⊎_elim, arith}
use Rattle.std.specs.List.{Contains, All, filter}
use Rattle.std.specs.Prelude.{None, Result, Ok, Err}
use Rattle.std.proofs.lemmas.Bool.{false≢true}
use Rattle.sat_words.specs.Literal.{Literal, IsOn}
use Rattle.sat_words.specs.Clause.{has, is_empty}
use Rattle.rup_model.specs.Rup.{rup}
use Rattle.rup_model.proofs.Lists.{In, In_has, has_In, In_map, map_In, Contains_In, In_Contains}
use Rattle.drat_text.specs.declared.stop.LineStop.{LineStop}
use Rattle.simp_base.specs.WorkState.{WorkState, IsWork, known, lists}
use Rattle.simp_base.proofs.Filters.{In_filter, filter_In}
use Rattle.simp_base.proofs.Known.{on_alive, first_or_rest}
use Rattle.simp_base.proofs.Lists.{In_All}
use Rattle.simp_base.proofs.Removal.{same_number}
use Rattle.simp_equiv.specs.Tables.{stand_in, CanStand, HasPlaces}
use Rattle.simp_equiv.specs.Replacements.{is_replaced, to_replace, Becomes, was_true, is_true, stays}
use Rattle.simp_equiv.specs.Rewritten.{Leads, Grown, WasGrown, IsReplacement, Adding, WasAdded}
use Rattle.simp_equiv.proofs.Follows.{replaced_follows, reaches_over}
use Rattle.simp_equiv.proofs.Growing.{goes_self, goes_along, known_grows}

-- the clauses alive have their places
pub all_stand : (w : WorkState) (t : List ℕ) → IsWork w → HasPlaces w.vars t → (n : ℕ) (c : List Literal) → Contains w.clauses (n, c) → All (CanStand t) c
all_stand w t kept places n c h = In_All (CanStand t) c (λ l i. places l (on_alive w kept n c h l i))

pub leads_along : (old new : WorkState) (sin : Literal → Literal) → ((c : List Literal) → Contains (known old) c → Contains (known new) c) → Leads old sin → Leads new sin
leads_along old new sin f h = record { fixed = h.fixed; implied = λ l. reaches_over h.fixed (known old) (known new) f l (sin l) (h.implied l) }

-- What takes the place of a clause

pub replacement_follows : (w : WorkState) (sin : Literal → Literal) (c d : List Literal) → Leads w sin → In c (known w) → ((l : Literal) → has d l ≡ has (map sin c) l) → rup (known w) d ≡ true
replacement_follows w sin c d leads i alike = replaced_follows leads.fixed (known w) c d i (λ l h. (sin l, alike (sin l) ∙ In_has (map sin c) (sin l) (In_map sin c l h), leads.implied l))

pub replacement_on : (w : WorkState) (t : List ℕ) (n : ℕ) (c d : List Literal) → IsWork w → HasPlaces w.vars t → Contains w.clauses (n, c) → ((l : Literal) → has d l ≡ has (map (stand_in t) c) l) → All (IsOn w.vars) d
replacement_on w t n c d kept places alive alike = In_All (IsOn w.vars) d (λ k i.
    let m = map_In (stand_in t) c k (has_In (map (stand_in t) c) k (sym (alike k) ∙ In_has d k i)) in
    let on = on_alive w kept n c alive m.0 m.1 in
    let s = places m.0 on in
    subst (IsOn w.vars) m.2 (record { low = s.low; high = (let a = s.high in let b = on.high in omega arith) }))

pub replacement_some : (sin : Literal → Literal) (c d : List Literal) → is_replaced sin c ≡ true → ((l : Literal) → has d l ≡ has (map sin c) l) → is_empty d ≡ false
replacement_some sin [] d h alike = absurd (false≢true h)
replacement_some sin (l ∷ c) d h alike = holding d (sin l) (alike (sin l) ∙ In_has (map sin (l ∷ c)) (sin l) (inl refl))
  where
    holding : (r : List Literal) (k : Literal) → has r k ≡ true → is_empty r ≡ false
    holding [] k h = absurd (false≢true h)
    holding (x ∷ r) k h = refl

-- The numbers

numbers_In : (sin : Literal → Literal) (cs : List (ℕ × List Literal)) (n : ℕ) → In n (to_replace sin cs) → (c : List Literal) × Contains cs (n, c)
numbers_In sin cs n h =
    let m = map_In (λ (x : ℕ × List Literal). x.0) (filter (λ x. is_replaced sin x.1) cs) n h in
    let f = filter_In (λ (x : ℕ × List Literal). is_replaced sin x.1) cs m.0 m.1 in
    (m.0.1, subst (λ (j : ℕ). Contains cs (j, m.0.1)) m.2 (In_Contains cs m.0 f.0))

pub In_numbers : (sin : Literal → Literal) (cs : List (ℕ × List Literal)) (n : ℕ) (c : List Literal) → Contains cs (n, c) → is_replaced sin c ≡ true → Contains (to_replace sin cs) n
In_numbers sin cs n c h r =
    In_Contains (to_replace sin cs) n (In_map (λ (x : ℕ × List Literal). x.0) (filter (λ x. is_replaced sin x.1) cs) (n, c)
    (In_filter (λ (x : ℕ × List Literal). is_replaced sin x.1) cs (n, c) (Contains_In cs (n, c) h) r))

-- One after another

pub adding_start : (w : WorkState) (sin : Literal → Literal) (numbers : List ℕ) → w.ended ≡ false → w.output.spent ≡ false → IsWork w → numbers ≡ to_replace sin w.clauses → Adding w w sin numbers
adding_start w sin numbers going unspent kept e = record {
  on = goes_self w going unspent kept;
  stay = λ n c h. h;
  came = λ n c h. inl h;
  named = λ n h. numbers_In sin w.clauses n (Contains_In (to_replace sin w.clauses) n (subst (λ (ns : List ℕ). Contains ns n) e h));
  became = λ n c h r. inr (subst (λ (ns : List ℕ). Contains ns n) (sym e) (In_numbers sin w.clauses n c h r));
}

pub adding_known : (start now : WorkState) (sin : Literal → Literal) (rest : List ℕ) → Adding start now sin rest → (c : List Literal) → Contains (known start) c → Contains (known now) c
adding_known start now sin rest t = known_grows start now t.stay t.on.units

becomes_along : (sin : Literal → Literal) (c : List Literal) (G H : List (List Literal)) → ((d : List Literal) → Contains G d → Contains H d) → Becomes sin c G → Becomes sin c H
becomes_along sin c G H f (was_true t) = was_true t
becomes_along sin c G H f (is_true t) = is_true t
becomes_along sin c G H f (stays d h alike) = stays d (f d h) alike

rest_after : (n : ℕ) (rest : List ℕ) (m : ℕ) → Contains rest m → Contains (n ∷ rest) m
rest_after n rest m h = In_Contains (n ∷ rest) m (inr (Contains_In rest m h))

-- nothing takes the place of the clause
pub added_none : (w : WorkState) (sin : Literal → Literal) (n : ℕ) → IsReplacement w sin n None → (start : WorkState) (rest : List ℕ) → Adding start w sin (n ∷ rest) → Adding start w sin rest
added_none w sin n none start rest t = record {
  on = t.on;
  stay = t.stay;
  came = t.came;
  named = λ m h. t.named m (rest_after n rest m h);
  became = λ m c h r. ⊎_elim
      (λ (b : Becomes sin c (known w)). inl b)
      (λ (i : Contains (n ∷ rest) m). ⊎_elim
      (λ (e : n ≡ m). inl (is_true (none c (subst (λ (j : ℕ). Contains w.clauses (j, c)) (sym e) (t.stay m c h)) r)))
      (λ (j : Contains rest m). inr j)
      (first_or_rest n rest m i))
      (t.became m c h r);
}

-- this one does
pub added_more : (old new : WorkState) (sin : Literal → Literal) (n : ℕ) (c d : List Literal) → IsWork old → Contains old.clauses (n, c) → ((l : Literal) → has d l ≡ has (map sin c) l) → Grown old new d
    → (start : WorkState) (rest : List ℕ) → Adding start old sin (n ∷ rest) → Adding start new sin rest
added_more old new sin n c d kept alive alike g start rest t = record {
  on = goes_along start old new t.on g.on;
  stay = λ m x h. g.stay m x (t.stay m x h);
  came = λ m x h. ⊎_elim
      (λ (i : Contains old.clauses (m, x)). t.came m x i)
      (λ (e : (l : Literal) → has x l ≡ has d l). inr (record { clause = c; from = from; same = λ l. e l ∙ alike l }))
      (g.came m x h);
  named = λ m h. t.named m (rest_after n rest m h);
  became = λ m x h r. ⊎_elim
      (λ (b : Becomes sin x (known old)). inl (becomes_along sin x (known old) (known new) (known_grows old new g.stay g.on.units) b))
      (λ (i : Contains (n ∷ rest) m). ⊎_elim
      (λ (e : n ≡ m). inl (here x (subst (λ (j : ℕ). Contains old.clauses (j, x)) (sym e) (t.stay m x h))))
      (λ (j : Contains rest m). inr j)
      (first_or_rest n rest m i))
      (t.became m x h r);
}
  where
    from : Contains (lists start.clauses) c
    from =
        let m = t.named n (In_Contains (n ∷ rest) n (inl refl)) in
        let e : m.0 ≡ c = same_number old.clauses kept.numbers n m.0 c (t.stay n m.0 m.1) alive in
        In_Contains (lists start.clauses) c (subst (λ (x : List Literal). In x (lists start.clauses)) e (In_map (λ (x : ℕ × List Literal). x.1) start.clauses (n, m.0) (Contains_In start.clauses (n, m.0) m.1)))

    here : (x : List Literal) → Contains old.clauses (n, x) → Becomes sin x (known new)
    here x h = let e : c ≡ x = same_number old.clauses kept.numbers n c x alive h in
        stays g.there.0 g.there.1 (λ l. g.there.2 l ∙ alike l ∙ ap (λ (y : List Literal). has (map sin y) l) e)

pub was_added : (old new : WorkState) (sin : Literal → Literal) (n : ℕ) (c d : List Literal) → IsWork old → Contains old.clauses (n, c) → ((l : Literal) → has d l ≡ has (map sin c) l)
    → (result : Result (Unit {0}) LineStop) → WasGrown old new d result → WasAdded old new sin n result
was_added old new sin n c d kept alive alike (Ok done) g = added_more old new sin n c d kept alive alike g
was_added old new sin n c d kept alive alike (Err stop) h = h
