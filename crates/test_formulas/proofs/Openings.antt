-- One clause more, and it still opens a search.
use Rattle.std.proofs.Common.{◌≡◌, ◌∙◌, ℕ, zero, suc, ◌+◌, ◌<◌, ◌≤◌, ◌&&◌, ◌||◌, nat_eq, Bool, true, false, List, [], ◌∷◌, ◌++◌, not, map, length, All, Option, Some, None, refl, sym, ap, inl, inr, arith, ne_eqb, append-nil}
use Rattle.std.specs.Prelude.{⊤, nat_le, leb}
use Rattle.std.specs.List.{list_any, list_all, slice_get, IsDistinct, AllByRecursion}
use Rattle.std.specs.List.Sorted.{IsStrictlySortedBy}
use Rattle.std.specs.Ordering.{nat_cmp}
use Rattle.std.specs.declared.cmp.Ordering.TheVariants.{Less}
use Rattle.std.specs.Option.{option_map}
use Rattle.std.proofs.lemmas.Bool.{and_parts, and_from, cases_Bool, false≢true}
use Rattle.std.proofs.lemmas.List.Elements.{All-from_recursion, All-append, All-cons, All-nil}
use Rattle.std.proofs.lemmas.List.{map-append}
use Rattle.std.proofs.lemmas.List.Folds.{list_any-append}
use Rattle.std.proofs.lemmas.Option.{slice_get_within}
use Rattle.sat_words.specs.Literal.{Literal, IsOn}
use Rattle.sat_words.specs.Clause.{InOrder, has, same_set, clause_of, distinct_lits, has_opposites, is_empty}
use Rattle.sat_words.specs.FormulaData.{FormulaData}
use Rattle.sat_words.proofs.Insertion.{clause_of_in_order}
use Rattle.rup_model.specs.Journal.{formula_book, formula_clause, is_told}
use Rattle.rup_model.specs.Opening.{AreAscending, IsStart, Start, is_rulers}
use Rattle.rup_model.specs.declared.journal.Entry.{Entry}
use Rattle.rup_model.proofs.Covers.{same_self}
use Rattle.rup_model.proofs.Lists.{In, all_In, has_In, In_has, In_append}
use Rattle.rup_model.proofs.ProgramOpening.{All_from_In, distinct_in_order, less}
use Rattle.test_formulas.specs.Problems.{IsFine, IsProblem, starts_of}

none_some : {X : Type 0} (x : X) → None ≡ Some x → ⊥
none_some x e = cc

leb_yes : (m n : ℕ) → leb m n ≡ true → m ≤ n
leb_yes m n h = grind (arith, h)

-- what passes the test is fine
pub fine_from : (vars : ℕ) (c : List Literal) → InOrder c → 2 ≤ length c → has_opposites c ≡ false → list_all (λ (k : Literal). nat_le 1 k.var && nat_le k.var vars) c ≡ true → IsFine vars c
fine_from vars c order long opposites all = record {
  shape = record { long = long; distinct = distinct_in_order c order; no_opposites = opposites };
  ordered = clause_of_in_order c order;
  on = All_from_In (IsOn vars) c (λ k i. let t = and_parts (nat_le 1 k.var) (nat_le k.var vars) (all_In (λ (x : Literal). nat_le 1 x.var && nat_le x.var vars) c k all i) in record { low = leb_yes 1 k.var t.0; high = leb_yes k.var vars t.1 });
}

-- no clause
pub none_yet : (vars : ℕ) → IsProblem (record { vars = vars; clauses = [] }) [] [] []
unfolding IsDistinct IsStrictlySortedBy
none_yet vars = record {
  opens = record {
    rulers_part = record { rulers = All-nil (λ (e : Entry). is_rulers e ≡ true); going = refl; fits = tt; accepted = tt };
    starts = All-nil (IsStart (formula_book []));
    numbers = tt;
    told = All-nil (λ (l : Literal). is_told [] [] l ≡ true);
    distinct = refl;
  };
  ascending = tt;
  going = refl;
  starts_on = All-nil (λ (s : ℕ × List Literal). All (IsOn vars) s.1);
  units_on = All-nil (IsOn vars);
  listed = refl;
  numbered = All-nil (λ (u : Literal × ℕ). formula_clause [] u.1 ≡ Some (u.0 ∷ []));
}

-- Numbers

abbrev number_of : ℕ × List Literal → Start
number_of s = record { number = s.0; lits = s.1 }

abbrev numbers : List (ℕ × List Literal) → List ℕ
numbers ss = map (λ (s : Start). s.number) (starts_of ss)

abbrev Below : ℕ → List (ℕ × List Literal) → Type 0
Below n [] = ⊤
Below n (s ∷ ss) = (s.0 < n) × Below n ss

apart : (m : ℕ) (ss : List (ℕ × List Literal)) (n : ℕ) (c : List Literal) → AllByRecursion (λ y. nat_eq m y ≡ false) (numbers ss) → m < n → AllByRecursion (λ y. nat_eq m y ≡ false) (numbers (ss ++ (n, c) ∷ []))
apart m [] n c a lt = (ne_eqb m n (λ e. omega arith), tt)
apart m (s ∷ ss) n c a lt = (a.0, apart m ss n c a.1 lt)

distinct_numbers : (ss : List (ℕ × List Literal)) (n : ℕ) (c : List Literal) → IsDistinct nat_eq (numbers ss) → Below n ss → IsDistinct nat_eq (numbers (ss ++ (n, c) ∷ []))
unfolding IsDistinct
distinct_numbers [] n c d b = (tt, tt)
distinct_numbers (s ∷ ss) n c d b = (apart s.0 ss n c d.0 b.0, distinct_numbers ss n c d.1 b.1)

rises : (m : ℕ) (ss : List (ℕ × List Literal)) (n : ℕ) (c : List Literal) → AllByRecursion (λ y. nat_cmp m y ≡ Less) (numbers ss) → m < n → AllByRecursion (λ y. nat_cmp m y ≡ Less) (numbers (ss ++ (n, c) ∷ []))
rises m [] n c a lt = (less m n lt, tt)
rises m (s ∷ ss) n c a lt = (a.0, rises m ss n c a.1 lt)

ascending_numbers : (ss : List (ℕ × List Literal)) (n : ℕ) (c : List Literal) → AreAscending (starts_of ss) → Below n ss → AreAscending (starts_of (ss ++ (n, c) ∷ []))
unfolding IsStrictlySortedBy
ascending_numbers [] n c d b = (tt, tt)
ascending_numbers (s ∷ ss) n c d b = (rises s.0 ss n c d.0 b.0, ascending_numbers ss n c d.1 b.1)

-- Start clauses

within : (F : List (List Literal)) (n : ℕ) (c : List Literal) → formula_clause F n ≡ Some c → n < length F + 1
within F zero c e = omega arith
within F (suc i) c e = by (slice_get F i) refl e
  where
    by : (o : Option (List Literal)) → slice_get F i ≡ o → option_map clause_of o ≡ Some c → suc i < length F + 1
    by None q e = absurd (none_some c e)
    by (Some d) q e = let lt = slice_get_within F i d q in omega arith

kept_at : (F : List (List Literal)) (d : List Literal) (i : ℕ) (c : List Literal) → option_map clause_of (slice_get F i) ≡ Some c → option_map clause_of (slice_get (F ++ d ∷ []) i) ≡ Some c
kept_at [] d i c e = absurd (none_some c e)
kept_at (x ∷ F) d zero c e = e
kept_at (x ∷ F) d (suc i) c e = kept_at F d i c e

kept_clause : (F : List (List Literal)) (d : List Literal) (n : ℕ) (c : List Literal) → formula_clause F n ≡ Some c → formula_clause (F ++ d ∷ []) n ≡ Some c
kept_clause F d zero c e = e
kept_clause F d (suc i) c e = kept_at F d i c e

kept_start : (F : List (List Literal)) (d : List Literal) (s : Start) → IsStart (formula_book F) s → IsStart (formula_book (F ++ d ∷ [])) s
kept_start F d s h = record { alive = kept_clause F d s.number s.lits h.alive; shape = h.shape }

at_end : (F : List (List Literal)) (c : List Literal) → slice_get (F ++ c ∷ []) (length F) ≡ Some c
at_end [] c = refl
at_end (d ∷ F) c = at_end F c

below_from : (F : List (List Literal)) (ss : List (ℕ × List Literal)) → All (IsStart (formula_book F)) (starts_of ss) → Below (length F + 1) ss
below_from F [] h = tt
below_from F (s ∷ ss) h = (within F s.0 s.1 (h 0 (number_of s) (omega arith)).alive, below_from F ss (λ i x lt. h (suc i) x (omega arith)))

starts_more : (F : List (List Literal)) (d : List Literal) (n : ℕ) (c : List Literal) (ss : List (ℕ × List Literal)) → All (IsStart (formula_book F)) (starts_of ss) → IsStart (formula_book (F ++ d ∷ [])) (record { number = n; lits = c })
    → AllByRecursion (IsStart (formula_book (F ++ d ∷ []))) (starts_of (ss ++ (n, c) ∷ []))
starts_more F d n c [] h new = (new, tt)
starts_more F d n c (s ∷ ss) h new = (kept_start F d (number_of s) (h 0 (number_of s) (omega arith)), starts_more F d n c ss (λ i x lt. h (suc i) x (omega arith)) new)

-- Units

any_more : (p : List Literal → Bool) (F : List (List Literal)) (c : List Literal) → list_any p (F ++ []) ≡ true → list_any p ((F ++ c ∷ []) ++ []) ≡ true
any_more p F c e =
    ap (list_any p) (append-nil (F ++ c ∷ [])) ∙ list_any-append p F (c ∷ []) ∙ ap (λ (b : Bool). b || list_any p (c ∷ [])) (sym (ap (list_any p) (append-nil F)) ∙ e)

told_last : (F : List (List Literal)) (l : Literal) → is_told (F ++ (l ∷ []) ∷ []) [] l ≡ true
told_last F l =
    let p = same_set (l ∷ []) in
    ap (list_any p) (append-nil (F ++ (l ∷ []) ∷ [])) ∙ list_any-append p F ((l ∷ []) ∷ []) ∙ or_true (list_any p F) (p (l ∷ [])) (same_self (l ∷ []))
  where
    or_true : (a b : Bool) → b ≡ true → (a || (b || false)) ≡ true
    or_true true b e = refl
    or_true false b e = ap (λ (x : Bool). x || false) e

none_empty : (F : List (List Literal)) (c : List Literal) → list_any is_empty F ≡ false → is_empty c ≡ false → list_any is_empty (F ++ c ∷ []) ≡ false
none_empty F c going some = list_any-append is_empty F (c ∷ []) ∙ (λ i. going i || (some i || false))

only_one : (k l : Literal) → In k (l ∷ []) → l ≡ k
only_one k l (inl q) = q
only_one k l (inr i) = absurd i

distinct_units : (us : List Literal) (l : Literal) → distinct_lits us ≡ true → has us l ≡ false → distinct_lits (us ++ l ∷ []) ≡ true
distinct_units [] l d none = refl
distinct_units (k ∷ us) l d none =
    let parts = and_parts _ (distinct_lits us) d in
    and_from _ _ (first (has us k) refl parts.0) (distinct_units us l parts.1 (elim (cases_Bool (has us l)) as (λ _. has us l ≡ false) [
      | inl t ↦ absurd (false≢true (sym none ∙ In_has (k ∷ us) l (inr (has_In us l t))))
      | inr e ↦ e
    ]))
  where
    first : (b : Bool) → has us k ≡ b → not b ≡ true → not (has (us ++ l ∷ []) k) ≡ true
    first true e n = absurd (false≢true n)
    first false e n = elim (cases_Bool (has (us ++ l ∷ []) k)) as (λ _. not (has (us ++ l ∷ []) k) ≡ true) [
      | inr f ↦ ap not f
      | inl t ↦ absurd (elim (In_append us (l ∷ []) k (has_In (us ++ l ∷ []) k t)) as (λ _. ⊥) [
        | inl i ↦ false≢true (sym e ∙ In_has us k i)
        | inr i ↦ false≢true (sym none ∙ In_has (k ∷ us) l (inl (sym (only_one k l i))))
      ])
    ]

-- One more

-- with one more clause that a search may start with
pub with_clause : (f : FormulaData) (ss : List (ℕ × List Literal)) (us : List Literal) (ns : List (Literal × ℕ)) (c : List Literal) → IsProblem f ss us ns → IsFine f.vars c → IsProblem (record f { clauses = f.clauses ++ c ∷ [] }) (ss ++ (length f.clauses + 1, c) ∷ []) us ns
with_clause f ss us ns c p fine =
    let F = f.clauses in
    let G = F ++ c ∷ [] in
    let new : IsStart (formula_book G) (record { number = length F + 1; lits = c }) = record {
      alive = (let e : length F + 1 ≡ suc (length F) = omega arith in ap (formula_clause G) e) ∙ ap (option_map clause_of) (at_end F c) ∙ ap (λ (d : List Literal). Some d) fine.ordered;
      shape = fine.shape;
    } in
    record {
      opens = record {
        rulers_part = record { rulers = All-nil (λ (e : Entry). is_rulers e ≡ true); going = refl; fits = tt; accepted = tt };
        starts = All-from_recursion (IsStart (formula_book G)) (starts_of (ss ++ (length F + 1, c) ∷ [])) (starts_more F c (length F + 1) c ss p.opens.starts new);
        numbers = distinct_numbers ss (length F + 1) c p.opens.numbers (below_from F ss p.opens.starts);
        told = λ i x lt. any_more (same_set (_ ∷ [])) F c (p.opens.told i x lt);
        distinct = p.opens.distinct;
      };
      ascending = ascending_numbers ss (length F + 1) c p.ascending (below_from F ss p.opens.starts);
      going = none_empty F c p.going (some c fine.shape.long);
      starts_on = All-append (λ (s : ℕ × List Literal). All (IsOn f.vars) s.1) ss ((length F + 1, c) ∷ []) p.starts_on (All-cons (λ (s : ℕ × List Literal). All (IsOn f.vars) s.1) (length F + 1, c) [] fine.on (All-nil (λ (s : ℕ × List Literal). All (IsOn f.vars) s.1)));
      units_on = p.units_on;
      listed = p.listed;
      numbered = λ i u lt. kept_clause F c _ _ (p.numbered i u lt);
    }
  where
    some : (d : List Literal) → 2 ≤ length d → is_empty d ≡ false
    some [] h = absurd (omega arith)
    some (k ∷ d) h = refl

-- with one more unit
pub with_one : (f : FormulaData) (ss : List (ℕ × List Literal)) (us : List Literal) (ns : List (Literal × ℕ)) (l : Literal) → IsProblem f ss us ns → IsOn f.vars l → has us l ≡ false → IsProblem (record f { clauses = f.clauses ++ (l ∷ []) ∷ [] }) ss (us ++ l ∷ []) (ns ++ (l, length f.clauses + 1) ∷ [])
with_one f ss us ns l p on none =
    let F = f.clauses in
    let G = F ++ (l ∷ []) ∷ [] in
    let P : Literal × ℕ → Type 0 = λ u. formula_clause G u.1 ≡ Some (u.0 ∷ []) in
    let last : P (l, length F + 1) = (let e : length F + 1 ≡ suc (length F) = omega arith in ap (formula_clause G) e) ∙ ap (option_map clause_of) (at_end F (l ∷ [])) in
    record {
      opens = record {
        rulers_part = record { rulers = All-nil (λ (e : Entry). is_rulers e ≡ true); going = refl; fits = tt; accepted = tt };
        starts = λ i x lt. kept_start F (l ∷ []) _ (p.opens.starts i x lt);
        numbers = p.opens.numbers;
        told = All-append (λ (k : Literal). is_told (F ++ (l ∷ []) ∷ []) [] k ≡ true) us (l ∷ []) (λ i x lt. any_more (same_set (_ ∷ [])) F (l ∷ []) (p.opens.told i x lt)) (All-cons (λ (k : Literal). is_told (F ++ (l ∷ []) ∷ []) [] k ≡ true) l [] (told_last F l) (All-nil (λ (k : Literal). is_told (F ++ (l ∷ []) ∷ []) [] k ≡ true)));
        distinct = distinct_units us l p.opens.distinct none;
      };
      ascending = p.ascending;
      going = none_empty F (l ∷ []) p.going refl;
      starts_on = p.starts_on;
      units_on = All-append (IsOn f.vars) us (l ∷ []) p.units_on (All-cons (IsOn f.vars) l [] on (All-nil (IsOn f.vars)));
      listed = map-append (λ (u : Literal × ℕ). u.0) ns ((l, length F + 1) ∷ []) ∙ ap (λ (ls : List Literal). ls ++ l ∷ []) p.listed;
      numbered = All-append P ns ((l, length F + 1) ∷ []) (λ i u lt. kept_clause F (l ∷ []) _ _ (p.numbered i u lt)) (All-cons P (l, length F + 1) [] last (All-nil P));
    }
