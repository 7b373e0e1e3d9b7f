-- Clauses that are spelled in the order of `Clause`, and clauses that a ring spells.
use Rattle.std.proofs.Common.{◌≡◌, ◌⊎◌, ℕ, ◌<◌, ◌==◌, Bool, true, false, cond, List, Option, Some, None, refl, sym, ap, inl, inr, arith, ne_eqb}
use Rattle.std.specs.List.{list_any}
use Rattle.std.specs.Option.{option_map}
use Rattle.sat_words.specs.Literal.{Literal}
use Rattle.sat_words.specs.Clause.{same_set, clause_of}
use Rattle.sat_words.proofs.Insertion.{same_set-clause_of}
use Rattle.rup_model.specs.Basics.{one_if}
use Rattle.rup_model.specs.declared.journal.TheConstants.{RULER_RING}
use Rattle.rup_model.specs.Journal.{spelled_by, respelled, copies_at}
use Rattle.rup_model.proofs.Covers.{same_self, same_as}

-- whoever spells it, it has the same literals
pub spelled_by_same : (r : ℕ) (c : List Literal) → same_set c (spelled_by r c) ≡ true
spelled_by_same r c = by (r == RULER_RING)
  where
    by : (b : Bool) → same_set c (cond b (clause_of c) c) ≡ true
    by true = same_set-clause_of c
    by false = same_self c

-- a ring that searches spells it as it stands
pub ring_spells : (r : ℕ) (c : List Literal) → r < RULER_RING → spelled_by r c ≡ c
ring_spells r c lt = λ i. cond (ne_eqb r RULER_RING (λ e. omega arith) i) (clause_of c) c

module _ (ns : List ℕ) (f : ℕ → Option (List Literal)) (n : ℕ) where
  -- a property of what a number has, as it was and in order
  by_order : (P : Option (List Literal) → Type 0) → P (option_map clause_of (f n)) → P (f n) → P (respelled ns f n)
  by_order P ordered kept = by (list_any (λ (m : ℕ). m == n) ns)
    where
      by : (t : Bool) → P (cond t (option_map clause_of (f n)) (f n))
      by true = ordered
      by false = kept

  -- a clause after it was there before, as it is, or its number is one of these and it was put in order
  pub respelled_from : (c : List Literal) → respelled ns f n ≡ Some c → (f n ≡ Some c) ⊎ ((list_any (λ (m : ℕ). m == n) ns ≡ true) × (d : List Literal) × (f n ≡ Some d) × (clause_of d ≡ c))
  respelled_from c = by (list_any (λ (m : ℕ). m == n) ns) refl
    where
      ordered : (o : Option (List Literal)) → f n ≡ o → option_map clause_of o ≡ Some c → (d : List Literal) × (f n ≡ Some d) × (clause_of d ≡ c)
      ordered None is e = absurd (let no : ⊥ = cc in no)
      ordered (Some d) is e = (d, is, (let same_c : clause_of d ≡ c = cc in same_c))

      by : (t : Bool) → list_any (λ (m : ℕ). m == n) ns ≡ t → cond t (option_map clause_of (f n)) (f n) ≡ Some c
          → (f n ≡ Some c) ⊎ ((list_any (λ (m : ℕ). m == n) ns ≡ true) × (d : List Literal) × (f n ≡ Some d) × (clause_of d ≡ c))
      by true is e = let t = ordered (f n) refl e in inr (is, t.0, t.1, t.2)
      by false is e = inl e

  -- a clause before is there after it, with the same literals
  pub respelled_to : (d : List Literal) → f n ≡ Some d → (c : List Literal) × (respelled ns f n ≡ Some c) × (same_set d c ≡ true)
  respelled_to d is =
      by_order (λ (q : Option (List Literal)). (c : List Literal) × (q ≡ Some c) × (same_set d c ≡ true))
      (clause_of d, ap (option_map clause_of) is, same_set-clause_of d)
      (d, is, same_self d)

  pub respelled_none : f n ≡ None → respelled ns f n ≡ None
  respelled_none is = by_order (λ (q : Option (List Literal)). q ≡ None) (ap (option_map clause_of) is) is

  pub respelled_copies : (c : List Literal) → copies_at c (respelled ns f n) ≡ copies_at c (f n)
  respelled_copies c = by_order (λ (q : Option (List Literal)). copies_at c q ≡ copies_at c (f n)) (ordered (f n)) refl
    where
      ordered : (o : Option (List Literal)) → copies_at c (option_map clause_of o) ≡ copies_at c o
      ordered None = refl
      ordered (Some d) = ap one_if (sym (same_as c d (clause_of d) (same_set-clause_of d)))
