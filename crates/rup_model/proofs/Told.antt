-- A unit that is in the formula or was added is alive.
use Rattle.std.proofs.Common.{◌≡◌, ◌⊎◌, ℕ, suc, Bool, true, false, List, [], ◌∷◌, Some, None, refl, sym, ap, ◌∙◌, subst, inl, inr, ⊎_elim, arith}
use Rattle.std.specs.List.{list_any, fold, slice_get}
use Rattle.std.specs.Option.{option_map}
use Rattle.std.proofs.lemmas.Bool.{or_left, or_cases, true≢false}
use Rattle.std.proofs.lemmas.List.Folds.{list_any-append}
use Rattle.sat_words.specs.Literal.{Literal}
use Rattle.sat_words.specs.Clause.{same_set, two_or_more, clause_of}
use Rattle.sat_words.proofs.Insertion.{same_set-clause_of}
use Rattle.rup_model.specs.Log.{alive_after}
use Rattle.rup_model.specs.declared.journal.Entry.{Entry}
use Rattle.rup_model.specs.declared.journal.Entry.TheVariants.{Add, Del, Reduce, Round}
use Rattle.rup_model.specs.Journal.{Book, formula_book, spelled, book_after, book, lines_after, IsFit, Fits, added, is_told}
use Rattle.rup_model.proofs.Sums.{put_here, put_else}
use Rattle.rup_model.proofs.Sequences.{EachState, to_states}
use Rattle.rup_model.proofs.Covers.{same_chain}
use Rattle.rup_model.proofs.Units.{unit_short}
use Rattle.rup_model.proofs.Respelling.{respelled_to}
use Rattle.rup_model.proofs.Numbers.{spelled_same, Matches, clause_below, formula_matches, matches_step}

-- the unit clause has a number
abbrev pub HasUnit : Book → Literal → Type 0
HasUnit b l = (n : ℕ) × (c : List Literal) × (b.clause n ≡ Some c) × (same_set (l ∷ []) c ≡ true)

unit_at : (F : List (List Literal)) (l : Literal) → list_any (same_set (l ∷ [])) F ≡ true
    → (i : ℕ) × (c : List Literal) × (option_map clause_of (slice_get F i) ≡ Some c) × (same_set (l ∷ []) c ≡ true)
unit_at [] l h = absurd (true≢false (sym h))
unit_at (c ∷ F) l h = elim (or_cases (same_set (l ∷ []) c) (list_any (same_set (l ∷ [])) F) h) as (λ _. (i : ℕ) × (d : List Literal) × (option_map clause_of (slice_get (c ∷ F) i) ≡ Some d) × (same_set (l ∷ []) d ≡ true)) [
  | inl x ↦ (0, clause_of c, refl, same_chain (l ∷ []) c (clause_of c) x (same_set-clause_of c))
  | inr x ↦ (let t = unit_at F l x in (suc t.0, t.1, t.2, t.3))
]

formula_unit : (F : List (List Literal)) (l : Literal) → list_any (same_set (l ∷ [])) F ≡ true → HasUnit (formula_book F) l
formula_unit F l h = let t = unit_at F l h in (suc t.0, t.1, t.2, t.3)

unit_step : (b : Book) (G : List (List Literal)) (e : Entry) (l : Literal) → IsFit b e → Matches b G → HasUnit b l ⊎ (list_any (same_set (l ∷ [])) (added (e ∷ [])) ≡ true) → HasUnit (book_after b e) l
unit_step b G (Add x) l fit m (inl t) = let lt = clause_below b G t.0 t.1 m t.2 in (t.0, t.1, put_else b.clause b.next (Some (spelled x)) t.0 (λ e. omega arith) ∙ t.2, t.3)
unit_step b G (Add x) l fit m (inr h) = (b.next, spelled x, put_here b.clause b.next (Some (spelled x)), same_chain (l ∷ []) x.lits (spelled x) (first (same_set (l ∷ []) x.lits) h) (spelled_same x))
  where
    first : (t : Bool) → list_any (λ (_ : List Literal). t) (x.lits ∷ []) ≡ true → t ≡ true
    first true e = refl
    first false e = e
unit_step b G (Del r k) l fit m (inl t) = (t.0, t.1, put_else b.clause k None t.0 apart ∙ t.2, t.3)
  where
    apart : t.0 ≡ k → ⊥
    apart e =
        let both : Some t.1 ≡ Some fit.names.0 = sym t.2 ∙ ap b.clause e ∙ fit.names.1 in
        let same_c : t.1 ≡ fit.names.0 = cc in
        true≢false (sym fit.names.2 ∙ subst (λ (q : List Literal). two_or_more q ≡ false) same_c (unit_short l t.1 t.3))
unit_step b G (Del r k) l fit m (inr h) = absurd (true≢false (sym h))
unit_step b G (Reduce r) l fit m (inl t) = t
unit_step b G (Reduce r) l fit m (inr h) = absurd (true≢false (sym h))
unit_step b G (Round x) l fit m (inl t) = let q = respelled_to x.starts b.clause t.0 t.1 t.2 in (t.0, q.0, q.1, same_chain (l ∷ []) t.1 q.0 t.3 q.2)
unit_step b G (Round x) l fit m (inr h) = absurd (true≢false (sym h))

added_first : (p : List Literal → Bool) (e : Entry) (J : List Entry) → list_any p (added (e ∷ J)) ≡ true → (list_any p (added (e ∷ [])) ≡ true) ⊎ (list_any p (added J) ≡ true)
added_first p (Add x) J h = elim (or_cases (p x.lits) (list_any p (added J)) h) as (λ _. (list_any p (x.lits ∷ []) ≡ true) ⊎ (list_any p (added J) ≡ true)) [ inl y ↦ inl (or_left _ _ y) | inr y ↦ inr y ]
added_first p (Del r n) J h = inr h
added_first p (Reduce r) J h = inr h
added_first p (Round x) J h = inr h

unit_from : (b : Book) (J : List Entry) (G : List (List Literal)) (l : Literal) → EachState book_after IsFit b J → Matches b G → HasUnit b l ⊎ (list_any (same_set (l ∷ [])) (added J) ≡ true)
    → HasUnit (fold book_after b J) l
unit_from b [] G l h m (inl t) = t
unit_from b [] G l h m (inr x) = absurd (true≢false (sym x))
unit_from b (e ∷ J) G l h m (inl t) = unit_from (book_after b e) J (fold alive_after G (lines_after b e)) l h.1 (matches_step b G e h.0 m) (inl (unit_step b G e l h.0 m (inl t)))
unit_from b (e ∷ J) G l h m (inr x) = unit_from (book_after b e) J (fold alive_after G (lines_after b e)) l h.1 (matches_step b G e h.0 m)
    (⊎_elim (λ (y : list_any (same_set (l ∷ [])) (added (e ∷ [])) ≡ true). inl (unit_step b G e l h.0 m (inr y))) (λ (y : list_any (same_set (l ∷ [])) (added J) ≡ true). inr y) (added_first (same_set (l ∷ [])) e J x))

pub told_alive : (F : List (List Literal)) (J : List Entry) (l : Literal) → Fits F J → is_told F J l ≡ true → HasUnit (book F J) l
told_alive F J l h t = unit_from (formula_book F) J F l (to_states book_after IsFit (formula_book F) [] J h) (formula_matches F)
    (⊎_elim (λ (x : list_any (same_set (l ∷ [])) F ≡ true). inl (formula_unit F l x)) (λ (x : list_any (same_set (l ∷ [])) (added J) ≡ true). inr x)
    (or_cases (list_any (same_set (l ∷ [])) F) (list_any (same_set (l ∷ [])) (added J)) (sym (list_any-append (same_set (l ∷ [])) F (added J)) ∙ t)))
