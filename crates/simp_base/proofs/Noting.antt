-- Numbers that are noted for literals.
use Rattle.std.proofs.Common.{◌≡◌, ◌≢◌, ℕ, ◌+◌, ◌<◌, List, [], ◌∷◌, ◌++◌, length, set, take, get_or, refl, sym, ap, subst, ◌∙◌, inl, inr, ⊎_elim, Contains, length-set}
use mathlib.Core.Logic.{dite}
use native.Mathlib.Decide.{ℕ_discrete}
use Rattle.std.proofs.lemmas.Bool.{false≢true}
use Rattle.std.proofs.lemmas.List.{take_more, get_or-set_same, get_or-set_other}
use Rattle.sat_words.specs.Literal.{Literal, code_of}
use Rattle.rup_model.proofs.Lists.{In, In_append, In_has, has_In}
use Rattle.simp_base.specs.Tables.{KeptNotes, Noted}
use Rattle.simp_base.proofs.Lists.{Contains_left, Contains_last}

pub kept_same : (xs : List (List ℕ)) → KeptNotes xs xs
kept_same xs = record { kept = λ k n h. h; wide = refl }

pub kept_along : (xs ys zs : List (List ℕ)) → KeptNotes xs ys → KeptNotes ys zs → KeptNotes xs zs
kept_along xs ys zs f g = record { kept = λ k n h. g.kept k n (f.kept k n h); wide = g.wide ∙ f.wide }

-- one number more at a place
pub kept_set : (xs : List (List ℕ)) (i n : ℕ) → i < length xs → KeptNotes xs (set xs i (get_or xs i [] ++ n ∷ []))
kept_set xs i n lt = record {
  kept = λ k m h. dite (ℕ_discrete k i)
      (λ (e : k ≡ i). subst (λ (j : ℕ). Contains (get_or (set xs i (get_or xs i [] ++ n ∷ [])) j []) m) (sym e)
      (subst (λ ys. Contains ys m) (sym (get_or-set_same xs i (get_or xs i [] ++ n ∷ []) [] lt)) (Contains_left (get_or xs i []) (n ∷ []) m (subst (λ j. Contains (get_or xs j []) m) e h))))
      (λ (ne : k ≢ i). subst (λ ys. Contains ys m) (sym (get_or-set_other xs i k (get_or xs i [] ++ n ∷ []) [] ne)) h);
  wide = length-set xs i (get_or xs i [] ++ n ∷ []);
}

pub there_set : (xs : List (List ℕ)) (i n : ℕ) → i < length xs → Contains (get_or (set xs i (get_or xs i [] ++ n ∷ [])) i []) n
there_set xs i n lt = subst (λ ys. Contains ys n) (sym (get_or-set_same xs i (get_or xs i [] ++ n ∷ []) [] lt)) (Contains_last (get_or xs i []) n)

pub noted_none : (xs : List (List ℕ)) (n : ℕ) → Noted xs xs [] n
noted_none xs n = record { kept = kept_same xs; there = λ l h. absurd (false≢true h) }

-- one literal more
pub noted_more : (xs ys zs : List (List ℕ)) (lits : List Literal) (i n : ℕ) (l : Literal) → i < length lits → l ≡ get_or lits i l → Noted xs ys (take i lits) n → KeptNotes ys zs → Contains (get_or zs (code_of l) []) n → Noted xs zs (take (i + 1) lits) n
noted_more xs ys zs lits i n l lt is was kept here = record {
  kept = kept_along xs ys zs was.kept kept;
  there = λ k h. ⊎_elim
      (λ (j : In k (take i lits)). kept.kept (code_of k) n (was.there k (In_has (take i lits) k j)))
      (λ (j : In k (l ∷ [])). only k j)
      (In_append (take i lits) (l ∷ []) k (subst (In k) (take_more lits i l lt ∙ ap (λ x. take i lits ++ x ∷ []) (sym is)) (has_In (take (i + 1) lits) k h)));
}
  where
    only : (k : Literal) → In k (l ∷ []) → Contains (get_or zs (code_of k) []) n
    only k (inl e) = subst (λ x. Contains (get_or zs (code_of x) []) n) e here
    only k (inr j) = absurd j
