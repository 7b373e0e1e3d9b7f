-- Tables of more codes.
use Rattle.std.proofs.Common.{◌≡◌, ◌⊎◌, ℕ, suc, ◌+◌, ◌<◌, ◌≤◌, List, [], ◌∷◌, ◌++◌, length, get_or, sym, ap, ◌∙◌, subst, inl, inr, arith, Option, None, Contains, length-append, append_assoc}
use Rattle.std.proofs.lemmas.Bool.{cases_lt}
use Rattle.sat_words.specs.Literal.{Literal, code_of}
use Rattle.sat_words.proofs.Members.{same-refl}
use Rattle.std.proofs.lemmas.Bool.{or_left}
use Rattle.simp_base.proofs.Lists.{past_end, padded_twice}
use Rattle.simp_base.specs.Tables.{IsTable, IsUnitNumber}

module _ (cells : List (ℕ × List Literal)) (places : List ℕ) (singles : List (Option ℕ)) (clash : Option Literal) (notes : List (List ℕ)) (t : IsTable cells places singles clash notes) where
  longer : length ((singles ++ None ∷ []) ++ None ∷ []) ≡ length singles + 2
  longer =
      let b = length-append (singles ++ None ∷ []) (None ∷ []) in
      let c = length-append singles (None ∷ []) in
      omega (arith, b, c)

  -- no unit stands past the end
  pub beyond : (l : Literal) → length singles ≤ code_of l → IsUnitNumber cells l None
  beyond l ge n h = let lt = t.inside n (l ∷ []) l h (or_left _ _ (same-refl l)) in omega arith

  -- the codes of one variable more
  pub table_wider : IsTable cells places ((singles ++ None ∷ []) ++ None ∷ []) clash (notes ++ [] ∷ [] ∷ [])
  table_wider = record {
    placed = t.placed;
    alone = λ l lt. subst (IsUnitNumber cells l) (sym (padded_twice singles (code_of l) None)) (here l (cases_lt (code_of l) (length singles)));
    agree = t.agree;
    noted = λ n c l i h. subst (λ (ns : List ℕ). Contains ns n) (sym (ap (λ (xs : List (List ℕ)). get_or xs (code_of l) []) twice ∙ padded_twice notes (code_of l) [])) (t.noted n c l i h);
    wide = (let a = length-append notes ([] ∷ [] ∷ []) in let e = t.wide in let m = longer in omega arith);
    inside = λ n c l i h. (let lt = t.inside n c l i h in let m = longer in omega arith);
    even = (suc t.even.0, (let e = t.even.1 in let m = longer in omega arith));
  }
    where
      twice : notes ++ [] ∷ [] ∷ [] ≡ (notes ++ [] ∷ []) ++ [] ∷ []
      twice = sym (append_assoc notes ([] ∷ []) ([] ∷ []))

      here : (l : Literal) → (code_of l < length singles) ⊎ (length singles ≤ code_of l) → IsUnitNumber cells l (get_or singles (code_of l) None)
      here l (inl lt) = t.alone l lt
      here l (inr ge) = subst (IsUnitNumber cells l) (sym (past_end singles (code_of l) None ge)) (beyond l ge)
