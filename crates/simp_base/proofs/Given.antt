-- Clauses that are given with their numbers, one after another.
use Rattle.std.proofs.Common.{◌≡◌, ℕ, ◌+◌, ◌*◌, ◌<◌, List, [], ◌∷◌, ◌++◌, length, get_or, refl, sym, ap, ◌∙◌, subst, inl, arith, Contains, length-append}
use Rattle.std.specs.List.{All}
use Rattle.std.proofs.lemmas.List.{get_or_append_left}
use Rattle.sat_words.specs.Literal.{Literal, IsOn, code_of}
use Rattle.rup_model.proofs.Lists.{In, In_append_right, In_map}
use Rattle.simp_base.specs.WorkState.{HaveOwnNumbers, lists}
use Rattle.simp_base.proofs.Lists.{All_In}
use Rattle.simp_base.proofs.TableLemmas.{codes_on}

module _ (cells front rest : List (ℕ × List Literal)) (x : ℕ × List Literal) (is : front ++ x ∷ rest ≡ cells) where
  next_In : In x cells
  next_In = subst (In x) is (In_append_right front (x ∷ rest) x (inl refl))

  -- none before it has its number
  pub next_free : HaveOwnNumbers cells → (c : List Literal) → Contains front (x.0, c) → ⊥
  next_free own c h = (
      let n = length-append front (x ∷ rest) in
      let long : length (front ++ x ∷ rest) ≡ length cells = ap length is in
      own h.0 (length front) (x.0, c) h.1 (omega arith)
      (ap (λ (y : ℕ × List Literal). y.0) (ap (λ (ys : List (ℕ × List Literal)). get_or ys h.0 (x.0, c)) (sym is) ∙ get_or_append_left front (x ∷ rest) (x.0, c) h.0 h.1 ∙ h.2)
      ∙ sym (ap (λ (y : ℕ × List Literal). y.0) (ap (λ (ys : List (ℕ × List Literal)). get_or ys (length front) (x.0, c)) (sym is) ∙ at_end front))))
    where
      at_end : (ys : List (ℕ × List Literal)) → get_or (ys ++ x ∷ rest) (length ys) (x.0, c) ≡ x
      at_end [] = refl
      at_end (y ∷ ys) = at_end ys

  pub next_codes : (vars codes : ℕ) → All (All (IsOn vars)) (lists cells) → codes ≡ 2 * (vars + 1) → All (λ l. code_of l < codes) x.1
  next_codes vars codes on e = codes_on vars codes x.1 (All_In (All (IsOn vars)) (lists cells) x.1 on (In_map (λ (c : ℕ × List Literal). c.1) cells x next_In)) e
