use Rattle.std.proofs.Common.{◌≡◌, ◌∙◌, ◌++◌, Contains, ℕ, true, false, List, [], ◌∷◌, ap, refl, sym, subst}
use Rattle.sat_words.specs.Literal.{Literal}
use Rattle.sat_words.specs.Clause.{clause_of, two_or_more}
use Rattle.sat_words.specs.FormulaData.{FormulaData}
use Rattle.simp_base.specs.WorkState.{WorkState, numbered}
use Rattle.simp_base.proofs.Lists.{Contains_last}
use Rattle.test_simplifiers.proofs.base.a_deletion_and_a_fault.Goals as goal

-- the formula's only clause is alive
only_alive : (cells : List (ℕ × List Literal)) (d : List Literal) → cells ≡ (1, d) ∷ [] → two_or_more d ≡ true → (c : List Literal) × Contains cells (1, c) × (two_or_more c ≡ true)
only_alive cells d is two = (d, subst (λ (xs : List (ℕ × List Literal)). Contains xs (1, d)) (sym is) (Contains_last [] (1, d)), two)

pub delete-requires-clause-alive : goal.delete-requires-clause-alive
delete-requires-clause-alive g c =
    let d : List Literal = c.in_ok-from_lits.field-0 in
    let written : List Literal = record { var = 1; neg = false } ∷ record { var = 2; neg = false } ∷ [] in
    let value : d ≡ clause_of written = c.in_ok-from_lits.ensures.value ∙ (λ i. clause_of (c.new-one.ensures i ∷ c.new-two.ensures i ∷ [])) in
    let clauses : c.push.new.self.clauses ≡ d ∷ [] = ap (λ (F : FormulaData). F.clauses) c.in_ok-push.ensures.ok ∙ ap (λ (F : FormulaData). F.clauses ++ d ∷ []) c.new-formula.ensures in
    let two : two_or_more (clause_of (clause_of written)) ≡ true = refl in
    only_alive c.in-Ok.work.clauses (clause_of d) (ap (λ (w : WorkState). w.clauses) c.in-Ok.ensures.made ∙ ap (numbered 1) clauses)
    (ap (λ (x : List Literal). two_or_more (clause_of x)) value ∙ two)
