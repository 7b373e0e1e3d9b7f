-- Clauses whose literals are on the variables.
use Rattle.std.proofs.Common.{◌≡◌, ◌∙◌, ℕ, ◌<◌, ◌^◌, List, [], ◌∷◌, ◌++◌, All, Bool, true, false, ap, sym, subst}
use Rattle.std.proofs.lemmas.List.Elements.{All-push, All-from_recursion, recursion_from_All}
use Rattle.std.specs.List.{AllByRecursion as ByRecursion}
use Rattle.std.specs.Prelude.{if◌then◌else◌, nat_lt}
use Rattle.sat_words.specs.Literal.{Literal, IsOn, same, code_of}
use Rattle.sat_words.specs.Clause.{clause_of, insert_lit}
use Rattle.sat_words.specs.FormulaData.{FormulaData}

inserted_by : (vars : ℕ) (l k : Literal) (c : List Literal) (a b : Bool) → IsOn vars l → IsOn vars k → ByRecursion (IsOn vars) c → ByRecursion (IsOn vars) (insert_lit l c)
    → ByRecursion (IsOn vars) (if a then k ∷ c else if b then l ∷ k ∷ c else k ∷ insert_lit l c)
inserted_by vars l k c true b on first others inserted = (first, others)
inserted_by vars l k c false true on first others inserted = (on, (first, others))
inserted_by vars l k c false false on first others inserted = (first, inserted)

inserted_on : (vars : ℕ) (l : Literal) (c : List Literal) → IsOn vars l → ByRecursion (IsOn vars) c → ByRecursion (IsOn vars) (insert_lit l c)
inserted_on vars l [] on others = (on, others)
inserted_on vars l (k ∷ c) on (first, others) =
    inserted_by vars l k c (same l k) (nat_lt (code_of l) (code_of k)) on first others (inserted_on vars l c on others)

clause_on : (vars : ℕ) (lits : List Literal) → ByRecursion (IsOn vars) lits → ByRecursion (IsOn vars) (clause_of lits)
clause_on vars [] on = tt
clause_on vars (l ∷ lits) (first, others) = inserted_on vars l (clause_of lits) first (clause_on vars lits others)

-- one more clause on the variables
pub pushed : (vars : ℕ) (clauses : List (List Literal)) (lits : List Literal) → All (All (IsOn vars)) clauses → All (IsOn vars) lits
    → All (All (IsOn vars)) (clauses ++ clause_of lits ∷ [])
pushed vars clauses lits before on =
    All-push (All (IsOn vars)) clauses (clause_of lits) before
    (All-from_recursion (IsOn vars) (clause_of lits) (clause_on vars lits (recursion_from_All (IsOn vars) lits on)))

-- a formula with one more clause, after which none is begun
pub pushed_body : (old new : FormulaData) (begun lits set rest : List Literal) → old.vars < 2 ^ 28 → All (All (IsOn old.vars)) old.clauses → All (IsOn old.vars) begun
    → lits ≡ begun → set ≡ clause_of lits → new ≡ record old { clauses = old.clauses ++ set ∷ [] } → rest ≡ []
    → (new.vars < 2 ^ 28) × (All (All (IsOn new.vars)) new.clauses) × (All (IsOn new.vars) rest)
pushed_body old new begun lits set rest few before on same is made none =
    let whole : new ≡ record old { clauses = old.clauses ++ clause_of begun ∷ [] } =
    made ∙ ap (λ (c : List Literal). record old { clauses = old.clauses ++ c ∷ [] }) (is ∙ ap clause_of same) in (
      subst (λ (f : FormulaData). f.vars < 2 ^ 28) (sym whole) few,
      subst (λ (f : FormulaData). All (All (IsOn f.vars)) f.clauses) (sym whole) (pushed old.vars old.clauses begun before on),
      subst (All (IsOn new.vars)) (sym none) (All-from_recursion (IsOn new.vars) [] tt),
    )
