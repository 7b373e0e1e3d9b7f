-- The rule of bounded variable elimination (Eén and Biere, SAT 2005): which variables are eliminated, in their order.
use Rattle.std.specs.Prelude.{◌≡◌, ℕ, zero, suc, ◌+◌, Bool, true, false, not, ◌&&◌, ◌||◌, nat_lt, List, [], ◌++◌, length, if◌then◌else◌}
use Rattle.std.specs.List.{list_any, list_all}
use Rattle.sat_words.specs.Literal.{Literal, opposite}
use Rattle.sat_words.specs.Clause.{has}
use Rattle.model_stack.specs.declared.stack.Fix.{Fix}
use Rattle.simp_base.specs.WorkState.{is_only}
use Rattle.simp_base.specs.Multisets.{SameMultiset}
use Rattle.simp_elim.specs.Resolution.{positive, negative, occurrences, mentions, resolvents_on, eliminated, fixes_of}

-- the first number is at most the second
abbrev pub at_most : ℕ → ℕ → Bool
at_most m n = not (nat_lt n m)

-- the literal is a unit: it is among the units, or its clause is among the clauses
abbrev pub is_unit_among : List Literal → List (List Literal) → Literal → Bool
is_unit_among U G l = has U l || list_any (is_only l) G

-- a literal of the variable is a unit
abbrev pub has_unit_among : List Literal → List (List Literal) → ℕ → Bool
has_unit_among U G v = is_unit_among U G (positive v) || is_unit_among U G (negative v)

-- each literal has few occurrences, there are no more resolvents than clauses with the variable, and they are short
abbrev pub is_bounded : Literal → List (List Literal) → Bool
is_bounded l G =
    at_most (length (occurrences l G)) 16
    && at_most (length (occurrences (opposite l) G)) 16
    && at_most (length (resolvents_on l G)) (length (occurrences l G) + length (occurrences (opposite l) G))
    && list_all (λ c. at_most (length c) 100) (resolvents_on l G)

-- the variable has a unit, or occurs in no clause
abbrev pub is_passed : List Literal → List (List Literal) → ℕ → Bool
is_passed U G v = has_unit_among U G v || not (list_any (mentions (positive v)) G)

-- the variable is eliminated
abbrev pub goes : List Literal → List (List Literal) → ℕ → Bool
goes U G v = not (is_passed U G v) && is_bounded (positive v) G

-- what one variable leaves of the clauses
abbrev pub eliminate_one : List Literal → List (List Literal) → ℕ → List (List Literal)
eliminate_one U G v = if goes U G v then eliminated (positive v) G else G

-- what the variables 1 to this one leave, ascending
abbrev pub eliminate : List Literal → ℕ → List (List Literal) → List (List Literal)
eliminate U zero G = G
eliminate U (suc n) G = eliminate_one U (eliminate U n G) (suc n)

-- The stack

-- what it takes if the literal's variable is eliminated: the clauses with the literal, in any order
pub record AreFixesOf (l : Literal) (G : List (List Literal)) (fixes : List Fix) : Type 0 where
  pub clauses : List (List Literal)
  pub each : SameMultiset clauses (occurrences l G)
  pub are : fixes ≡ fixes_of l clauses

-- what it takes at a variable that is eliminated, or is not
abbrev pub IsTaken : Bool → ℕ → List (List Literal) → List Fix → Type 0
IsTaken true v G fixes = AreFixesOf (positive v) G fixes
IsTaken false v G fixes = fixes ≡ []

-- what it takes at the variables 1 to this one
abbrev pub AreTaken : List Literal → ℕ → List (List Literal) → List Fix → Type 0
AreTaken U zero G fixes = fixes ≡ []
AreTaken U (suc n) G fixes = (before : List Fix) × (last : List Fix) × (fixes ≡ before ++ last) × AreTaken U n G before × IsTaken (goes U (eliminate U n G) (suc n)) (suc n) (eliminate U n G) last
