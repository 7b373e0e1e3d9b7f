-- The binary implication graph, and which literal stands for the others of a component.
use Rattle.std.specs.Prelude.{◌≡◌, ◌⊎◌, ℕ, ◌≤◌, Bool, false, List, [], ◌∷◌, Contains}
use Rattle.sat_words.specs.Literal.{Literal, opposite}
use Rattle.simp_base.specs.WorkState.{WorkState, lists, has_unit}
use Rattle.simp_equiv.specs.Graphs.{Connected}

-- if k is true l must be: a clause of the two literals not-k and l is among the clauses, and neither variable has a unit
pub record Implies (fixed : ℕ → Bool) (G : List (List Literal)) (k l : Literal) : Type 0 where
  pub clause : List Literal
  pub alive : Contains G clause
  pub is : (clause ≡ opposite k ∷ l ∷ []) ⊎ (clause ≡ l ∷ opposite k ∷ [])
  pub free : fixed k.var ≡ false
  pub free_too : fixed l.var ≡ false

-- the graph of a work: by the clauses alive
abbrev pub Implied : WorkState → Literal → Literal → Type 0
Implied w = Implies (has_unit w) (lists w.clauses)

-- no literal is in one component with its negation
abbrev pub IsConsistent : (Literal → Literal → Type 0) → Type 0
IsConsistent E = (l : Literal) → Connected E l (opposite l) → ⊥

-- the literal r of the least variable of the component of l stands for l
pub record StandsFor (E : Literal → Literal → Type 0) (l r : Literal) : Type 0 where
  pub connected : Connected E l r
  pub least : (m : Literal) → Connected E l m → r.var ≤ m.var
