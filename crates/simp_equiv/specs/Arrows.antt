-- The binary implication graph on codes of literals.
use Rattle.std.specs.Prelude.{◌≡◌, ℕ, ◌+◌, ◌*◌, ◌^◌, ◌≤◌, ◌↔◌, ◌⊎◌, Bool, ◌||◌, List, [], ◌∷◌, length, if◌then◌else◌}
use Rattle.std.specs.List.{flat_map, Contains}
use Rattle.sat_words.specs.Literal.{Literal, opposite, code_of}
use Rattle.simp_equiv.specs.Graphs.{Edge, InRange}

-- an arrow from one literal to another
pub record Arrow : Type 0 where
  pub from : Literal
  pub to : Literal

-- the two arrows of a clause of two literals
abbrev pub arrows_of : Literal → Literal → List Arrow
arrows_of a b = record { from = opposite a; to = b } ∷ record { from = opposite b; to = a } ∷ []

-- the arrows of a clause: those of two literals alone give any, and none of a variable with a unit
abbrev pub arrows : (ℕ → Bool) → List Literal → List Arrow
arrows fixed [] = []
arrows fixed (a ∷ []) = []
arrows fixed (a ∷ b ∷ []) = if fixed a.var || fixed b.var then [] else arrows_of a b
arrows fixed (a ∷ b ∷ d ∷ c) = []

-- the arrows of clauses with their numbers
abbrev pub arrows_in : (ℕ → Bool) → List (ℕ × List Literal) → List Arrow
arrows_in fixed cs = flat_map (λ c. arrows fixed c.1) cs

-- the graph has the arrows as edges between the codes; no variable is above 2^30
pub record Draws (vars : ℕ) (given : List Arrow) (G : List (List ℕ)) : Type 0 where
  pub size : length G ≡ 2 * vars + 2
  pub range : InRange G
  pub edges : (k l : Literal) → Edge G (code_of k) (code_of l) ↔ Contains given (record { from = k; to = l })
  pub few : (a : Arrow) → Contains given a → a.from.var ≤ 2 ^ 30

-- one more edge
pub record MoreEdge (G H : List (List ℕ)) (x y : ℕ) : Type 0 where
  pub size : length H ≡ length G
  pub edges : (u v : ℕ) → Edge H u v ↔ (Edge G u v ⊎ ((u ≡ x) × (v ≡ y)))
