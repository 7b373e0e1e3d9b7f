-- Resolvents within bounds.
use Rattle.std.specs.Prelude.{◌≡◌, ℕ, Bool, true, false, ◌&&◌, List, ◌++◌, length}
use Rattle.std.specs.List.{list_all}
use Rattle.sat_words.specs.Literal.{Literal}
use Rattle.simp_elim.specs.Rule.{at_most}

-- no more than this, and each of at most 100 literals
abbrev pub within : ℕ → List (List Literal) → Bool
within most R = at_most (length R) most && list_all (λ c. at_most (length c) 100) R

-- the clauses came after the others, unless they break the bounds
abbrev pub Extends : ℕ → List (List Literal) → List (List Literal) → List (List Literal) → Bool → Type 0
Extends most old more new false = within most (old ++ more) ≡ false
Extends most old more new true = (new ≡ old ++ more) × (within most new ≡ true)
