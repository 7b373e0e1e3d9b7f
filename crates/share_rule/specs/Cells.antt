-- The words of a cell: its count, its number, its size and glue, its literals.
use Rattle.std.specs.Prelude.{◌≡◌, ℕ, ◌+◌, ◌/◌, ◌<◌, List, length, slice_index}
use Rattle.sat_words.specs.Literal.{Literal}
use Rattle.clause_cell.specs.Packing.{pair_of, lit_word}

-- the words after the count at a spell a clause
pub record Spells (ws : List ℕ) (a number glue : ℕ) (lits : List Literal) : Type 0 where
  pub number_is : slice_index ws (a + 1) ≡ number
  pub head_is : slice_index ws (a + 2) ≡ pair_of (length lits) glue
  pub lits_are : (j : ℕ) → j < (length lits + 1) / 2 → slice_index ws (a + 3 + j) ≡ lit_word lits j
