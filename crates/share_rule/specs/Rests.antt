-- What a table tells at its end.
use Rattle.std.specs.Prelude.{◌≡◌, ℕ, ◌+◌, ◌/◌, ◌<◌, ◌≤◌, ◌^◌, length, slice_index, Bool, true, false, ⊤, List, [], ◌∷◌, map, All, Contains, Some, None, nat_eq}
use Rattle.std.specs.List.{IsDistinct}
use Rattle.std.specs.List.Sorted.{IsStrictlySortedBy}
use Rattle.std.specs.Ordering.{nat_cmp}
use Rattle.sat_words.specs.Literal.{Literal}
use Rattle.sat_words.specs.Clause.{clause_of}
use Rattle.clause_cell.specs.declared.holes.Hole.{Hole}
use Rattle.clause_cell.specs.Packing.{words_for, lit_word}
use Rattle.share_core.specs.declared.stored.Cell.{Cell}
use Rattle.share_core.specs.State.{State, unit_lits, unit_numbers}
use Rattle.share_core.specs.Sound.{Sound}
use Rattle.share_rule.specs.declared.Layout.{Layout}
use Rattle.share_rule.specs.declared.rests.Rest.{Rest}
use Rattle.share_rule.specs.declared.view.RingPart.{RingPart}
use Rattle.share_rule.specs.Layout.{table_words}
use Rattle.share_rule.specs.Room.{room, Places}
use Rattle.share_rule.specs.Shown.{Words}

-- none of the rings builds a cell
abbrev pub NoneBuild : List RingPart → Type 0
NoneBuild [] = ⊤
NoneBuild (p ∷ ps) = (p.core.making ≡ []) × NoneBuild ps

-- the clause of a cell: its number, its literals in order, its glue
abbrev pub rest_of : (ℕ → ℕ) → Cell → Rest
rest_of glue x = record { number = x.number; clause = clause_of x.lits; glue = glue x.number }

-- it is told of one of the cells before this word
abbrev pub IsRestBefore : ℕ → State → (ℕ → ℕ) → Rest → Type 0
IsRestBefore end c glue r = (a : ℕ) × (x : Cell) × (c.cell a ≡ Some x) × (a < end) × (r ≡ rest_of glue x)

-- it is told of one of the cells
abbrev pub IsRest : State → (ℕ → ℕ) → Rest → Type 0
IsRest c glue r = (a : ℕ) × (x : Cell) × (c.cell a ≡ Some x) × (r ≡ rest_of glue x)

-- the clause of each cell is told, and nothing else, in order of number and each once
pub record AreRests (c : State) (glue : ℕ → ℕ) (rs : List Rest) : Type 0 where
  pub told : (a : ℕ) (x : Cell) → c.cell a ≡ Some x → Contains rs (rest_of glue x)
  pub only : All (IsRest c glue) rs
  pub ascending : IsStrictlySortedBy nat_cmp (map (λ r. r.number) rs)

-- the listed units are told with their numbers, in the order in which they were listed
pub record AreListed (c : State) (us : List (Literal × ℕ)) : Type 0 where
  pub units : unit_lits us ≡ c.units
  pub numbers : unit_numbers us ≡ c.numbers

-- unless a write has failed, the clauses of the cells and the listed units are told; if one has, nothing is
abbrev pub TellsRests : State → (ℕ → ℕ) → Bool → List Rest → List (Literal × ℕ) → Type 0
TellsRests c glue false rs us = AreRests c glue rs × AreListed c us
TellsRests c glue true rs us = (rs ≡ []) × (us ≡ [])

-- the words of a table are those of a sound state in which all cells are open
pub record IsAtEnd (l : Layout) (c : State) (glue : ℕ → ℕ) (ws : List ℕ) : Type 0 where
  pub sound : Sound c
  pub small : table_words l ≤ 2 ^ 63
  pub places : Places l c
  pub words : Words l c glue ws
  pub built : (a : ℕ) (x : Cell) → c.cell a ≡ Some x → x.maker ≡ None

-- these words are free for cells
abbrev pub HasHoles : Layout → State → List Hole → Type 0
HasHoles l c hs = hs ≡ (room l c.opening c.journal).holes

-- the clauses of the cells before this word are told
pub record AreRestsBefore (end : ℕ) (c : State) (glue : ℕ → ℕ) (rs : List Rest) : Type 0 where
  pub told : (a : ℕ) (x : Cell) → c.cell a ≡ Some x → a < end → Contains rs (rest_of glue x)
  pub only : All (IsRestBefore end c glue) rs
  pub distinct : IsDistinct nat_eq (map (λ r. r.number) rs)

-- so many literals stand in the words of a cell, each of a variable that a proof may name
pub record HasLits (ws : List ℕ) (cell size : ℕ) (lits : List Literal) : Type 0 where
  pub size_is : size ≡ length lits
  pub ends : cell + words_for size ≤ length ws
  pub words : (j : ℕ) → j < (length lits + 1) / 2 → slice_index ws (cell + 3 + j) ≡ lit_word lits j
  pub named : All (λ k. (1 ≤ k.var) × (k.var ≤ 2 ^ 30)) lits
