-- What a sound state says, in plain words.
use Rattle.std.specs.Prelude.{◌≡◌, ◌≢◌, ◌⊎◌, ℕ, ◌<◌, ◌≤◌, ◌==◌, Bool, true, false, List, length, Option, Some, None}
use Rattle.std.specs.List.{list_any, Contains}
use Rattle.sat_words.specs.Literal.{Literal}
use Rattle.sat_words.specs.Clause.{clause_of}
use Rattle.rup_model.specs.declared.journal.Addition.{Addition}
use Rattle.rup_model.specs.declared.journal.Round.{Round as RoundStart}
use Rattle.rup_model.specs.declared.journal.Entry.{Entry}
use Rattle.rup_model.specs.Basics.{below}
use Rattle.rup_model.specs.Log.{Accepted}
use Rattle.rup_model.specs.Journal.{deletion, round_of, formula_clause, additions, spelled, lines, is_ring}
use Rattle.share_core.specs.declared.stored.Cell.{Cell}
use Rattle.share_core.specs.State.{times_at, State, slots}
use Rattle.share_core.specs.Enabled.{Holds}
use Rattle.share_core.specs.Sound.{counted}

-- the number is one of those that the round begins with
abbrev pub starts_with : ℕ → Option RoundStart → Bool
starts_with n None = false
starts_with n (Some x) = list_any (λ m. m == n) x.starts

-- a round of the journal begins with the number
abbrev pub is_kept : List Entry → ℕ → Bool
is_kept J n = list_any (λ e. starts_with n (round_of e)) J

-- the second is the first, or that in the order of `Clause` if a round of the journal begins with the number
abbrev pub IsSpelled : List Entry → ℕ → List Literal → List Literal → Type 0
IsSpelled J n c d = (c ≡ d) ⊎ ((is_kept J n ≡ true) × (clause_of c ≡ d))

-- some addition of the journal has this number, and a deletion of it spells this clause
abbrev pub IsAdded : List Entry → ℕ → List Literal → Type 0
IsAdded J n c = (x : Addition) × Contains (additions J) x × (x.number ≡ n) × IsSpelled J n (spelled x) c

-- a deletion names the number
abbrev pub deleted : List Entry → ℕ → Bool
deleted J n = list_any (λ e. is_ring n (deletion e)) J

-- the number names a clause of the formula or an addition, and no deletion names it
abbrev pub Stands : List (List Literal) → List Entry → ℕ → List Literal → Type 0
Stands F J n c = ((formula_clause F n ≡ Some c) ⊎ IsAdded J n c) × (deleted J n ≡ false)

-- a cell has this clause under this number
abbrev pub IsInCell : State → ℕ → List Literal → Type 0
IsInCell c n lits = (a : ℕ) × (x : Cell) × (c.cell a ≡ Some x) × (x.number ≡ n) × (x.lits ≡ lits)

-- the cell there is open
abbrev pub IsOpenCell : State → ℕ → Cell → Type 0
IsOpenCell c a x = (c.cell a ≡ Some x) × (x.maker ≡ None)

-- how often the address waits, at all rings together
abbrev pub waiting_times : State → ℕ → ℕ
waiting_times c a = below c.opening.rings (λ r. times_at a (c.part r).waiting)

-- the count of an open cell is the number of its holders; what is held, or in a slot, is an open cell; a cell with count
-- 0 waits once, and what waits has count 0; a cell under construction is one ring's, and nobody else knows it; each
-- cell's number names its clause, which is not deleted; each line is valid where it stands; no ring has seen more units
-- than are listed
pub record Plain (c : State) : Type 0 where
  pub counted_cells : (a : ℕ) (x : Cell) → IsOpenCell c a x → x.count ≡ counted c.opening c a
  pub held_open : (r a : ℕ) → r < c.opening.rings → Holds c r a → (x : Cell) × IsOpenCell c a x
  pub slots_open : (s : ℕ) → s < slots c.opening → c.slot s ≢ 0 → (x : Cell) × IsOpenCell c (c.slot s) x
  pub waits_once : (a : ℕ) (x : Cell) → IsOpenCell c a x → x.count ≡ 0 → waiting_times c a ≡ 1
  pub waits_idle : (r a : ℕ) → r < c.opening.rings → 0 < times_at a (c.part r).waiting → (x : Cell) × IsOpenCell c a x × (x.count ≡ 0) × (counted c.opening c a ≡ 0)
  pub made_alone : (a r : ℕ) (x : Cell) → c.cell a ≡ Some x → x.maker ≡ Some r
      → (r < c.opening.rings) × (x.count ≡ 0) × (counted c.opening c a ≡ 0) × (waiting_times c a ≡ 0) × (times_at a (c.part r).making ≡ 1)
  pub stands : (a : ℕ) (x : Cell) → c.cell a ≡ Some x → Stands c.opening.formula c.journal x.number x.lits
  pub own_numbers : (a b : ℕ) (x y : Cell) → c.cell a ≡ Some x → c.cell b ≡ Some y → x.number ≡ y.number → a ≡ b
  pub valid_lines : Accepted c.opening.formula (lines c.opening.formula c.journal)
  pub seen_few : (r : ℕ) → length (c.part r).seen ≤ length c.units
