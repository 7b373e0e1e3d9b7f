-- What a table begins with.
use Rattle.std.specs.Prelude.{◌≡◌, ◌≤◌, ◌<◌, ◌^◌, Bool, false, ℕ, zero, suc, ⊤, ◌+◌, ◌-◌, ◌*◌, ◌/◌, List, [], ◌∷◌, ◌++◌, map, length, replicate, All}
use Rattle.sat_words.specs.Literal.{Literal, code_of}
use Rattle.sat_words.specs.declared.shared.TheConstants.{MAX_ENTRIES}
use Rattle.clause_cell.specs.Packing.{words_for, pair_of, lit_word}
use Rattle.sat_words.specs.declared.shared.Cref.{Cref}
use Rattle.clause_cell.specs.declared.holes.HoleStop.{HoleStop}
use Rattle.clause_cell.specs.declared.holes.HoleStop.TheVariants.{NoHole, Memory}
use Rattle.clause_cell.specs.Free.{largest}
use Rattle.rup_model.specs.declared.journal.TheConstants.{RULER_RING}
use Rattle.rup_model.specs.declared.journal.Entry.{Entry}
use Rattle.rup_model.specs.Journal.{book, ended}
use Rattle.rup_model.specs.Opening.{Start, OpensAfter, AreAscending}
use Rattle.share_core.specs.declared.event.TheConstants.{MAX_DEPTH}
use Rattle.share_core.specs.declared.stored.ClauseAt.{ClauseAt}
use Rattle.share_core.specs.declared.part.CoreOpening.{CoreOpening}
use Rattle.share_core.specs.State.{unit_lits, unit_numbers, ArePaired}
use Rattle.share_rule.specs.declared.Layout.{Layout}
use Rattle.share_rule.specs.Layout.{InVars, first_cell, slots}
use Rattle.share_rule.specs.Room.{start_room}

-- The opening

-- how many words the clauses take
abbrev pub total : List (ℕ × List Literal) → ℕ
total [] = 0
total (s ∷ ss) = words_for (length s.1) + total ss

-- the start clauses, each with its number, stand one after the other from this word on
abbrev pub starts_at : ℕ → List (ℕ × List Literal) → List ClauseAt
starts_at a [] = []
starts_at a (s ∷ ss) = record { address = a; number = s.0; lits = s.1 } ∷ starts_at (a + words_for (length s.1)) ss

-- what the rings start from, in a log with hints or without
abbrev pub begun_with : List (List Literal) → Layout → Bool → List Entry → List (ℕ × List Literal) → List (Literal × ℕ) → CoreOpening
begun_with F l hinted J ss us = record {
  formula = F;
  rings = l.rings;
  depth = l.depth;
  journal = J;
  starts = starts_at (first_cell l) ss;
  units = unit_lits us;
  numbers = unit_numbers us;
  limit = l.conflicts;
  hinted = hinted;
}

-- as the log has them, at no address
abbrev pub starts_of : List (ℕ × List Literal) → List Start
starts_of ss = map (λ s. record { number = s.0; lits = s.1 }) ss

-- a small layout, and an opening whose literals are on its variables; the start clauses come in order of number, which is the
-- order of their words; each unit comes with the number of a clause that is this unit; the formula has no empty clause; there
-- are at most 2^63 tickets
pub record MayBegin (F : List (List Literal)) (l : Layout) (J : List Entry) (ss : List (ℕ × List Literal)) (us : List (Literal × ℕ)) : Type 0 where
  pub some_ring : 1 ≤ l.rings
  pub few_rings : l.rings ≤ RULER_RING
  pub few_vars : l.vars ≤ 2 ^ 30
  pub few_words : l.words ≤ 2 ^ 31
  pub some_slot : 1 ≤ l.depth
  pub few_slots : l.depth ≤ MAX_DEPTH
  pub opens : OpensAfter F (record { journal = J; starts = starts_of ss; units = unit_lits us })
  pub ascending : AreAscending (starts_of ss)
  pub going : ended F J ≡ false
  pub few_entries : length J ≤ MAX_ENTRIES
  pub starts : All (λ s. InVars l s.1) ss
  pub units : InVars l (unit_lits us)
  pub paired : ArePaired (book F J) (unit_lits us) (unit_numbers us)
  pub limited : l.conflicts ≤ 2 ^ 63

-- the start clause whose turn it is needs more words than the longest hole has that those before it leave
abbrev pub IsNoHole : Layout → List (ℕ × List Literal) → ℕ → ℕ → Type 0
IsNoHole l ss need most = (front rest : List (ℕ × List Literal)) × (s : ℕ × List Literal) × (ss ≡ front ++ s ∷ rest)
    × (need ≡ words_for (length s.1)) × (most ≡ largest (start_room l (starts_at (first_cell l) front)).holes) × (most < need)

-- why no table is made
abbrev pub IsMakeStop : Layout → List (ℕ × List Literal) → HoleStop → Type 0
IsMakeStop l ss (NoHole need most) = IsNoHole l ss need most
IsMakeStop l ss Memory = ⊤

-- the addresses
abbrev pub addresses : List ClauseAt → List Cref
addresses ss = map (λ s. record { address = s.address }) ss

-- Words

-- the first words with literals
abbrev pub lit_words : List Literal → ℕ → List ℕ
lit_words lits zero = []
lit_words lits (suc j) = lit_words lits j ++ lit_word lits j ∷ []

-- the cell of a start clause: its glue is 0
abbrev pub cell_words : ℕ → ℕ × List Literal → List ℕ
cell_words count s = (count ∷ s.0 ∷ pair_of (length s.1) 0 ∷ []) ++ lit_words s.1 ((length s.1 + 1) / 2)

-- all of them
abbrev pub start_words : ℕ → List (ℕ × List Literal) → List ℕ
start_words count [] = []
start_words count (s ∷ ss) = cell_words count s ++ start_words count ss

-- below the cells: no turn, no stop, the listed units, open grants, empty slots
abbrev pub low_words : Layout → List (Literal × ℕ) → List ℕ
low_words l us = (0 ∷ 0 ∷ length us ∷ []) ++ (replicate l.rings 1 ++ (map (λ u. code_of u.0) us ++ replicate (2 * l.vars - length us + slots l) 0))

-- behind the cells: no ticket drawn, the numbers of the listed units
abbrev pub last_words : Layout → List (Literal × ℕ) → List ℕ
last_words l us = 0 ∷ unit_numbers us ++ replicate (2 * l.vars - length us) 0

-- all of them, with what is free after the start clauses
abbrev pub first_words : Layout → List (ℕ × List Literal) → List (Literal × ℕ) → List ℕ
first_words l ss us = low_words l us ++ (start_words l.rings ss ++ (replicate (l.words - total ss) 0 ++ last_words l us))
