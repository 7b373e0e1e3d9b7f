-- The row of the tests of vivification: two start clauses, and what is held of them.
use Rattle.std.specs.Prelude.{◌≡◌, ℕ, Bool, true, false, List, [], ◌∷◌, Some}
use Rattle.sat_words.specs.Literal.{Literal}
use Rattle.sat_words.specs.declared.shared.Cref.{Cref}
use Rattle.rup_model.specs.declared.journal.Kind.TheVariants.{Derive}
use Rattle.ring_port.specs.PortState.{Holding, PortState, held_at}
use Rattle.ring_port.specs.Port.{is_usable, AddedClause}
use Rattle.vivify.specs.declared.shorten.Vivified.{Vivified}
use Rattle.vivify.specs.Outcome.{IsVivified}
use Rattle.watch_prop.specs.WatchData.{WatchData, attached}

-- the literal of a variable, negated or not
abbrev pub lit : ℕ → Bool → Literal
lit v n = record { var = v; neg = n }

-- the first clause
abbrev pub first : List Literal
first = lit 1 false ∷ lit 3 true ∷ []

-- the second clause, which is made shorter
abbrev pub second : List Literal
second = lit 1 false ∷ lit 2 false ∷ lit 3 false ∷ []

-- the start clauses, each with its number
abbrev pub row_starts : List (ℕ × List Literal)
row_starts = (1, first) ∷ (2, second) ∷ []

-- a start clause at its address
abbrev pub start_at : ℕ → ℕ → List Literal → Holding
start_at a n c = record { address = a; number = n; glue = 0; lits = c }

-- both are held, at the addresses 0 and 4, and nothing stands against a line; the log has no hints
pub record IsRow (s : PortState) : Type 0 where
  pub vars : s.vars ≡ 3
  pub first : held_at s 0 ≡ Some (start_at 0 1 first)
  pub second : held_at s 4 ≡ Some (start_at 4 2 second)
  pub usable : is_usable s.refused ≡ true
  pub taken : s.taken ≡ []
  pub plain : s.hinted ≡ false

-- a copy of the second clause was derived with glue 2, attached after the first one, and vivified if nothing is true
pub record VivifiedCopy (old new : PortState) (left : Vivified) : Type 0 where
  pub middle : PortState
  pub copy : Cref
  pub v : WatchData
  pub w : WatchData
  pub derived : AddedClause old middle second 2 Derive copy
  pub attached_two : attached v ≡ record { address = 0 } ∷ copy ∷ []
  pub vivified : IsVivified middle new v w [] copy left
