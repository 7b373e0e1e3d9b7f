-- Journals in rounds: the entry that begins the last round, and the entries after it.
use Rattle.std.specs.Prelude.{ℕ, ◌-◌, Bool, List, [], ◌∷◌, ◌++◌, map, length, take, Option, Some, None, if◌then◌else◌}
use Rattle.std.specs.List.{fold}
use Rattle.std.specs.Option.{is_some, unwrap_or}
use Rattle.sat_words.specs.Literal.{Literal}
use Rattle.rup_model.specs.declared.journal.Round.{Round as RoundStart}
use Rattle.rup_model.specs.declared.journal.Entry.{Entry}
use Rattle.rup_model.specs.Journal.{round_of, Book, book, IsSpaced}
use Rattle.rup_model.specs.Opening.{Start, Opening, IsNew}

-- the entry begins a round
abbrev pub begins_round : Entry → Bool
begins_round e = is_some (round_of e)

-- the entries of the round after one more
abbrev pub window_after : List Entry → Entry → List Entry
window_after w e = if begins_round e then [] else w ++ e ∷ []

-- the entries after the last that begins a round; all, if none does
abbrev pub since_round : List Entry → List Entry
since_round J = fold window_after [] J

-- the entries up to the last that begins a round, itself included
abbrev pub to_round : List Entry → List Entry
to_round J = take (length J - length (since_round J)) J

-- what the last round begins with after one more entry
abbrev pub last_after : Option RoundStart → Entry → Option RoundStart
last_after o e = if begins_round e then round_of e else o

-- what the last round begins with
abbrev pub last_round : List Entry → Option RoundStart
last_round J = fold last_after None J

-- the clause under this number, as a start clause
abbrev pub start_of : Book → ℕ → Start
start_of b n = record { number = n; lits = unwrap_or (b.clause n) [] }

-- what the rings start from after this journal, if its last entry begins a round with these start clauses and units
abbrev pub opening_by : List (List Literal) → List Entry → Option RoundStart → Opening
opening_by F J None = record { journal = J; starts = []; units = [] }
opening_by F J (Some x) = record { journal = J; starts = map (start_of (book F J)) x.starts; units = x.units }

-- what the rings of the last round started from
abbrev pub round_opening : List (List Literal) → List Entry → Opening
round_opening F J = opening_by F (to_round J) (last_round J)

-- a clause that is learned is new in its round
abbrev pub IsNewInRound : List (List Literal) → List Entry → Entry → Type 0
IsNewInRound F before e = IsNew (round_opening F before) (since_round before) e

-- a ring that reduces has learned enough clauses in its round
abbrev pub IsSpacedInRound : List Entry → Entry → Type 0
IsSpacedInRound before e = IsSpaced (since_round before) e
