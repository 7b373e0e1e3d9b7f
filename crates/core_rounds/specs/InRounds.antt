-- What is read off a journal in rounds.
use Rattle.std.specs.Prelude.{◌≡◌, ◌⊎◌, ℕ, ◌-◌, ◌<◌, min, true, List, length, Option, Some, None}
use Rattle.std.specs.Option.{is_some}
use Rattle.sat_words.specs.Literal.{Literal}
use Rattle.rup_model.specs.declared.journal.Entry.{Entry}
use Rattle.rup_model.specs.Basics.{below}
use Rattle.rup_model.specs.Journal.{ring_of, learned, IsFresh}
use Rattle.rup_model.specs.NumberedLines.{IsHinted}
use Rattle.rup_model.specs.Opening.{is_rulers, start_clauses}
use Rattle.rup_model.specs.Windows.{begins_round, since_round, to_round, last_round, round_opening}

-- What is learned

-- how many clauses so many rings learned together
abbrev pub learned_by : ℕ → List Entry → ℕ
learned_by rings J = below rings (λ r. length (learned r J))

-- how many the next round may learn after so many: what is left of the most that all may, and no more than a round may, if that is bounded
abbrev pub round_limit : Option ℕ → ℕ → ℕ → ℕ
round_limit None most done = most - done
round_limit (Some every) most done = min every (most - done)

-- Entries

-- the entry is the ruler's, begins a round, or is of one of so many rings
abbrev pub IsOfRounds : ℕ → Entry → Type 0
IsOfRounds rings e = (is_rulers e ≡ true) ⊎ (begins_round e ≡ true) ⊎ (ring_of e < rings)

-- if the entry is the ruler's, the hints of what it adds show that it follows from the clauses that are alive before it
abbrev pub IsHintedByRuler : List (List Literal) → List Entry → Entry → Type 0
IsHintedByRuler F before e = is_rulers e ≡ true → IsHinted F before e

-- a clause that is learned is fresh in its round
abbrev pub IsFreshInRound : List (List Literal) → List Entry → Entry → Type 0
IsFreshInRound F before e = IsFresh (start_clauses (round_opening F before)) (since_round before) e

-- the round in which these entries end learned all that it might, and all that was learned up to here is less than the most
pub record MayGoOn (rings : ℕ) (every : Option ℕ) (most : ℕ) (J : List Entry) : Type 0 where
  pub spent : learned_by rings (since_round J) ≡ round_limit every most (learned_by rings (to_round J))
  pub left : learned_by rings J < most

-- a round begins after another only then
abbrev pub IsDueInRounds : ℕ → Option ℕ → ℕ → List Entry → Entry → Type 0
IsDueInRounds rings every most before e = begins_round e ≡ true → is_some (last_round before) ≡ true → MayGoOn rings every most before
