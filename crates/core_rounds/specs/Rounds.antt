-- Rounds of the rings, one after another, and the journal that they leave.
use Rattle.std.specs.Prelude.{◌≡◌, ℕ, ◌<◌, true, List, [], ◌∷◌, ◌++◌, map, fold, Contains, Option, IfSome, ⊤}
use Rattle.std.specs.List.{All}
use Rattle.sat_words.specs.Literal.{Literal}
use Rattle.sat_words.specs.Clause.{has}
use Rattle.rup_model.specs.declared.journal.Round.{Round as RoundStart}
use Rattle.rup_model.specs.declared.journal.Entry.{Entry}
use Rattle.rup_model.specs.declared.journal.Entry.TheVariants.{Round}
use Rattle.rup_model.specs.Journal.{deletion}
use Rattle.rup_model.specs.Opening.{is_rulers, program_opening}
use Rattle.share_core.specs.declared.event.Event.{Event}
use Rattle.share_core.specs.declared.part.CoreOpening.{CoreOpening}
use Rattle.share_core.specs.State.{opening_of, later, IsCoreOpening, State, opened}
use Rattle.share_core.specs.Enabled.{AllEnabled}
use Rattle.share_core.specs.Events.{after}
use Rattle.core_rounds.specs.InRounds.{learned_by, round_limit}

-- One round

-- what the rings did in one round: what they started from, and their steps
pub record RoundRun : Type 0 where
  pub opening : CoreOpening
  pub events : List Event

-- the state to which they came
abbrev pub left_by : RoundRun → State
left_by x = fold after (opened x.opening) x.events

-- the entries that they wrote
abbrev pub written_in : RoundRun → List Entry
written_in x = later x.opening (left_by x).journal

-- what the round begins with: the numbers of the start clauses, and the units
abbrev pub start_for : CoreOpening → RoundStart
start_for o = record { starts = map (λ s. s.number) o.starts; units = o.units }

-- the entry that begins the round
abbrev pub beginning_of : CoreOpening → Entry
beginning_of o = Round (start_for o)

-- the entry does not delete one of the start clauses
abbrev pub KeepsStarts : CoreOpening → Entry → Type 0
KeepsStarts o e = IfSome (deletion e) (λ n. Contains (start_for o).starts n → ⊥)

-- so many rings, with slots of this depth and this limit, opened as the program does after the journal and the entry that
-- begins the round; each of their steps was enabled, and no entry that they wrote deletes a start clause
pub record IsRound (rings depth limit : ℕ) (F : List (List Literal)) (before : List Entry) (x : RoundRun) : Type 0 where
  pub rings_are : x.opening.rings ≡ rings
  pub depth_is : x.opening.depth ≡ depth
  pub limit_is : x.opening.limit ≡ limit
  pub formula_is : x.opening.formula ≡ F
  pub journal_is : x.opening.journal ≡ before ++ beginning_of x.opening ∷ []
  pub starts : (opening_of x.opening).starts ≡ (program_opening F before).starts
  pub units : (l : Literal) → has x.opening.units l ≡ has (program_opening F before).units l
  pub opens : IsCoreOpening x.opening
  pub enabled : AllEnabled (opened x.opening) x.events
  pub keeps : All (KeepsStarts x.opening) (written_in x)

-- the rings learned all that they might in the round
abbrev pub IsSpent : RoundRun → Type 0
IsSpent x = learned_by x.opening.rings (written_in x) ≡ x.opening.limit

-- Rounds one after another

-- one more round may begin: there is none before it, or all that was learned up to there is less than the most, and the last round is spent
abbrev pub IsDue : ℕ → ℕ → List RoundRun → List Entry → Type 0
IsDue rings most [] J = ⊤
IsDue rings most (x ∷ xs) J = IsSpent x × (learned_by rings J < most)

-- the rounds, the last first, leave this journal: the ruler alone writes between two, and each begins when it is due
abbrev pub AreRounds : ℕ → ℕ → Option ℕ → ℕ → List (List Literal) → List RoundRun → List Entry → Type 0
AreRounds rings depth every most F [] J = J ≡ []
AreRounds rings depth every most F (x ∷ xs) J = (before : List Entry) × (rest : List Entry) × AreRounds rings depth every most F xs before × All (λ e. is_rulers e ≡ true) rest
    × IsDue rings most xs before × IsRound rings depth (round_limit every most (learned_by rings before)) F (before ++ rest) x × (J ≡ (left_by x).journal)
