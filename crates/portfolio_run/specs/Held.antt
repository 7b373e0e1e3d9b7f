-- Rounds of the rings, the journal that they leave, and what the rings counted.
use Rattle.std.specs.Prelude.{◌≡◌, ◌≢◌, ◌⊎◌, ⊤, ℕ, ◌≤◌, ◌<◌, ◌+◌, ◌*◌, ◌-◌, true, List, [], ◌∷◌, ◌++◌, filter, length, replicate, slice_index_or, count_by, Option, Some, None}
use Rattle.std.specs.List.{All}
use Rattle.std.specs.Option.{option_map, option_to_list}
use mathlib.Core.Logic.{inl, inr}
use Rattle.sat_words.specs.Literal.{Literal}
use Rattle.sat_words.specs.declared.shared.TheConstants.{STOP_SAT}
use Rattle.rup_model.specs.declared.journal.Round.{Round as RoundStart}
use Rattle.rup_model.specs.declared.journal.Entry.{Entry}
use Rattle.rup_model.specs.declared.journal.Entry.TheVariants.{Round}
use Rattle.rup_model.specs.Journal.{learned}
use Rattle.rup_model.specs.Opening.{is_rulers}
use Rattle.share_core.specs.declared.event.Event.{Event}
use Rattle.share_core.specs.Left.{shares}
use Rattle.core_rounds.specs.Rounds.{RoundRun, left_by, written_in, IsDue, AreRounds}
use Rattle.core_rounds.specs.InRounds.{learned_by}
use Rattle.ring_run.specs.declared.job.Counts.{Counts}
use Rattle.ring_run.specs.Ended.{is_short, is_long, HasRestarted}

-- Counts

-- what the ring counted: its lemmas; how many of them it offered, all of two to seven literals and none of one; its shares among
-- the events, one for each other ring and lemma offered; and its restarts
pub record IsTallied (rings ring : ℕ) (events : List Event) (journal : List Entry) (counts : Counts) : Type 0 where
  pub learned_is : counts.learned ≡ length (learned ring journal)
  pub all : length (filter is_short (learned ring journal)) ≤ counts.exported
  pub few : counts.exported ≤ length (filter is_long (learned ring journal))
  pub shares_are : counts.offered ≡ count_by (shares ring) events
  pub offered_is : counts.offered ≡ (rings - 1) * counts.exported
  pub restarted : HasRestarted ring counts

-- of a ring that did not run
abbrev pub no_counts : Counts
no_counts = record { learned = 0; exported = 0; offered = 0; restarts = 0 }

-- what a ring counted in some rounds and in one more
abbrev pub add_counts : Counts → Counts → Counts
add_counts c d = record { learned = c.learned + d.learned; exported = c.exported + d.exported; offered = c.offered + d.offered; restarts = c.restarts + d.restarts }

-- the same of each ring
abbrev pub add_tallies : List Counts → List Counts → List Counts
add_tallies [] ds = []
add_tallies (c ∷ cs) [] = []
add_tallies (c ∷ cs) (d ∷ ds) = add_counts c d ∷ add_tallies cs ds

-- what each of so many rings counted in all rounds together
abbrev pub total : ℕ → List (List Counts) → List Counts
total rings [] = replicate rings no_counts
total rings (cs ∷ more) = add_tallies cs (total rings more)

-- each of the rings has its counts, over the steps and the entries of one round
pub record IsRoundTallied (rings : ℕ) (x : RoundRun) (cs : List Counts) : Type 0 where
  pub many : length cs ≡ rings
  pub each : (ring : ℕ) (d : Counts) → ring < rings → IsTallied rings ring x.events (written_in x) (slice_index_or cs ring d)

-- and so of each round, in the same order
abbrev pub AreTallied : ℕ → List RoundRun → List (List Counts) → Type 0
AreTallied rings [] [] = ⊤
AreTallied rings [] (cs ∷ more) = ⊥
AreTallied rings (x ∷ xs) [] = ⊥
AreTallied rings (x ∷ xs) (cs ∷ more) = IsRoundTallied rings x cs × AreTallied rings xs more

-- Where a run stands

-- the last round's rings left the journal: lists of enabled steps, one after each opening, lead to it, so no clause was deleted
-- that a ring, a slot or an open grant still had; the rings learned no more lemmas than they may; each counted what it did
pub record RanWithin (rings slots : ℕ) (every : Option ℕ) (most : ℕ) (clauses : List (List Literal)) (journal : List Entry) (tally : List Counts) : Type 0 where
  pub last : RoundRun
  pub before : List RoundRun
  pub rounds : AreRounds rings slots every most clauses (last ∷ before) journal
  pub within : learned_by rings journal ≤ most
  pub counts : List (List Counts)
  pub tallied : AreTallied rings (last ∷ before) counts
  pub tally_is : tally ≡ total rings counts

-- the rings rest, before a round or between two: after what the rounds so far left, one more being due, the ruler wrote, and a
-- round may have begun, in which no ring wrote; each counted what it did in the rounds, and perhaps there are no counts before any
pub record RestsBetween (rings slots : ℕ) (every : Option ℕ) (most : ℕ) (clauses : List (List Literal)) (journal : List Entry) (tally : List Counts) : Type 0 where
  pub runs : List RoundRun
  pub left : List Entry
  pub rounds : AreRounds rings slots every most clauses runs left
  pub due : IsDue rings most runs left
  pub written : List Entry
  pub rulers : All (λ e. is_rulers e ≡ true) written
  pub begun : Option RoundStart
  pub journal_is : journal ≡ (left ++ written) ++ option_to_list (option_map Round begun)
  pub within : learned_by rings journal ≤ most
  pub counts : List (List Counts)
  pub tallied : AreTallied rings runs counts
  pub tally_is : (tally ≡ total rings counts) ⊎ ((runs ≡ []) × (tally ≡ []))

-- either
abbrev pub IsHeld : (rings slots : ℕ) → Option ℕ → (most : ℕ) → List (List Literal) → List Entry → List Counts → Type 0
IsHeld rings slots every most clauses journal tally = RestsBetween rings slots every most clauses journal tally ⊎ RanWithin rings slots every most clauses journal tally

-- no draw of the ring in the last round has found all tickets gone; if the rings rest, no ring has run, or something is left to learn
abbrev pub NeverGone : {rings slots : ℕ} {every : Option ℕ} {most : ℕ} {clauses : List (List Literal)} {journal : List Entry} {tally : List Counts} → IsHeld rings slots every most clauses journal tally → ℕ → Type 0
NeverGone {rings} {slots} {every} {most} {clauses} {journal} (inl rests) ring = (rests.runs ≡ []) ⊎ (learned_by rings journal < most)
NeverGone {rings} {slots} {every} {most} {clauses} {journal} (inr ran) ring = ((left_by ran.last).part ring).found ≤ ran.last.opening.limit

-- the stop to which the steps of the last round come is of this kind, or there is none; if the rings rest, there is a kind, and not that
-- of a model
abbrev pub HasStop : {rings slots : ℕ} {every : Option ℕ} {most : ℕ} {clauses : List (List Literal)} {journal : List Entry} {tally : List Counts} → IsHeld rings slots every most clauses journal tally → Option ℕ → Type 0
HasStop (inl rests) kind = (kind ≢ Some STOP_SAT) × (kind ≢ None)
HasStop (inr ran) kind = option_map (λ stop. stop.kind) (left_by ran.last).stop ≡ kind

-- the last round has begun: its rings ran, or were to run
abbrev pub IsRunning : {rings slots : ℕ} {every : Option ℕ} {most : ℕ} {clauses : List (List Literal)} {journal : List Entry} {tally : List Counts} → IsHeld rings slots every most clauses journal tally → Type 0
IsRunning (inl rests) = rests.begun ≢ None
IsRunning (inr ran) = ⊤
