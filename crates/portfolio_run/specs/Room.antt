-- What it means that there was no room, over the whole journal of a run.
use Rattle.std.specs.Prelude.{◌≡◌, ◌⊎◌, ◌≤◌, ◌+◌, ◌^◌, ℕ, List, ◌++◌, length, Option, Some}
use mathlib.Core.Logic.{inl, inr}
use Rattle.sat_words.specs.Literal.{Literal}
use Rattle.sat_words.specs.declared.shared.NoRoom.{NoRoom}
use Rattle.rup_model.specs.declared.journal.Round.{Round as RoundStart}
use Rattle.rup_model.specs.declared.journal.Entry.{Entry}
use Rattle.rup_model.specs.Opening.{program_opening}
use Rattle.share_core.specs.declared.part.CoreOpening.{CoreOpening}
use Rattle.share_core.specs.State.{opening_of}
use Rattle.core_rounds.specs.InRounds.{learned_by, round_limit}
use Rattle.share_rule.specs.declared.Layout.{Layout}
use Rattle.share_rule.specs.FirstWords.{IsNoHole, starts_at}
use Rattle.share_rule.specs.Layout.{first_cell}
use Rattle.share_rule.specs.Tight.{IsTight, numbered}
use Rattle.ring_run.specs.declared.job.Counts.{Counts}
use Rattle.portfolio_run.specs.declared.plan.Plan.{Plan}
use Rattle.portfolio_run.specs.Held.{IsHeld, RestsBetween}

-- the layout of a table for the plan's rings, words and slots, over so many variables, for a round of so many lemmas
abbrev pub layout_of : Plan → (vars limit : ℕ) → Layout
layout_of plan vars limit = record { rings = plan.threads; vars = vars; words = plan.words; depth = plan.slots; conflicts = limit }

-- the journal is full, with 2^48 entries, and the numbers count entries
pub record IsFullJournal (journal : List Entry) (lack : NoRoom) : Type 0 where
  pub full : 2 ^ 48 ≤ length journal
  pub need_is : lack.need ≡ 2 ^ 48 + 1
  pub most_is : lack.largest ≡ 2 ^ 48

-- a round has begun, and a start clause of the program's opening before it found no free range that is long enough
pub record IsUnplaced (layout : Layout) {rings slots : ℕ} {every : Option ℕ} {most : ℕ} {clauses : List (List Literal)} {journal : List Entry} {tally : List Counts} (rests : RestsBetween rings slots every most clauses journal tally) (lack : NoRoom) : Type 0 where
  pub start : RoundStart
  pub begun : rests.begun ≡ Some start
  pub none : IsNoHole layout (numbered (program_opening clauses (rests.left ++ rests.written)).starts) lack.need lack.largest

-- the opening with its start clauses one after another in the words of this layout
abbrev pub laid_out : Layout → CoreOpening → CoreOpening
laid_out layout o = record o { starts = starts_at (first_cell layout) (numbered (opening_of o).starts) }

-- The clauses of a round lie in the table's words as the journal has it, each at the front of the first free range that is long
-- enough. Before the round's rings ran a start clause came next, or after a front of the journal a clause might come next, which
-- needed more words than the longest free range had; or the journal is full, and the numbers count entries.
abbrev pub HasNoRoom : (plan : Plan) → ℕ → {every : Option ℕ} {clauses : List (List Literal)} {journal : List Entry} {tally : List Counts} → IsHeld plan.threads plan.slots every plan.conflicts clauses journal tally → NoRoom → Type 0
HasNoRoom plan vars {every} {clauses} {journal} (inl rests) lack = IsUnplaced (layout_of plan vars (round_limit every plan.conflicts (learned_by plan.threads rests.left))) rests lack ⊎ IsFullJournal journal lack
HasNoRoom plan vars {every} {clauses} {journal} (inr ran) lack = IsTight (layout_of plan vars ran.last.opening.limit) (laid_out (layout_of plan vars ran.last.opening.limit) ran.last.opening) journal lack.need lack.largest
