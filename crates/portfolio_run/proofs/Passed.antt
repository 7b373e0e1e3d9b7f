-- Rounds went by, the last of them spent: what is known of the journal that they left.
use Rattle.std.proofs.Common.{◌≡◌, ◌≤◌, ◌^◌, ℕ, true, false, List, ◌∷◌, length, All}
use Rattle.std.specs.List.{list_any}
use Rattle.sat_words.specs.Literal.{IsOn}
use Rattle.sat_words.specs.Clause.{is_empty}
use Rattle.sat_words.specs.Formats.{has_hints}
use Rattle.sat_words.specs.FormulaData.{FormulaData}
use Rattle.rup_model.specs.declared.journal.Entry.{Entry}
use Rattle.rup_model.specs.Journal.{LogSound}
use Rattle.rup_model.specs.NumberedLines.{AreHinted}
use Rattle.model_stack.specs.declared.stack.Fix.{Fix}
use Rattle.core_rounds.specs.Rounds.{RoundRun, IsSpent, AreRounds}
use Rattle.core_rounds.specs.InRounds.{learned_by}
use Rattle.ring_run.specs.declared.job.Counts.{Counts}
use Rattle.portfolio_run.specs.declared.plan.Plan.{Plan}
use Rattle.portfolio_run.specs.Held.{AreTallied, total}
use Rattle.portfolio_run.specs.Journaled.{IsUnrefuted}
use Rattle.portfolio_run.specs.Pauses.{StandsInRounds, HasBegun, IsSmall}
use Rattle.portfolio_run.specs.Ruled.{schedule_of}
use Rattle.portfolio_run.specs.Rulings.{Ruling, HaveRuled, work_after}

-- the rounds left the journal, the last one x, which is spent; the table of that one was over these variables, and had this stack
pub record HavePassed (plan : Plan) (F : FormulaData) (vars : ℕ) (stack : List Fix) (tally : List Counts) (done : ℕ) (x : RoundRun) (xs : List RoundRun) (J : List Entry) : Type 0 where
  pub some_ring : 1 ≤ plan.threads
  pub rounds : AreRounds plan.threads plan.slots plan.round plan.conflicts F.clauses (x ∷ xs) J
  pub spent : IsSpent x
  pub done_is : done ≡ learned_by plan.threads J
  pub within : done ≤ plan.conflicts
  pub counts : List (List Counts)
  pub tallied : AreTallied plan.threads (x ∷ xs) counts
  pub tally_is : tally ≡ total plan.threads counts
  pub many : length tally ≡ plan.threads
  pub small : All (IsSmall plan.threads done) tally
  pub first : HasBegun F (schedule_of plan) J
  pub rulings : List Ruling
  pub ruled : HaveRuled F.clauses (schedule_of plan) first.work (x ∷ xs) rulings
  pub vars_are : vars ≡ (work_after first.work rulings).vars
  pub stack_is : stack ≡ (work_after first.work rulings).stack
  pub more : F.vars ≤ vars
  pub few : vars ≤ 2 ^ 30
  pub on : All (All (IsOn F.vars)) F.clauses
  pub whole : list_any is_empty F.clauses ≡ false
  pub going : IsUnrefuted J
  pub stood : StandsInRounds vars plan.threads F.clauses J
  pub sound : LogSound F.clauses J
  pub hinted : has_hints plan.format ≡ true → AreHinted F.clauses J
