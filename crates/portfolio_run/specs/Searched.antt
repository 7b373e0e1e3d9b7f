-- What the rings' ends come to.
use Rattle.std.specs.Prelude.{◌≡◌, ◌⊎◌, ◌≤◌, ⊤, ℕ, List, All, length, map, slice_index_or, take}
use Rattle.atomic_table.specs.declared.shared.Seat.{Seat}
use Rattle.model_stack.specs.declared.stack.Fix.{Fix}
use Rattle.model_stack.specs.Extend.{extend}
use Rattle.share_rule.specs.declared.Shared.{Shared}
use Rattle.share_rule.specs.declared.view.View.{View}
use Rattle.std.specs.declared.option.Option.{Option}
use Rattle.ring_run.specs.declared.job.Counts.{Counts}
use Rattle.ring_run.specs.declared.job.End.{End}
use Rattle.ring_run.specs.declared.job.End.TheVariants as end
use Rattle.portfolio_run.specs.declared.answer.Answer.{Answer}
use Rattle.portfolio_run.specs.declared.answer.Answer.TheVariants.{Sat, Unsat, Unknown, NoHole, ProofFault, Memory}
use Rattle.portfolio_run.specs.declared.plan.Plan.{Plan}
use Rattle.portfolio_run.specs.Ends.{IsWonBy}
use Rattle.portfolio_run.specs.Reached.{HaveRun, HaveRested}

-- the answer of the end that counts: a model is mended by the ruler's stack, and cut to so many variables
abbrev pub answer_of : ℕ → List Fix → End → Answer
answer_of vars stack (end.Sat a) = Sat (take vars (extend stack a))
answer_of vars stack end.Refuted = Unsat
answer_of vars stack end.Spent = Unknown
answer_of vars stack (end.Stopped x) = Unknown
answer_of vars stack (end.NoHole lack) = NoHole lack
answer_of vars stack end.ProofFault = ProofFault
answer_of vars stack end.Memory = Memory

-- the stack can mend the model of this end, which has values for so many variables
abbrev pub IsMended : ℕ → List Fix → End → Type 0
IsMended vars stack (end.Sat a) = (vars ≤ length a) × All (λ fix. fix.lit.var ≤ length a) stack
IsMended vars stack _ = ⊤

-- no stop stands, and each ring is spent
pub record AllSpent (ends : List (End × Counts)) (answer : Answer) : Type 0 where
  pub each : All (λ e. e.0 ≡ end.Spent) ends
  pub is : answer ≡ Unknown

-- the stop is this ring's, whose end gives the answer
pub record WasWon (v : View) (vars : ℕ) (stack : List Fix) (ends : List (End × Counts)) (answer : Answer) : Type 0 where
  pub ring : ℕ
  pub won : IsWonBy v ends ring
  pub is : (d : End × Counts) → answer ≡ answer_of vars stack (slice_index_or ends ring d).0

-- all rings ran, and the end that counts gives the answer
pub record HasRunTo {B : Type 0} (t : Shared B) (v : View) (home : List ℕ) (plan : Plan) (vars : ℕ) (stack : List Fix) (p : Seat (Option B) View) (tally : List Counts) (answer : Answer) : Type 0 where
  pub ends : List (End × Counts)
  pub run : HaveRun t v home plan p ends
  pub tally_is : tally ≡ map (λ e. e.1) ends
  pub decided : AllSpent ends answer ⊎ WasWon p.me.0 vars stack ends answer

-- memory ran out before a ring ran
pub record HasStarved {B : Type 0} (t : Shared B) (v : View) (p : Seat (Option B) View) (before tally : List Counts) (answer : Answer) : Type 0 where
  pub rested : HaveRested t v p
  pub tally_is : tally ≡ before
  pub is : answer ≡ Memory

-- what the search over an open table comes to
abbrev pub HasSearched : {B : Type 0} → Shared B → View → List ℕ → Plan → ℕ → List Fix → Seat (Option B) View → List Counts → List Counts → Answer → Type 0
HasSearched t v home plan vars stack p before tally answer = HasRunTo t v home plan vars stack p tally answer ⊎ HasStarved t v p before tally answer
