-- What a verdict says of the clauses and of the journal.
use Rattle.std.specs.Prelude.{◌≡◌, ℕ, List, Bool, false, ◌==◌, Some, None}
use Rattle.std.specs.declared.option.Option.{Option}
use Rattle.std.specs.List.{list_any}
use Rattle.sat_words.specs.Literal.{Literal}
use Rattle.sat_words.specs.Truth.{value_of}
use Rattle.sat_words.specs.FormulaData.{FormulaData}
use Rattle.sat_words.specs.declared.shared.TheConstants.{STOP_SAT, STOP_REFUTED}
use Rattle.rup_model.specs.declared.journal.Entry.{Entry}
use Rattle.portfolio_run.specs.declared.plan.Plan.{Plan}
use Rattle.portfolio_run.specs.Ruled.{schedule_of, IsRuledThrough}
use Rattle.portfolio_run.specs.Solved.{IsModel, IsRefutation}
use Rattle.portfolio_run.specs.Spent.{LearnedAll}
use Rattle.top_call.specs.declared.report.SearchVerdict.{SearchVerdict}
use Rattle.top_call.specs.declared.report.SearchVerdict.TheVariants.{Satisfiable, Unsatisfiable, Unknown}

-- the test whether the variable occurs in the clause
abbrev pub mentions : List Literal → ℕ → Bool
mentions clause var = list_any (λ l. l.var == var) clause

-- the test whether the variable occurs in a clause of the list
abbrev pub occurs : List (List Literal) → ℕ → Bool
occurs clauses var = list_any (λ clause. mentions clause var) clauses

-- an assignment with a value for each variable that makes each clause true; a variable that occurs in no clause is false
pub record IsClearedModel (formula : FormulaData) (model : List Bool) : Type 0 where
  pub is_model : IsModel formula model
  pub idle : (var : ℕ) → occurs formula.clauses var ≡ false → value_of model var ≡ false

-- the verdict holds of the formula and the journal: there is a model; there is a refutation; the rings together have learned as many
-- lemmas as they may, each of them new in its round
abbrev pub Holds : Plan → FormulaData → List Entry → SearchVerdict → Type 0
Holds plan formula journal (Satisfiable model) = IsClearedModel formula model
Holds plan formula journal Unsatisfiable = IsRefutation formula.clauses journal
Holds plan formula journal Unknown = LearnedAll formula.clauses journal plan.threads plan.round plan.conflicts

-- the verdict holds of a run with this plan, in which the simplifiers came to their end before the first round
pub record Decides (plan : Plan) (formula : FormulaData) (journal : List Entry) (verdict : SearchVerdict) : Type 0 where
  pub holds : Holds plan formula journal verdict
  pub ruled : IsRuledThrough formula (schedule_of plan) journal

-- the kind of the stop with which the rings come to the verdict; none if they have learned as many lemmas as they may
abbrev pub verdict_kind : SearchVerdict → Option ℕ
verdict_kind (Satisfiable model) = Some STOP_SAT
verdict_kind Unsatisfiable = Some STOP_REFUTED
verdict_kind Unknown = None

-- some verdict holds
pub record IsDecided (plan : Plan) (formula : FormulaData) (journal : List Entry) : Type 0 where
  pub verdict : SearchVerdict
  pub decides : Decides plan formula journal verdict
