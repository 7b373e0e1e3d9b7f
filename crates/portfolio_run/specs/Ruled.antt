-- What the ruler does before the rings start.
use Rattle.std.specs.Prelude.{◌≡◌, ◌≢◌, false, List, [], length, Result, Ok, Err}
use Rattle.sat_words.specs.FormulaData.{FormulaData}
use Rattle.rup_model.specs.declared.journal.Entry.{Entry}
use Rattle.drat_text.specs.LineState.{LineState}
use Rattle.drat_text.specs.declared.stop.LineStop.{LineStop}
use Rattle.simp_base.specs.WorkState.{WorkState, begun}
use Rattle.simp_base.specs.declared.work.Run.{Run}
use Rattle.simp_base.specs.declared.work.Run.TheVariants.{Done}
use Rattle.ruler_simp.specs.declared.rounds.Schedule.{Schedule}
use Rattle.ruler_simp.specs.Rounds.{SimplifiedTo}
use Rattle.portfolio_run.specs.declared.plan.Plan.{Plan}
use Rattle.rup_model.specs.Opening.{ruler_part, rings_part}

-- the rounds that the plan asks for: with additions, or without
abbrev pub schedule_of : Plan → Schedule
schedule_of plan = record { rounds = plan.rounds; additions = plan.additions }

-- the simplifiers ran over the formula in the rounds of this schedule, their lines going to an output that had none, wrote the front
-- of the journal and came to this; no round began and no ring wrote anything unless they were done
pub record IsRuled (formula : FormulaData) (schedule : Schedule) (journal : List Entry) : Type 0 where
  pub output : LineState
  pub unspent : output.spent ≡ false
  pub none : output.entries ≡ 0
  pub last : output.last ≡ length formula.clauses
  pub work : WorkState
  pub result : Result Run LineStop
  pub ran : SimplifiedTo schedule (begun formula output) work result (ruler_part journal)
  pub alone : result ≢ Ok Done → rings_part journal ≡ []

-- the simplifiers ran to their end, and no line of theirs was refused
pub record IsRuledThrough (formula : FormulaData) (schedule : Schedule) (journal : List Entry) : Type 0 where
  pub ruled : IsRuled formula schedule journal
  pub through : (why : LineStop) → ruled.result ≢ Err why
