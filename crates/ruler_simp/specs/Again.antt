-- What going on with a formula promises: its rings have written into the journal, and the ruler works again.
use Rattle.std.specs.Prelude.{◌≡◌, ◌≤◌, ◌^◌, ℕ, false, List, [], ◌∷◌, ◌++◌, map, All, Result, Ok, Err}
use Rattle.sat_words.specs.Literal.{Literal}
use Rattle.sat_words.specs.Clause.{has}
use Rattle.rup_model.specs.declared.journal.Round.{Round as RoundStart}
use Rattle.rup_model.specs.declared.journal.Entry.{Entry}
use Rattle.rup_model.specs.declared.journal.Entry.TheVariants.{Round}
use Rattle.rup_model.specs.Log.{Refutes}
use Rattle.rup_model.specs.Journal.{book, lines}
use Rattle.rup_model.specs.Opening.{OpensAfter, program_opening}
use Rattle.model_stack.specs.declared.stack.Fix.{Fix}
use Rattle.model_stack.specs.Extend.{Lifts}
use Rattle.drat_text.specs.LineState.{LineState}
use Rattle.drat_text.specs.declared.stop.LineStop.{LineStop}
use Rattle.simp_base.specs.WorkState.{WorkState, known, unit_lits}
use Rattle.simp_base.specs.Log.{Stands}
use Rattle.simp_base.specs.Resumed.{Resumes}
use Rattle.simp_base.specs.Causes.{HasOutputCause}
use Rattle.ruler_simp.specs.declared.ruling.Simplified.{Simplified}
use Rattle.ruler_simp.specs.declared.ruling.Outcome.{Outcome}
use Rattle.ruler_simp.specs.declared.ruling.Outcome.TheVariants.{Simplified as LeftOver, Refuted as NoModel}
use Rattle.ruler_simp.specs.declared.rounds.Schedule.{Schedule}
use Rattle.ruler_simp.specs.Rounds.{SimplifiedTo}
use Rattle.ruler_simp.specs.Left.{start_of, left_clauses}
use Rattle.ruler_simp.specs.Ruled.{AreOn, HaveUnitNumbers, IsSound, IsUnended, run_of, HasVars, HasStack}

-- the work goes on from this journal of the formula, with some clauses of its units
abbrev pub ResumesAs : List (List Literal) → WorkState → List Entry → Type 0
ResumesAs F w journal = (units : List (Literal × ℕ)) × (unit_lits units ≡ w.units) × Resumes F w.vars w.clauses units w.stack w.output journal

-- the stack grew at its end, and each model of what is left, mended by what came, is one of the clauses and units before
pub record LiftsOn (start : WorkState) (s : Simplified) : Type 0 where
  pub fixes : List Fix
  pub stack : s.stack ≡ start.stack ++ fixes
  pub lifts : Lifts (known start) (left_clauses s) fixes

-- what the next round of the rings begins with
abbrev pub round_start : Simplified → RoundStart
round_start s = record { starts = map (λ c. c.0) s.start.items; units = unit_lits s.units.items }

-- the journal after which that round begins
abbrev pub before_round : List Entry → Simplified → List Entry
before_round journal s = journal ++ Round (round_start s) ∷ []

-- after this journal the start clauses, in their order, and the units are those of the program's opening, each unit with the number
-- of its clause, and once an entry begins
-- the next round the rings can start from them; models lift; all are on the variables that are left
pub record IsSimplifiedAgain (F : List (List Literal)) (start : WorkState) (journal : List Entry) (s : Simplified) : Type 0 where
  pub opens : OpensAfter F (record { journal = before_round journal s; starts = map start_of s.start.items; units = unit_lits s.units.items })
  pub starts : map start_of s.start.items ≡ (program_opening F journal).starts
  pub units : (l : Literal) → has (unit_lits s.units.items) l ≡ has (program_opening F journal).units l
  pub numbered : HaveUnitNumbers (book F journal) s.units.items
  pub lifts : LiftsOn start s
  pub on : AreOn s.vars s

-- what an answer tells of the formula, of the whole journal, and of the output before and after
abbrev pub IsAnswerAgain : List (List Literal) → WorkState → List Entry → LineState → Result Outcome LineStop → Type 0
IsAnswerAgain F start journal new (Ok (LeftOver s)) = IsSimplifiedAgain F start journal s × IsSound start.output new
IsAnswerAgain F start journal new (Ok NoModel) = Refutes F (lines F journal) × IsSound start.output new
IsAnswerAgain F start journal new (Err stop) = HasOutputCause start.output new stop × IsUnended journal

-- the simplifiers ran over what the work went on from, in the rounds of this schedule, and left a work and entries; after any journal
-- that the work goes on from, the work stands over the journal and these entries, and the answer is what they came to; there are
-- more variables only if the schedule has additions
pub record RuledAgain (F : List (List Literal)) (schedule : Schedule) (start : WorkState) (new : LineState) (result : Result Outcome LineStop) : Type 0 where
  pub entries : List Entry
  pub work : WorkState
  pub ran : SimplifiedTo schedule start work (run_of result) entries
  pub stands : (J : List Entry) → ResumesAs F start J → Stands (record { formula = F; journal = J; output = start.output }) entries work
  pub more : start.vars ≤ work.vars
  pub few : start.vars ≤ 2 ^ 30 → work.vars ≤ 2 ^ 30
  pub vars : schedule.additions ≡ false → work.vars ≡ start.vars
  pub has_vars : HasVars work.vars result
  pub has_stack : HasStack work.stack result
  pub output : new ≡ work.output
  pub answer : (J : List Entry) → ResumesAs F start J → IsAnswerAgain F start (J ++ entries) new result
