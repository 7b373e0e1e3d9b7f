-- What simplifying a formula promises.
use Rattle.std.specs.Prelude.{◌≡◌, ◌≤◌, ◌^◌, ℕ, false, List, [], ◌∷◌, map, Some, All, Result, Ok, Err}
use Rattle.std.specs.List.{list_any}
use Rattle.sat_words.specs.Literal.{Literal, IsOn}
use Rattle.sat_words.specs.Clause.{has, is_empty}
use Rattle.sat_words.specs.FormulaData.{FormulaData}
use Rattle.rup_model.specs.declared.journal.Entry.{Entry}
use Rattle.rup_model.specs.Log.{Refutes}
use Rattle.rup_model.specs.Journal.{Book, book, lines, added}
use Rattle.rup_model.specs.Opening.{IsOpening, program_opening}
use Rattle.model_stack.specs.declared.stack.Fix.{Fix}
use Rattle.model_stack.specs.Extend.{Lifts}
use Rattle.drat_text.specs.LineState.{LineState}
use Rattle.drat_text.specs.JournalText.{Origin}
use Rattle.drat_text.specs.declared.stop.LineStop.{LineStop}
use Rattle.simp_base.specs.WorkState.{WorkState, IsFixOn, begun, unit_lits}
use Rattle.simp_base.specs.Log.{Stands}
use Rattle.simp_base.specs.Causes.{HasOutputCause}
use Rattle.simp_base.specs.declared.work.Run.{Run}
use Rattle.simp_base.specs.declared.work.Run.TheVariants.{Done as RunDone, Refuted as RunRefuted}
use Rattle.ruler_simp.specs.declared.ruling.Simplified.{Simplified}
use Rattle.ruler_simp.specs.declared.ruling.Outcome.{Outcome}
use Rattle.ruler_simp.specs.declared.ruling.Outcome.TheVariants.{Simplified as LeftOver, Refuted as NoModel}
use Rattle.ruler_simp.specs.declared.rounds.Schedule.{Schedule}
use Rattle.ruler_simp.specs.Rounds.{SimplifiedTo}
use Rattle.ruler_simp.specs.Left.{start_of, left_clauses}

-- the output takes further lines, and has failed at none
pub record IsSound (old new : LineState) : Type 0 where
  pub unspent : new.spent ≡ false
  pub quiet : new.faults ≡ old.faults

-- all literals are on these variables
pub record AreOn (vars : ℕ) (s : Simplified) : Type 0 where
  pub start : All (λ c. All (IsOn vars) c.1) s.start.items
  pub units : All (IsOn vars) (unit_lits s.units.items)
  pub stack : All (IsFixOn vars) s.stack

-- each of these units has the number of a clause that is this unit
abbrev pub HaveUnitNumbers : Book → List (Literal × ℕ) → Type 0
HaveUnitNumbers b us = All (λ u. b.clause u.1 ≡ Some (u.0 ∷ [])) us

-- the formula has no empty clause; after this journal the start clauses, in their order, and the units are those of the
-- program's opening, each unit with the number of its clause; each model of them, mended by the stack, is one of the formula; all
-- are on the variables that are left
pub record IsSimplified (F : FormulaData) (journal : List Entry) (s : Simplified) : Type 0 where
  pub going : list_any is_empty F.clauses ≡ false
  pub opens : IsOpening F.clauses (record { journal = journal; starts = map start_of s.start.items; units = unit_lits s.units.items })
  pub starts : map start_of s.start.items ≡ (program_opening F.clauses journal).starts
  pub units : (l : Literal) → has (unit_lits s.units.items) l ≡ has (program_opening F.clauses journal).units l
  pub numbered : HaveUnitNumbers (book F.clauses journal) s.units.items
  pub lifts : Lifts F.clauses (left_clauses s) s.stack
  pub on : AreOn s.vars s

-- no entry adds the empty clause
abbrev pub IsUnended : List Entry → Type 0
IsUnended journal = list_any is_empty (added journal) ≡ false

-- what an answer tells of the formula, of the journal, and of the output before and after: if simplifying was stopped, no
-- verdict had been reached
abbrev pub IsAnswer : FormulaData → List Entry → LineState → LineState → Result Outcome LineStop → Type 0
IsAnswer F journal old new (Ok (LeftOver s)) = IsSimplified F journal s × IsSound old new
IsAnswer F journal old new (Ok NoModel) = Refutes F.clauses (lines F.clauses journal) × IsSound old new
IsAnswer F journal old new (Err stop) = HasOutputCause old new stop × IsUnended journal

-- how the last of the simplifiers ended
abbrev pub run_of : Result Outcome LineStop → Result Run LineStop
run_of (Ok (LeftOver s)) = Ok RunDone
run_of (Ok NoModel) = Ok RunRefuted
run_of (Err stop) = Err stop

-- a log of this formula that begins here
abbrev pub origin_of : FormulaData → LineState → Origin
origin_of F output = record { formula = F.clauses; journal = []; output = output }

-- what is left has the variables of the work
abbrev pub HasVars : ℕ → Result Outcome LineStop → Type 0
HasVars vars (Ok (LeftOver s)) = s.vars ≡ vars
HasVars vars (Ok NoModel) = Unit {0}
HasVars vars (Err stop) = Unit {0}

-- and its stack
abbrev pub HasStack : List Fix → Result Outcome LineStop → Type 0
HasStack stack (Ok (LeftOver s)) = s.stack ≡ stack
HasStack stack (Ok NoModel) = Unit {0}
HasStack stack (Err stop) = Unit {0}

-- the simplifiers ran over the formula in the rounds of this schedule, and left a work and a journal; the work stands over the
-- journal, so that each of its lines is valid where it stands, all of them on the work's variables, and the output has them;
-- these are the formula's, and more only if the schedule has additions; the answer is what they came to
pub record Ruled (F : FormulaData) (schedule : Schedule) (old new : LineState) (result : Result Outcome LineStop) : Type 0 where
  pub journal : List Entry
  pub work : WorkState
  pub ran : SimplifiedTo schedule (begun F old) work (run_of result) journal
  pub stands : Stands (origin_of F old) journal work
  pub more : F.vars ≤ work.vars
  pub few : F.vars ≤ 2 ^ 30 → work.vars ≤ 2 ^ 30
  pub vars : schedule.additions ≡ false → work.vars ≡ F.vars
  pub has_vars : HasVars work.vars result
  pub has_stack : HasStack work.stack result
  pub output : new ≡ work.output
  pub answer : IsAnswer F journal old new result
