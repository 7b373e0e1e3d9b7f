-- What each end of a call says, by cases, of the formula that was read or made and of the one journal of the run.
use Rattle.std.specs.Prelude.{◌≡◌, ◌⊎◌, ℕ, List, [], true, is_some, IfSome, IsSome, IsSomeAnd, Some, None}
use Rattle.std.specs.declared.option.Option.{Option}
use Rattle.io_edge.specs.Causes.{Rose}
use Rattle.io_edge.specs.Paths.{IsEmptyWhereTold}
use Rattle.sat_words.specs.Formats.{has_hints}
use Rattle.sat_words.specs.FormulaData.{FormulaData}
use Rattle.sat_words.specs.declared.shared.NoRoom.{NoRoom}
use Rattle.sat_words.specs.declared.shared.TheConstants.{STOP_ROOM, STOP_PROOF, STOP_MEMORY}
use Rattle.rup_model.specs.declared.journal.Entry.{Entry}
use Rattle.ring_run.specs.declared.job.Counts.{Counts}
use Rattle.portfolio_run.specs.declared.plan.Plan.{Plan as SearchPlan}
use Rattle.portfolio_run.specs.Held.{IsHeld, HasStop}
use Rattle.portfolio_run.specs.Journaled.{IsJournal}
use Rattle.portfolio_run.specs.Room.{HasNoRoom}
use Rattle.portfolio_run.specs.Ruled.{schedule_of, IsRuled}
use Rattle.portfolio_run.specs.Rulings.{Ruling, work_after, HasRuledBetween}
use Rattle.portfolio_run.specs.Solved.{IsUnsettled, FaultsFit}
use Rattle.dimacs_read.specs.Codes.{number_of}
use Rattle.dimacs_read.specs.declared.stop.Code.{Code}
use Rattle.top_call.specs.declared.report.Tally.{Tally}
use Rattle.top_call.specs.declared.report.CallEnd.{CallEnd}
use Rattle.top_call.specs.declared.report.CallEnd.TheVariants as end
use Rattle.top_call.specs.declared.report.SearchVerdict.{SearchVerdict}
use Rattle.top_call.specs.declared.report.SearchVerdict.TheVariants as verdict
use Rattle.top_call.specs.Words.{command_of, file_path, proof_path}
use Rattle.top_call.specs.declared.plan.CallPlan.{CallPlan}
use Rattle.top_call.specs.Input.{WasGiven, WasBad}
use Rattle.top_call.specs.Answer.{answer_text, remarks_of}
use Rattle.top_call.specs.Run.{FaultCount, Writer, Output, Run, Call, run_of, HasFile, RoseIn, IsStill, Prints, PrintsPart}
use Rattle.top_call.specs.Journaled.{HoldsLog}
use Rattle.top_call.specs.Decided.{Decides, IsDecided, verdict_kind}
use Rattle.top_call.specs.Tallied.{no_tally, bad_tally, rings_tally, no_lack, AreLearned}

-- the proof's writer is there and holds the journal in the plan's format; it had failed `searched` times when the search was over, and its last call was
-- a flush
abbrev pub HasLog : FormulaData → List Entry → ℕ → Run → Type 0
HasLog formula journal searched run = IsSomeAnd run.proof (HoldsLog run.plan.search.format formula.clauses journal searched)

-- no formula was read: the proof's writer is there, with no byte, and was only flushed
pub record IsUnread (formula : FormulaData) (journal : List Entry) (run : Run) : Type 0 where
  pub log : HasLog formula journal 0 run
  pub nothing : journal ≡ []
  pub empty : IfSome run.proof (λ writer. IsEmptyWhereTold writer.written)

-- no formula was asked for by its number; the text has its first bad place in this line, with this code; the source didn't fail
pub record IsRefused (code : Code) (line : ℕ) (formula : FormulaData) (journal : List Entry) (tally : Tally) (run : Run) : Type 0 where
  pub unmade : run.plan.make ≡ None
  pub bad : WasBad run.text code line
  pub counts : tally ≡ bad_tally (number_of code) line
  pub source : IsStill run.source
  pub unread : IsUnread formula journal run

-- the source failed, or memory ran out, before a formula was read or before the ruler began; the output is as it was
pub record IsBroken (formula : FormulaData) (journal : List Entry) (tally : Tally) (run : Run) : Type 0 where
  pub unread : IsUnread formula journal run
  pub counts : tally ≡ no_tally
  pub out : IsStill run.out.faults

-- The formula was made, or read without a fault, and the rings that are asked for were to start. Their journal begins with what the
-- ruler wrote in the rounds of simplifiers that are allowed, and is what rounds of the rings leave, or the ruler after them; no more
-- lemmas were learned than allowed, in one round and in all. After each round of the rings the ruler went on as is asked. The steps of
-- the last round come to a stop of this kind, or to none, unless the rings rest. If it is a fault of the proof, the writer had failed by then; else it may have failed if two rings or
-- more ran. The writer holds the journal. The tally has what each ring counted in all rounds together, and the need and the room if
-- there was too little.
pub record IsStarted (kind : Option ℕ) (lack : NoRoom) (formula : FormulaData) (journal : List Entry) (tally : Tally) (run : Run) : Type 0 where
  pub given : WasGiven run.plan.make run.text formula
  pub source : IsStill run.source
  pub journal_stands : IsJournal run.plan.search.threads (has_hints run.plan.search.format) formula.clauses journal
  pub ruled : IsRuled formula (schedule_of run.plan.search) journal
  pub counts : List Counts
  pub held : IsHeld run.plan.search.threads run.plan.search.slots run.plan.search.round run.plan.search.conflicts formula.clauses journal counts
  pub rulings : List Ruling
  pub again : HasRuledBetween (schedule_of run.plan.search) ruled.work held rulings
  pub stop : HasStop held kind
  pub searched : ℕ
  pub faults_fit : FaultsFit run.plan.search formula journal held 0 searched kind
  pub log : HasLog formula journal searched run
  pub tally_is : tally ≡ rings_tally counts lack
  pub learned : AreLearned run.plan.search.threads run.plan.search.conflicts journal tally.learned

-- no call of the proof or the output failed
pub record IsQuiet (run : Run) : Type 0 where
  pub proof : IsSomeAnd run.proof (λ writer. writer.faults ≡ 0)
  pub out : IsStill run.out.faults

-- what is printed: if the formula was made, remarks on it and no values of a model; if the log was checked, a remark on that; and the
-- answer
abbrev pub printed_of : CallPlan → FormulaData → SearchVerdict → List ℕ
printed_of plan formula verdict = answer_text formula.vars (remarks_of (is_some plan.make) plan.search.keep_lines formula verdict) verdict

-- the verdict holds, and its text is printed, and nothing else
pub record IsAnswered (verdict : SearchVerdict) (formula : FormulaData) (journal : List Entry) (tally : Tally) (run : Run) : Type 0 where
  pub started : IsStarted (verdict_kind verdict) no_lack formula journal tally run
  pub decided : Decides run.plan.search formula journal verdict
  pub printed : Prints run.out (printed_of run.plan formula verdict)
  pub quiet : IsQuiet run

-- the output failed in printing a verdict that holds; the proof didn't fail before
pub record IsCutOff (formula : FormulaData) (journal : List Entry) (tally : Tally) (run : Run) : Type 0 where
  pub verdict : SearchVerdict
  pub started : IsStarted (verdict_kind verdict) no_lack formula journal tally run
  pub decided : Decides run.plan.search formula journal verdict
  pub proof : IsSomeAnd run.proof (λ writer. writer.faults ≡ 0)
  pub printed : PrintsPart run.out (printed_of run.plan formula verdict)
  pub rose : RoseIn run.out.faults

-- the search came to a verdict of this kind, which holds
pub record IsVerdictKind (kind : Option ℕ) (plan : SearchPlan) (formula : FormulaData) (journal : List Entry) : Type 0 where
  pub decided : IsDecided plan formula journal
  pub kind_is : kind ≡ verdict_kind decided.verdict

-- the proof failed: a line of it, for which the search stopped; or, after a verdict that holds, a line of another ring, what was left
-- to write, or the flush
pub record IsUnproved (formula : FormulaData) (journal : List Entry) (tally : Tally) (run : Run) : Type 0 where
  pub kind : Option ℕ
  pub started : IsStarted kind no_lack formula journal tally run
  pub failed : (kind ≡ Some STOP_PROOF) ⊎ IsVerdictKind kind run.plan.search formula journal
  pub rose : IsSomeAnd run.proof (λ writer. Rose 0 writer.faults)

-- there was no room, for which the search stopped: for a start clause of a round, for a clause that might come next after a front of
-- the journal, or for one entry more of a full one. All clauses of the round lie in the words that were asked for as the journal has
-- it, in a table over the variables that the ruler left before the last round. No draw of one of the rings has found all tickets of
-- that round gone, or the rings rest and something is left to learn; neither that ring nor the ruler has added the empty clause. The tally has what was needed and what there was.
pub record IsCrowded (lack : NoRoom) (formula : FormulaData) (journal : List Entry) (tally : Tally) (run : Run) : Type 0 where
  pub started : IsStarted (Some STOP_ROOM) lack formula journal tally run
  pub room : HasNoRoom run.plan.search (work_after started.ruled.work started.rulings).vars started.held lack
  pub unsettled : IsUnsettled started.held

-- memory ran out in the search, before a verdict: no draw of one of the rings has found all tickets of the last round gone, or the
-- rings rest and something is left to learn; neither that ring nor the ruler has added the empty clause; the output is as it was
pub record IsStarved (formula : FormulaData) (journal : List Entry) (tally : Tally) (run : Run) : Type 0 where
  pub started : IsStarted (Some STOP_MEMORY) no_lack formula journal tally run
  pub unsettled : IsUnsettled started.held
  pub out : IsStill run.out.faults

-- memory ran out in the check of the log, which is asked for, after a verdict that holds; no call of the proof or the output
-- failed
pub record IsUnchecked (formula : FormulaData) (journal : List Entry) (tally : Tally) (run : Run) : Type 0 where
  pub asked : run.plan.search.keep_lines ≡ true
  pub decided : IsDecided run.plan.search formula journal
  pub started : IsStarted (verdict_kind decided.verdict) no_lack formula journal tally run
  pub quiet : IsQuiet run

-- what holds of a run over a source, by its end
abbrev pub RunOutcome : CallEnd → FormulaData → List Entry → Tally → Run → Type 0
RunOutcome (end.Satisfiable model) F J tally run = IsAnswered (verdict.Satisfiable model) F J tally run
RunOutcome end.Unsatisfiable F J tally run = IsAnswered verdict.Unsatisfiable F J tally run
RunOutcome end.Unknown F J tally run = IsAnswered verdict.Unknown F J tally run
RunOutcome end.Usage F J tally run = ⊥
RunOutcome (end.BadInput code line) F J tally run = IsRefused code line F J tally run
RunOutcome end.CannotOpen F J tally run = ⊥
RunOutcome end.CannotCreate F J tally run = ⊥
RunOutcome end.ReadFault F J tally run = RoseIn run.source × (run.plan.make ≡ None) × IsBroken F J tally run
RunOutcome end.WriteFault F J tally run = IsCutOff F J tally run
RunOutcome end.ProofFault F J tally run = IsUnproved F J tally run
RunOutcome (end.Room lack) F J tally run = IsCrowded lack F J tally run
RunOutcome end.Memory F J tally run = (IsStill run.source × IsBroken F J tally run) ⊎ IsStarved F J tally run ⊎ IsUnchecked F J tally run

-- how a run over a source ended
pub record IsRun (end : CallEnd) (tally : Tally) (run : Run) : Type 0 where
  pub formula : FormulaData
  pub journal : List Entry
  pub outcome : RunOutcome end formula journal tally run

-- how a run ended whose formula was made or read, over every source that it may have been read from
abbrev pub Concluded : CallPlan → FormulaData → CallEnd → Tally → Writer → Output → Type 0
Concluded plan formula end tally writer out = (text : Option (List ℕ)) (source : FaultCount) → WasGiven plan.make text formula → IsStill source
    → IsRun end tally (record { plan = plan; text = text; source = source; proof = Some writer; out = out })

-- no proof was created, so nothing was read, logged, counted or printed
pub record IsBarren (journal : List Entry) (tally : Tally) (call : Call) : Type 0 where
  pub no_proof : call.proof ≡ None
  pub nothing : journal ≡ []
  pub counts : tally ≡ no_tally
  pub input : IsStill call.input
  pub out : IsStill call.out.faults

-- nothing was opened either
pub record IsIdle (journal : List Entry) (tally : Tally) (call : Call) : Type 0 where
  pub barren : IsBarren journal tally call
  pub no_file : call.file ≡ None

-- the arguments are valid, and no file failed; the file was read if one is given, else standard input
pub record IsWhole (end : CallEnd) (formula : FormulaData) (journal : List Entry) (tally : Tally) (call : Call) : Type 0 where
  pub lawful : IsSome (command_of call.words)
  pub file : HasFile call
  pub outcome : RunOutcome end formula journal tally (run_of call)
  pub files : IsStill call.files
  pub input : (call.file ≡ None) ⊎ IsStill call.input

-- what holds of a call, by its end
abbrev pub CallOutcome : CallEnd → FormulaData → List Entry → Tally → Call → Type 0
CallOutcome (end.Satisfiable model) F J tally call = IsWhole (end.Satisfiable model) F J tally call
CallOutcome end.Unsatisfiable F J tally call = IsWhole end.Unsatisfiable F J tally call
CallOutcome end.Unknown F J tally call = IsWhole end.Unknown F J tally call
CallOutcome end.Usage F J tally call = (command_of call.words ≡ None) × IsIdle J tally call
CallOutcome (end.BadInput code line) F J tally call = IsWhole (end.BadInput code line) F J tally call
CallOutcome end.CannotOpen F J tally call = RoseIn call.files × IsSome (file_path (command_of call.words)) × IsIdle J tally call
CallOutcome end.CannotCreate F J tally call = RoseIn call.files × IsSome (proof_path (command_of call.words)) × HasFile call × IsBarren J tally call
CallOutcome end.ReadFault F J tally call = IsWhole end.ReadFault F J tally call
CallOutcome end.WriteFault F J tally call = IsWhole end.WriteFault F J tally call
CallOutcome end.ProofFault F J tally call = IsWhole end.ProofFault F J tally call
CallOutcome (end.Room lack) F J tally call = IsWhole (end.Room lack) F J tally call
CallOutcome end.Memory F J tally call = (IsStill call.files × IsIdle J tally call) ⊎ IsWhole end.Memory F J tally call

-- how a call ended
pub record IsCall (end : CallEnd) (tally : Tally) (call : Call) : Type 0 where
  pub formula : FormulaData
  pub journal : List Entry
  pub outcome : CallOutcome end formula journal tally call
