-- What a report says, by its status: of the formula that was read or made and of the one journal of the run; and when the call must
-- answer.
use Rattle.std.specs.Prelude.{◌≡◌, ◌≢◌, ◌⊎◌, ℕ, List, [], length, sum, Bool, Some, None, IfSome, IsSome}
use Rattle.std.specs.declared.option.Option.{Option}
use Rattle.sat_words.specs.Formats.{has_hints}
use Rattle.sat_words.specs.FormulaData.{FormulaData}
use Rattle.rup_model.specs.declared.journal.Entry.{Entry}
use Rattle.io_edge.specs.Causes.{Rose}
use Rattle.ring_run.specs.declared.job.Counts.{Counts}
use Rattle.portfolio_run.specs.declared.plan.Plan.{Plan as SearchPlan}
use Rattle.portfolio_run.specs.Held.{IsHeld}
use Rattle.portfolio_run.specs.Journaled.{IsJournal}
use Rattle.dimacs_read.specs.Input.{Reads}
use Rattle.dimacs_read.specs.declared.stop.Code.{Code}
use Rattle.top_call.specs.declared.report.Tally.{Tally}
use Rattle.top_call.specs.declared.report.SearchVerdict.{SearchVerdict}
use Rattle.top_call.specs.declared.report.SearchVerdict.TheVariants.{Satisfiable, Unsatisfiable, Unknown}
use Rattle.top_call.specs.Words.{Command, command_of, file_path, make_number, proof_path}
use Rattle.top_call.specs.Input.{WasGiven}
use Rattle.top_call.specs.Run.{Call, HasFile, run_of, source_of, text_of, RoseIn, IsStill}
use Rattle.top_call.specs.Journaled.{HoldsLog}
use Rattle.top_call.specs.Planned.{plan_of}
use Rattle.top_call.specs.Tallied.{Tells}
use Rattle.top_call.specs.Outcome.{IsBroken, IsRefused, IsAnswered, IsCutOff, IsUnproved, IsCrowded, IsStarved, IsUnchecked, IsBarren, IsIdle}

-- how the ruler and the rings are asked to search
abbrev pub search_in : Call → SearchPlan
search_in call = (plan_of (command_of call.words)).search

-- the verdict holds of the formula and the journal; nothing failed but perhaps a write to `err`
pub record Answers (verdict : SearchVerdict) (formula : FormulaData) (journal : List Entry) (tally : Tally) (call : Call) : Type 0 where
  pub answered : IsAnswered verdict formula journal tally (run_of call)
  pub files : IsStill call.files
  pub input : IsStill call.input

-- the report has a model of the formula
pub record HasModel (model : Option (List Bool)) (formula : FormulaData) (journal : List Entry) (tally : Tally) (call : Call) : Type 0 where
  pub values : List Bool
  pub reported : model ≡ Some values
  pub answers : Answers (Satisfiable values) formula journal tally call

-- the rings together have learned as many lemmas as they may, and the tally, with a number for each ring, says so
pub record IsExhausted (formula : FormulaData) (journal : List Entry) (tally : Tally) (call : Call) : Type 0 where
  pub answers : Answers Unknown formula journal tally call
  pub many : length tally.learned ≡ (search_in call).threads
  pub learned : sum tally.learned ≡ (search_in call).conflicts

-- the arguments are refused, and nothing was opened or created
pub record IsUnasked (journal : List Entry) (tally : Tally) (call : Call) : Type 0 where
  pub words : command_of call.words ≡ None
  pub idle : IsIdle journal tally call

-- the tally has the code and the line of the text's first bad place
pub record HasBadPlace (formula : FormulaData) (journal : List Entry) (tally : Tally) (call : Call) : Type 0 where
  pub code : Code
  pub refused : IsRefused code tally.line formula journal tally (run_of call)

-- a file is given and could not be opened, and nothing was opened or created
pub record IsUnopened (journal : List Entry) (tally : Tally) (call : Call) : Type 0 where
  pub rose : RoseIn call.files
  pub asked : IsSome (file_path (command_of call.words))
  pub idle : IsIdle journal tally call

-- a proof is wanted and could not be created; the input was opened before, if a file is given
pub record IsUncreated (journal : List Entry) (tally : Tally) (call : Call) : Type 0 where
  pub rose : RoseIn call.files
  pub asked : IsSome (proof_path (command_of call.words))
  pub file : HasFile call
  pub barren : IsBarren journal tally call

-- the arguments are valid, and all that they ask for was made: the input was opened if a file is given, and the proof was
-- created; no file failed, and if a file was read, standard input did not fail
pub record MadeAll (call : Call) : Type 0 where
  pub lawful : IsSome (command_of call.words)
  pub file : HasFile call
  pub proof : IsSome call.proof
  pub files : IsStill call.files
  pub input : (call.file ≡ None) ⊎ IsStill call.input

-- memory ran out: no count rose except perhaps those of the proof and of `err`. Nothing was made, or all that is asked for; then no
-- formula was read or made, or the ruler didn't begin, or the search came to no verdict, or it did and the check of the log, which
-- is asked for, came to no end.
pub record RanOut (formula : FormulaData) (journal : List Entry) (tally : Tally) (call : Call) : Type 0 where
  pub files : IsStill call.files
  pub input : IsStill call.input
  pub source : IsStill (source_of call)
  pub out : IsStill call.out.faults
  pub made : IsIdle journal tally call ⊎ (MadeAll call × (IsBroken formula journal tally (run_of call) ⊎ IsStarved formula journal tally (run_of call) ⊎ IsUnchecked formula journal tally (run_of call)))

-- one journal stands, of as many rings as are asked for, of the formula that was read or made, or empty. The proof, if there is
-- one, holds it in the format that is asked for and was flushed last; it had failed `searched` times when the search was over.
pub record HasJournal (formula : FormulaData) (journal : List Entry) (call : Call) : Type 0 where
  pub stands : IsJournal (search_in call).threads (has_hints (search_in call).format) formula.clauses journal
  pub of_input : (journal ≡ []) ⊎ WasGiven (make_number (command_of call.words)) (text_of call) formula
  pub searched : ℕ
  pub log : IfSome call.proof (HoldsLog (search_in call).format formula.clauses journal searched)

-- rounds of the rings leave the journal, each a list of enabled steps from the ruler's end on, who writes alone before, between and
-- perhaps after them: so no clause was deleted that a ring, a place of an exchange or an open grant still had, and the rings
-- together learned no more lemmas than they may, in one round and in all. The tally has what each ring counted in all rounds
-- together: its lemmas, those that it offered, and the places of other rings in which it put them, one for each of them and lemma.
pub record IsCounted (formula : FormulaData) (journal : List Entry) (tally : Tally) (call : Call) : Type 0 where
  pub counts : List Counts
  pub held : IsHeld (search_in call).threads (search_in call).slots (search_in call).round (search_in call).conflicts formula.clauses journal counts
  pub told : Tells counts tally

-- the text is known and spells a formula
pub record IsReadable (call : Call) : Type 0 where
  pub text : List ℕ
  pub told : text_of call ≡ Some text
  pub formula : FormulaData
  pub spelled : Reads text formula

-- the arguments are valid, a formula is asked for by its number or can be read, and no count of faults rose or stands at its last
-- value, except perhaps that of `err`
pub record MustAnswer (call : Call) : Type 0 where
  pub command : Command
  pub lawful : command_of call.words ≡ Some command
  pub given : IsSome command.make ⊎ IsReadable call
  pub files : RoseIn call.files → ⊥
  pub source : RoseIn (source_of call) → ⊥
  pub out : RoseIn call.out.faults → ⊥
  pub proof : IfSome call.proof (λ writer. Rose 0 writer.faults → ⊥)

-- the status of an answer: SATISFIABLE, UNSATISFIABLE or UNKNOWN
abbrev pub IsAnswer : ℕ → Type 0
IsAnswer status = (status ≡ 10) ⊎ (status ≡ 20) ⊎ (status ≡ 0)

-- what holds of a call, by its status
pub record Statuses (call : Call) (status : ℕ) (model : Option (List Bool)) (tally : Tally) : Type 0 where
  -- the formula that was read or made, and the journal of the run; each case is of these
  pub formula : FormulaData
  pub journal : List Entry
  pub satisfiable : status ≡ 10 → HasModel model formula journal tally call
  pub unsatisfiable : status ≡ 20 → Answers Unsatisfiable formula journal tally call
  pub unknown : status ≡ 0 → IsExhausted formula journal tally call
  pub usage : status ≡ 1 → IsUnasked journal tally call
  pub refused : command_of call.words ≡ None → (status ≡ 1) ⊎ (status ≡ 9)
  pub bad_input : status ≡ 2 → HasBadPlace formula journal tally call
  pub cannot_open : status ≡ 3 → IsUnopened journal tally call
  pub cannot_create : status ≡ 4 → IsUncreated journal tally call
  pub read_fault : status ≡ 5 → RoseIn (source_of call) × (make_number (command_of call.words) ≡ None) × IsBroken formula journal tally (run_of call)
  pub write_fault : status ≡ 6 → IsCutOff formula journal tally (run_of call)
  pub proof_fault : status ≡ 7 → IsUnproved formula journal tally (run_of call)
  pub room : status ≡ 8 → IsCrowded (record { need = tally.need; largest = tally.largest }) formula journal tally (run_of call)
  pub memory : status ≡ 9 → RanOut formula journal tally call
  pub known : IsAnswer status ⊎ (status ≡ 1) ⊎ (status ≡ 2) ⊎ (status ≡ 3) ⊎ (status ≡ 4) ⊎ (status ≡ 5) ⊎ (status ≡ 6) ⊎ (status ≡ 7) ⊎ (status ≡ 8) ⊎ (status ≡ 9)
  pub no_model : status ≢ 10 → model ≡ None
  pub made : status ≢ 1 → status ≢ 3 → status ≢ 4 → status ≢ 9 → MadeAll call
  pub log : HasJournal formula journal call
  pub held : IsCounted formula journal tally call
  pub complete : MustAnswer call → IsAnswer status ⊎ (status ≡ 8) ⊎ (status ≡ 9)
