-- What an answer says: it holds of one journal, which the proof's sink has been given.
use Rattle.std.specs.Prelude.{◌≡◌, ◌≢◌, ◌==◌, ◌<◌, ◌≤◌, ◌⊎◌, ⊤, ℕ, Bool, true, false, List, length, filter, Some, None, IsSome, IfSome}
use Rattle.std.specs.declared.option.Option.{Option}
use Rattle.io_edge.specs.Causes.{Rose}
use Rattle.sat_words.specs.Literal.{Literal}
use Rattle.sat_words.specs.Truth.{formula_true}
use Rattle.sat_words.specs.Formats.{has_hints}
use Rattle.sat_words.specs.FormulaData.{FormulaData}
use Rattle.sat_words.specs.declared.line.Line.{Line}
use Rattle.sat_words.specs.declared.line.ProofFormat.{ProofFormat}
use Rattle.sat_words.specs.declared.shared.TheConstants.{STOP_SAT, STOP_REFUTED, STOP_ROOM, STOP_PROOF, STOP_MEMORY}
use Rattle.rup_model.specs.declared.journal.Entry.{Entry}
use Rattle.rup_model.specs.Log.{Refutes}
use Rattle.rup_model.specs.declared.journal.TheConstants.{RULER_RING}
use Rattle.rup_model.specs.Journal.{ring_of, lines}
use Rattle.rup_model.specs.NumberedLines.{numbered_lines}
use Rattle.drat_text.specs.Spelling.{proof_bytes}
use Rattle.log_book.specs.Ended.{IsClosed}
use Rattle.log_book.specs.Kept.{HoldsText, IsFrontTold}
use Rattle.ring_run.specs.declared.job.Counts.{Counts}
use Rattle.portfolio_run.specs.declared.answer.Answer.{Answer}
use Rattle.portfolio_run.specs.declared.answer.Answer.TheVariants.{Sat, Unsat, Unknown, NoHole, ProofFault, Memory}
use Rattle.portfolio_run.specs.declared.plan.Plan.{Plan}
use Rattle.portfolio_run.specs.Held.{IsHeld, HasStop, NeverGone, IsRunning}
use Rattle.portfolio_run.specs.Journaled.{IsJournal, IsUnrefuted, IsCutShort}
use Rattle.portfolio_run.specs.Room.{HasNoRoom}
use Rattle.portfolio_run.specs.Ruled.{schedule_of, IsRuled, IsRuledThrough}
use Rattle.portfolio_run.specs.Rulings.{Ruling, work_after, HasRuledBetween}
use Rattle.portfolio_run.specs.Spent.{LearnedAll}

-- a value for each variable, which make each clause true
pub record IsModel (formula : FormulaData) (model : List Bool) : Type 0 where
  pub holds : formula_true model formula.clauses ≡ true
  pub long : length model ≡ formula.vars

-- the journal's lines lead to the empty clause, and no assignment makes each clause true
pub record IsRefutation (clauses : List (List Literal)) (journal : List Entry) : Type 0 where
  pub refuted : Refutes clauses (lines clauses journal)
  pub no_model : (model : List Bool) → formula_true model clauses ≡ true → ⊥

-- no draw of one of the rings has found all tickets of the last round gone, or the rings rest and something is left to learn; and
-- neither that ring nor the ruler has added the empty clause
pub record IsUnsettled {rings slots : ℕ} {every : Option ℕ} {most : ℕ} {clauses : List (List Literal)} {journal : List Entry} {tally : List Counts} (held : IsHeld rings slots every most clauses journal tally) : Type 0 where
  pub ring : ℕ
  pub below : ring < rings
  pub tickets : NeverGone held ring
  pub going : IsUnrefuted (filter (λ e. ring_of e == ring) journal)
  pub rulers : IsUnrefuted (filter (λ e. ring_of e == RULER_RING) journal)

-- the answer is a verdict on the formula
abbrev pub is_verdict : Answer → Bool
is_verdict (Sat model) = true
is_verdict Unsat = true
is_verdict Unknown = true
is_verdict (NoHole lack) = false
is_verdict ProofFault = false
is_verdict Memory = false

-- what is answered if the proof could not be finished: no verdict
abbrev pub unfinished : Answer → Answer
unfinished (Sat model) = ProofFault
unfinished Unsat = ProofFault
unfinished Unknown = ProofFault
unfinished (NoHole lack) = NoHole lack
unfinished ProofFault = ProofFault
unfinished Memory = Memory

-- what the answer says of the formula, the journal and the rings' steps, if a table is over so many variables: a model; a
-- refutation; the rings together have learned as many lemmas as they may, each of them new in its round; there was no room for what
-- came next, or no memory, before all was settled
abbrev pub Holds : (plan : Plan) → ℕ → (formula : FormulaData) → (journal : List Entry) → {tally : List Counts} → IsHeld plan.threads plan.slots plan.round plan.conflicts formula.clauses journal tally → Answer → Type 0
Holds plan vars formula journal held (Sat model) = IsModel formula model
Holds plan vars formula journal held Unsat = IsRefutation formula.clauses journal
Holds plan vars formula journal held Unknown = LearnedAll formula.clauses journal plan.threads plan.round plan.conflicts
Holds plan vars formula journal held (NoHole lack) = HasNoRoom plan vars held lack × IsUnsettled held
Holds plan vars formula journal held ProofFault = ⊤
Holds plan vars formula journal held Memory = IsUnsettled held

-- the kind of the stop with which the rings come to this answer, and with none if each of them is spent
abbrev pub kind_of : Answer → Option ℕ
kind_of (Sat model) = Some STOP_SAT
kind_of Unsat = Some STOP_REFUTED
kind_of Unknown = None
kind_of (NoHole lack) = Some STOP_ROOM
kind_of ProofFault = Some STOP_PROOF
kind_of Memory = Some STOP_MEMORY

-- where a search that comes to this kind of stop has met a fault of the proof, the sink has failed by then; at each other kind no
-- line had failed, unless two rings or more ran beside each other, or were to run, in a round that has begun
pub record FaultsFit (plan : Plan) (formula : FormulaData) (journal : List Entry) {tally : List Counts} (held : IsHeld plan.threads plan.slots plan.round plan.conflicts formula.clauses journal tally) (before searched : ℕ) (kind : Option ℕ) : Type 0 where
  pub rose : kind ≡ Some STOP_PROOF → Rose before searched
  pub calm : kind ≢ Some STOP_PROOF → (searched ≡ before) ⊎ ((2 ≤ plan.threads) × IsRunning held × IsRuledThrough formula (schedule_of plan) journal)

-- a search has come to this answer, which holds, over this journal: it begins with what the ruler wrote in the plan's rounds, and
-- rounds of the rings leave it, with the stop of this answer, or they rest after what the ruler wrote since; after each round of the
-- rings the ruler went on as the plan asks; a verdict comes only if the simplifiers came to their end before the first round. The
-- table's variables are those that the ruler left last. The sink of the proof had failed this often before the search, and this often
-- by then.
pub record IsReached (plan : Plan) (formula : FormulaData) (answer : Answer) (tally : List Counts) (before searched : ℕ) (journal : List Entry) : Type 0 where
  pub stands : IsJournal plan.threads (has_hints plan.format) formula.clauses journal
  pub ruled : IsRuled formula (schedule_of plan) journal
  pub held : IsHeld plan.threads plan.slots plan.round plan.conflicts formula.clauses journal tally
  pub rulings : List Ruling
  pub again : HasRuledBetween (schedule_of plan) ruled.work held rulings
  pub stop : HasStop held (kind_of answer)
  pub holds : Holds plan (work_after ruled.work rulings).vars formula journal held answer
  pub through : is_verdict answer ≡ true → IsRuledThrough formula (schedule_of plan) journal
  pub faults_fit : FaultsFit plan formula journal held before searched (kind_of answer)

-- the answer that is known is that of the search, or in the place of a verdict, where the sink has failed, a fault of the proof; a
-- verdict is known only if it has not
pub record IsTold (found answer : Answer) (before faults : ℕ) : Type 0 where
  pub ends : (answer ≡ found) ⊎ ((answer ≡ unfinished found) × Rose before faults)
  pub quiet : is_verdict answer ≡ true → faults ≡ before

-- no call of the sink failed before the last flush: so at a verdict, and where the count of faults says so
abbrev pub IsSure : (before poured : ℕ) → Answer → Type 0
IsSure before poured answer = (is_verdict answer ≡ true) ⊎ (Rose before poured → ⊥)

-- what the sink has of the proof, when it had failed this often before, by the search's end and now: what was left of the lines was
-- written and the sink then flushed, when it had failed `poured` times. If its bytes are known, they are those of the journal's lines in
-- this format at a verdict, and if nothing had failed before the flush; a front of those, if nothing had failed in the search; and in
-- each case a front of those, or of those and one line more.
pub record IsFinished (format : ProofFormat) (clauses : List (List Literal)) (journal : List Entry) (answer : Answer) (before searched faults : ℕ) (flushed written : Option (List ℕ)) : Type 0 where
  pub poured : ℕ
  pub grown : (searched ≤ poured) × (poured ≤ faults)
  pub closed : IsClosed poured faults flushed written
  pub whole : IsSure before poured answer → HoldsText written (proof_bytes format (numbered_lines clauses journal))
  pub front : (Rose before searched → ⊥) → IsFrontTold written (proof_bytes format (numbered_lines clauses journal))
  pub short : IsCutShort format clauses journal written

-- lines come back where they were to be kept and no call of the sink failed, unless memory ran out, and at no other time; they are
-- the journal's
pub record AreKept (asked : Bool) (clauses : List (List Literal)) (journal : List Entry) (answer : Answer) (before faults : ℕ) (kept : Option (List Line)) : Type 0 where
  pub are : IfSome kept (λ L. L ≡ lines clauses journal)
  pub asked_for : IsSome kept → asked ≡ true
  pub quiet : IsSome kept → faults ≡ before
  pub there : asked ≡ true → answer ≢ Memory → IsSure before faults answer → IsSome kept

-- so a call answers whose sink had failed this often before, and has these faults and bytes now: a search came to an answer over one
-- journal, when the sink had failed `searched` times; then the proof was finished, and the answer told
pub record IsSolved (plan : Plan) (formula : FormulaData) (answer : Answer) (tally : List Counts) (before faults : ℕ) (flushed written : Option (List ℕ)) (kept : Option (List Line)) : Type 0 where
  pub journal : List Entry
  pub found : Answer
  pub searched : ℕ
  pub reached : IsReached plan formula found tally before searched journal
  pub told : IsTold found answer before faults
  pub finished : IsFinished plan.format formula.clauses journal answer before searched faults flushed written
  pub lines_are : AreKept plan.keep_lines formula.clauses journal answer before faults kept
