-- From what the statuses say to what is promised of a formula that is read.
use Rattle.std.proofs.Common.{◌≡◌, ℕ, List, Bool, Some, None, refl, sym, subst, arith}
use Rattle.std.specs.Prelude.{IfSome, IsSomeAnd, option_and_then}
use Rattle.std.specs.declared.option.Option.{Option}
use Rattle.sat_words.specs.Literal.{Literal}
use Rattle.sat_words.specs.FormulaData.{FormulaData}
use Rattle.rup_model.specs.declared.journal.Entry.{Entry}
use Rattle.rup_model.specs.Log.{Refutes}
use Rattle.rup_model.specs.NumberedLines.{numbered_lines}
use Rattle.rup_model.proofs.Lines.{numbered_lines_lines}
use Rattle.sat_words.specs.declared.line.ProofFormat.{ProofFormat}
use Rattle.drat_text.specs.Text.{CanBeSpelled}
use Rattle.drat_text.specs.Spelling.{proof_bytes}
use Rattle.log_book.specs.Kept.{HoldsText}
use Rattle.dimacs_read.specs.Input.{Reads}
use Rattle.top_call.specs.declared.report.Tally.{Tally}
use Rattle.top_call.specs.declared.report.SearchVerdict.TheVariants.{Unsatisfiable}
use Rattle.top_call.specs.Input.{WasGiven}
use Rattle.top_call.specs.Words.{Command, command_of, make_number, proof_format}
use Rattle.top_call.specs.Planned.{plan_of}
use Rattle.top_call.specs.Run.{Call, Writer, text_of, writer_of}
use Rattle.top_call.specs.Journaled.{HoldsLog}
use Rattle.top_call.specs.Statuses.{Answers, HasModel, Statuses, search_in}
use Rattle.top_call.specs.Promise.{unless_made, asked_text, HasModelOf, HasProofOf, Promise}
use Rattle.top_call.proofs.LratSteps.{is_lrat_proof}
use Rattle.top_call.proofs.StatusLemmas.{given}

-- a plan has the format that the words ask for
format_planned : (c : Option Command) → (plan_of c).search.format ≡ proof_format c
format_planned None = refl
format_planned (Some command) = refl

-- a formula that was read is the one that the text spells
read_of : (make : Option ℕ) (input : Option (List ℕ)) (F : FormulaData) (P : List ℕ → Type 0) → WasGiven make input F → ((bytes : List ℕ) → Reads bytes F → P bytes) → IfSome (unless_made make input) P
read_of None None F P is all = tt
read_of None (Some bytes) F P is all = all bytes is
read_of (Some number) input F P is all = tt

if_told : (bytes : Option (List ℕ)) (all : List ℕ) → HoldsText bytes all → IfSome bytes (λ x. x ≡ all)
if_told None all h = tt
if_told (Some bytes) all h = h

-- a writer that did not fail has the whole log
whole_log : {W : Type 0} (faults : W → ℕ) (written flushed : W → Option (List ℕ)) (proof : Option W) (format : ProofFormat) (clauses : List (List Literal)) (J : List Entry) (searched : ℕ)
    → IsSomeAnd (writer_of faults written flushed proof) (HoldsLog format clauses J searched) → IsSomeAnd (writer_of faults written flushed proof) (λ writer. writer.faults ≡ 0)
    → IfSome (option_and_then written proof) (λ bytes. bytes ≡ proof_bytes format (numbered_lines clauses J))
whole_log faults written flushed None format clauses J searched log none = tt
whole_log faults written flushed (Some writer) format clauses J searched log none =
    if_told (written writer) (proof_bytes format (numbered_lines clauses J)) (log.whole (let grown = log.grown in omega (arith, grown, none)))

module _ {W : Type 0} (faults : W → ℕ) (written flushed : W → Option (List ℕ)) (proof : Option W) (call : Call) (is : call.proof ≡ writer_of faults written flushed proof) (F : FormulaData) (J : List Entry) (tally : Tally) where
  has_model : (model : Option (List Bool)) → HasModel model F J tally call → IfSome (asked_text call.words call.contents call.left) (λ bytes. IsSomeAnd model (HasModelOf bytes))
  has_model model h =
      read_of (make_number (command_of call.words)) (text_of call) F (λ bytes. IsSomeAnd model (HasModelOf bytes)) (given F J tally call h.answers.answered.started.given)
      (λ bytes reads. subst (λ (m : Option (List Bool)). IsSomeAnd m (HasModelOf bytes)) (sym h.reported)
      (record { formula = F; spelled = reads; holds = h.answers.answered.decided.holds.is_model.holds }))

  has_proof : Answers Unsatisfiable F J tally call → IfSome (asked_text call.words call.contents call.left) (λ bytes. HasProofOf (proof_format (command_of call.words)) bytes (option_and_then written proof))
  has_proof h =
      let a = h.answered in
      let format : ProofFormat = (search_in call).format in
      read_of (make_number (command_of call.words)) (text_of call) F (λ bytes. HasProofOf (proof_format (command_of call.words)) bytes (option_and_then written proof)) (given F J tally call a.started.given)
      (λ bytes reads. subst (λ (f : ProofFormat). HasProofOf f bytes (option_and_then written proof)) (format_planned (command_of call.words)) (record {
        formula = F;
        spelled = reads;
        no_model = a.decided.holds.no_model;
        lines = numbered_lines F.clauses J;
        refutes = subst (Refutes F.clauses) (sym (numbered_lines_lines F.clauses J)) a.decided.holds.refuted;
        named = subst CanBeSpelled (sym (numbered_lines_lines F.clauses J)) a.started.journal_stands.spelled;
        hinted = λ q. is_lrat_proof F.clauses J a.started.journal_stands.fits (a.started.journal_stands.hinted q);
        written = whole_log faults written flushed proof format F.clauses J a.started.searched (subst (λ (p : Option Writer). IsSomeAnd p (HoldsLog format F.clauses J a.started.searched)) is a.started.log) (subst (λ (p : Option Writer). IsSomeAnd p (λ writer. writer.faults ≡ 0)) is a.quiet.proof);
      }))

pub promised : {W : Type 0} (faults : W → ℕ) (written flushed : W → Option (List ℕ)) (proof : Option W) (call : Call) (status : ℕ) (model : Option (List Bool)) (tally : Tally)
    → Statuses call status model tally → call.proof ≡ writer_of faults written flushed proof → Promise call.words call.contents call.left (option_and_then written proof) status model
promised faults written flushed proof call status model tally s is = record {
  satisfiable = λ e. has_model faults written flushed proof call is s.formula s.journal tally model (s.satisfiable e);
  unsatisfiable = λ e. has_proof faults written flushed proof call is s.formula s.journal tally (s.unsatisfiable e);
}
