-- What the writer of a proof holds of a run's journal.
use Rattle.std.specs.Prelude.{◌≡◌, ◌≤◌, ℕ, List}
use Rattle.sat_words.specs.Literal.{Literal}
use Rattle.rup_model.specs.declared.journal.Entry.{Entry}
use Rattle.rup_model.specs.NumberedLines.{numbered_lines}
use Rattle.sat_words.specs.declared.line.ProofFormat.{ProofFormat}
use Rattle.drat_text.specs.Spelling.{proof_bytes}
use Rattle.log_book.specs.Ended.{IsClosed}
use Rattle.log_book.specs.Kept.{HoldsText, IsFrontTold}
use Rattle.portfolio_run.specs.Journaled.{IsCutShort}
use Rattle.top_call.specs.Run.{Writer}

-- A writer that began with no fault had failed `searched` times when the search was over, and `poured` times before its last call.
-- That was a flush, which made sure of all that was written, or failed. If its bytes are known, they are those of the journal's lines in
-- this format, if it had not failed before the flush. If it had, they are a front of those, or of those and one line more that may come
-- next; if it had not failed in the search, a front of those.
pub record HoldsLog (format : ProofFormat) (clauses : List (List Literal)) (journal : List Entry) (searched : ℕ) (writer : Writer) : Type 0 where
  pub poured : ℕ
  pub grown : (searched ≤ poured) × (poured ≤ writer.faults)
  pub closed : IsClosed poured writer.faults writer.flushed writer.written
  pub whole : poured ≡ 0 → HoldsText writer.written (proof_bytes format (numbered_lines clauses journal))
  pub short : (poured ≡ 0 → ⊥) → IsCutShort format clauses journal writer.written
  pub front : searched ≡ 0 → IsFrontTold writer.written (proof_bytes format (numbered_lines clauses journal))
