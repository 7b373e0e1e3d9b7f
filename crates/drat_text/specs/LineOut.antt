-- What becomes of a line that is put.
use Rattle.std.specs.Prelude.{◌≡◌, ℕ, ◌+◌, ◌<◌, ◌≤◌, true, List, [], ◌∷◌, Result, Ok, Err}
use Rattle.std.specs.Io.KnownBytes.{append_known}
use Rattle.sat_words.specs.Literal.{Literal}
use Rattle.rup_model.specs.NumberedLines.{NumberedLine, line_of}
use Rattle.rup_model.specs.NumberedLines.{Added, Deleted}
use Rattle.io_edge.specs.Bytes.{IsFront}
use Rattle.io_edge.specs.Causes.{Rose}
use Rattle.sat_words.specs.declared.shared.TheConstants.{MAX_ENTRIES}
use Rattle.drat_text.specs.declared.stop.LineStop.{LineStop}
use Rattle.drat_text.specs.declared.stop.LineStop.TheVariants.{ProofFault, Full, Memory}
use Rattle.drat_text.specs.Spelling.{spelling}
use Rattle.drat_text.specs.LineState.{LineState, last_after, with_lines}

-- the line that adds the clause, under the next number
abbrev pub added_line : LineState → List Literal → List ℕ → NumberedLine
added_line out lits hints = Added (out.last + 1) lits hints

-- the line that deletes the clause with this number
abbrev pub deleted_line : LineState → ℕ → List Literal → NumberedLine
deleted_line out number lits = Deleted out.last number lits

-- the output once the line stands
abbrev pub with_line : LineState → NumberedLine → LineState
with_line out x = record out {
  entries = out.entries + 1;
  last = last_after out.last (line_of x);
  written = append_known out.written (spelling out.format x);
  kept = with_lines out.kept (line_of x ∷ []);
}

-- the line stands
pub record PutLine (old new : LineState) (x : NumberedLine) : Type 0 where
  pub room : old.entries < MAX_ENTRIES
  pub state : new ≡ with_line old x

-- writing failed: what was written is a front of the bytes of the lines, this one the last, which is not kept; and no more lines are
pub record FailedLine (old new : LineState) (x : NumberedLine) : Type 0 where
  pub room : old.entries < MAX_ENTRIES
  pub rose : Rose old.faults new.faults
  pub later : old.faults ≤ new.faults
  pub front : IsFront new.written (append_known old.written (spelling old.format x))
  pub state : new ≡ record old { spent = true; faults = new.faults; written = new.written }

-- as many lines stand as can
pub record FoundFull (old new : LineState) : Type 0 where
  pub full : old.entries ≡ MAX_ENTRIES
  pub state : new ≡ old

-- what putting the line did
abbrev pub WasPut : {T : Type 0} → LineState → LineState → NumberedLine → Result T LineStop → Type 0
WasPut old new x (Ok done) = PutLine old new x
WasPut old new x (Err ProofFault) = FailedLine old new x
WasPut old new x (Err Full) = FoundFull old new
WasPut old new x (Err Memory) = new ≡ old
