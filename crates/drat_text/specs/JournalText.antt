-- The bytes of a journal's later entries, in an output that has the lines of those before.
use Rattle.std.specs.Prelude.{◌≡◌, ℕ, true, List, ◌∷◌, [], ◌++◌, All}
use Rattle.std.specs.Io.KnownBytes.{append_known}
use Rattle.sat_words.specs.Literal.{Literal, IsOn}
use Rattle.sat_words.specs.declared.line.Line.{Line}
use Rattle.sat_words.specs.Formats.{has_hints}
use Rattle.rup_model.specs.declared.journal.Entry.{Entry}
use Rattle.rup_model.specs.Log.{lits_of}
use Rattle.rup_model.specs.Journal.{book, lines_from, LogSound}
use Rattle.rup_model.specs.NumberedLines.{NumberedLine, line_of, numbered_after, numbered_from, IsHinted}
use Rattle.io_edge.specs.Bytes.{IsFront}
use Rattle.io_edge.specs.Causes.{Rose}
use Rattle.drat_text.specs.Spelling.{spelling, proof_bytes}
use Rattle.drat_text.specs.LineState.{LineState, with_lines}

-- what the later entries came after: the formula, the journal before them, and the line output as it then was
pub record Origin : Type 0 where
  pub formula : List (List Literal)
  pub journal : List Entry
  pub output : LineState

-- the later entries' lines
abbrev pub later_lines : Origin → List Entry → List Line
later_lines o mine = lines_from (book o.formula o.journal) mine

-- the bytes of these lines
abbrev pub later_bytes : Origin → List Entry → List ℕ
later_bytes o mine = proof_bytes o.output.format (numbered_from (book o.formula o.journal) mine)

-- the output has the bytes of the later lines in its format, keeps them if it keeps lines, and has not failed since
pub record HasText (o : Origin) (mine : List Entry) (out : LineState) : Type 0 where
  pub quiet : out.faults ≡ o.output.faults
  pub format : out.format ≡ o.output.format
  pub bytes : out.written ≡ append_known o.output.written (later_bytes o mine)
  pub kept : out.kept ≡ with_lines o.output.kept (later_lines o mine)

-- the output failed at the line of an entry that may come next: the journal with it is sound, the line is on the variables, and if the
-- format has hints, those of the entry show that it follows; what is written is a front of what was, with the bytes of the later lines
-- and of this line
pub record HasTextCut (o : Origin) (mine : List Entry) (vars : ℕ) (out : LineState) : Type 0 where
  pub next : Entry
  pub line : NumberedLine
  pub one : numbered_after (book o.formula (o.journal ++ mine)) next ≡ line ∷ []
  pub sound : LogSound o.formula ((o.journal ++ mine) ++ next ∷ [])
  pub hinted : has_hints o.output.format ≡ true → IsHinted o.formula (o.journal ++ mine) next
  pub on : All (IsOn vars) (lits_of (line_of line))
  pub format : out.format ≡ o.output.format
  pub rose : Rose o.output.faults out.faults
  pub front : IsFront out.written (append_known o.output.written (later_bytes o mine ++ spelling o.output.format line))
