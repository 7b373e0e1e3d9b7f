-- What a book is, and what its sink stands for.
use Rattle.io_edge.specs.declared.edge.Sink.{Ghosts}
use Rattle.std.specs.Prelude.{◌≡◌, ◌+◌, ◌||◌, ℕ, suc, Bool, true, false, List, [], ◌∷◌, length, Some, None, is_some, if◌then◌else◌}
use Rattle.std.specs.declared.option.Option.{Option}
use Rattle.sat_words.specs.Literal.{Literal}
use Rattle.sat_words.specs.Clause.{is_empty}
use Rattle.sat_words.specs.declared.line.Line.{Line}
use Rattle.sat_words.specs.declared.line.Line.TheVariants.{Add, Del}
use Rattle.sat_words.specs.declared.line.ProofFormat.{ProofFormat}
use Rattle.sat_words.specs.declared.shared.TheConstants.{MAX_ENTRIES}
use Rattle.rup_model.specs.declared.journal.Entry.{Entry}
use Rattle.rup_model.specs.Journal.{book, lines}
use Rattle.rup_model.specs.NumberedLines.{NumberedLine, line_of}
use Rattle.drat_text.specs.declared.stop.LineStop.{LineStop}
use Rattle.drat_text.specs.declared.stop.LineStop.TheVariants.{Full}
use Rattle.drat_text.specs.Text.{CanBeSpelled}
use Rattle.drat_text.specs.LineState.{LineState, with_lines}
use Rattle.drat_text.specs.LineOut.{PutLine, FailedLine}
use Rattle.drat_text.specs.SinkData.{told_by, begun_lines}
use Rattle.drat_text.specs.JournalText.{Origin, HasText, HasTextCut}
use Rattle.share_rule.specs.declared.Layout.{Layout}
use Rattle.share_rule.specs.declared.view.BookOrigin.{BookOrigin}
use Rattle.share_rule.specs.Books.{Account}
use Rattle.log_book.specs.declared.book.Book.{Book}

-- the line adds the empty clause
abbrev pub ends : Line → Bool
ends (Add lits) = is_empty lits
ends (Del lits) = false

-- no byte, if bytes are known
abbrev pub no_byte : Bool → Option (List ℕ)
no_byte true = Some []
no_byte false = None

-- no line yet, if lines are asked for
abbrev pub no_line : Bool → Option (List Line)
no_line asked = if asked then Some [] else None

-- a line output, which had these bytes and faults, before the first line of a log for this formula
abbrev pub begun : List (List Literal) → LineState → Origin
begun F out = record { formula = F; journal = []; output = out }

-- what a book that began so told then
abbrev pub began : BookOrigin → List (List Literal) → LineState
began w F = record { format = w.format; entries = 0; last = length F; spent = false; faults = w.faults; written = no_byte w.tells; target = w.target; flushed = w.flushed; kept = None }

-- The book itself

-- what it accounts for
abbrev pub account_of : {S : Type 0} {d : Ghosts S} → Book S d → Account
account_of b = record { entries = b.entries; last = b.log.lines.last; ended = b.ended; broken = b.log.lines.spent; holes = b.holes; kept = b.log.kept.lines }

-- nothing stands in it yet
pub record IsNew {S : Type 0} {d : Ghosts S} (f : ProofFormat) (clauses : ℕ) (sink : S) (asked : Bool) (b : Book S d) : Type 0 where
  pub lines : b.log.lines ≡ begun_lines f clauses sink
  pub kept : b.log.kept.lines ≡ no_line asked
  pub entries : b.entries ≡ 0
  pub ended : b.ended ≡ false
  pub holes : b.holes ≡ []

-- it is the same, except for room
pub record AreAlike {S : Type 0} {d : Ghosts S} (old new : Book S d) : Type 0 where
  pub lines : new.log.lines ≡ old.log.lines
  pub kept : new.log.kept.lines ≡ old.log.kept.lines
  pub entries : new.entries ≡ old.entries
  pub ended : new.ended ≡ old.ended
  pub holes : new.holes ≡ old.holes

-- it counts one entry more, which has no line
pub record CountsOneMore {S : Type 0} {d : Ghosts S} (old new : Book S d) : Type 0 where
  pub log : new.log ≡ old.log
  pub entries : new.entries ≡ old.entries + 1
  pub ended : new.ended ≡ old.ended
  pub holes : new.holes ≡ old.holes

-- as many entries stand as can, and the book is the same
pub record IsFull {S : Type 0} {d : Ghosts S} (old new : Book S d) (stop : LineStop) : Type 0 where
  pub is : stop ≡ Full
  pub last : old.entries ≡ MAX_ENTRIES
  pub same : new ≡ old

-- a line output has come to a journal since it began, has failed at none of its lines, and each variable of the lines is one
-- that a proof may name
pub record IsFilled (o : Origin) (J : List Entry) (out : LineState) : Type 0 where
  pub unspent : out.spent ≡ false
  pub entries : out.entries ≡ length J
  pub last : suc out.last ≡ (book o.formula J).next
  pub text : HasText o J out
  pub target : out.target ≡ o.output.target
  pub flushed : out.flushed ≡ o.output.flushed
  pub spelled : CanBeSpelled (lines o.formula J)

-- or it failed at a line after those of the journal
pub record IsCutOff (o : Origin) (J : List Entry) (vars : ℕ) (out : LineState) : Type 0 where
  pub spent : out.spent ≡ true
  pub text : HasTextCut o J vars out
  pub target : out.target ≡ o.output.target

-- what a new book tells
abbrev pub told_new : {S : Type 0} (written flushed target : S → Option (List ℕ)) (faults : S → ℕ) → ProofFormat → ℕ → S → Bool → LineState
told_new written flushed target faults f clauses sink asked = record (told_by written flushed target faults (begun_lines f clauses sink)) { kept = no_line asked }

-- the origin tells this format and this sink, which has not failed since, and that lines are kept if that was asked for
pub record IsFrom {S : Type 0} (target : S → Option (List ℕ)) (faults : S → ℕ) (f : ProofFormat) (sink : S) (asked : Bool) (w : BookOrigin) : Type 0 where
  pub format_is : w.format ≡ f
  pub target_is : w.target ≡ target sink
  pub faults_are : w.faults ≡ faults sink
  pub keeps : w.keeps ≡ asked

module _ {S : Type 0} {d : Ghosts S} (written flushed target : S → Option (List ℕ)) (faults : S → ℕ) where
  -- the lines as they are known, with the entries that have none, and those that are kept
  abbrev pub told_of : Book S d → LineState
  told_of b = record (told_by written flushed target faults b.log.lines) { entries = b.entries; kept = b.log.kept.lines }

  -- how it spells its lines, what its sink tells, and whether it keeps the lines
  abbrev pub origin_of : Book S d → BookOrigin
  origin_of b = record { format = b.log.lines.format; tells = is_some (written b.log.lines.sink); target = target b.log.lines.sink; flushed = flushed b.log.lines.sink; faults = faults b.log.lines.sink; keeps = is_some b.log.kept.lines }

  -- the line stands
  pub record HasPut (old new : Book S d) (x : NumberedLine) : Type 0 where
    pub put : PutLine (told_by written flushed target faults old.log.lines) (told_by written flushed target faults new.log.lines) x
    pub kept : new.log.kept.lines ≡ with_lines old.log.kept.lines (line_of x ∷ [])
    pub entries : new.entries ≡ old.entries + 1
    pub ended : new.ended ≡ (old.ended || ends (line_of x))
    pub holes : new.holes ≡ old.holes

  -- the sink failed at it; it is not kept
  pub record HasFailed (old new : Book S d) (x : NumberedLine) : Type 0 where
    pub failed : FailedLine (told_by written flushed target faults old.log.lines) (told_by written flushed target faults new.log.lines) x
    pub kept : new.log.kept.lines ≡ old.log.kept.lines
    pub entries : new.entries ≡ old.entries
    pub ended : new.ended ≡ old.ended
    pub holes : new.holes ≡ old.holes

  -- its sink has failed since this origin exactly if a line failed; what it has, and after it what waits, is the bytes of
  -- the journal's lines, and if a line failed a front of these with that line's; it was not flushed, and is for the same path
  pub record IsLogOf (b : Book S d) (w : BookOrigin) (l : Layout) (F : List (List Literal)) (J : List Entry) : Type 0 where
    pub whole : b.log.lines.spent ≡ false → HasText (begun F (began w F)) J (told_by written flushed target faults b.log.lines)
    pub cut : b.log.lines.spent ≡ true → HasTextCut (begun F (began w F)) J l.vars (told_by written flushed target faults b.log.lines)
    pub target_is : target b.log.lines.sink ≡ w.target
    pub flushed_is : flushed b.log.lines.sink ≡ w.flushed

  -- this is the book's log since it had this format and this sink, in which nothing was written
  pub record IsCutLog (f : ProofFormat) (sink : S) (b : Book S d) (l : Layout) (F : List (List Literal)) (J : List Entry) : Type 0 where
    pub origin : BookOrigin
    pub format_is : origin.format ≡ f
    pub target_is : origin.target ≡ target sink
    pub faults_are : origin.faults ≡ faults sink
    pub log : IsLogOf b origin l F J
