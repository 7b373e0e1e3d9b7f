-- What is known before the proof is finished: of the book, of the answer, of the ruler and of the rings.
use Rattle.io_edge.specs.declared.edge.Sink.{Ghosts}
use Rattle.std.specs.Prelude.{◌≡◌, ◌≤◌, ◌<◌, ◌^◌, ◌+◌, ℕ, Bool, false, if◌then◌else◌, List, [], length, slice_index_or, Option, Some, is_some, Result, All}
use mathlib.Core.Option.{some}
use lib.ListN.{get_elem?}
use Rattle.atomic_table.specs.declared.shared.Seat.{Seat}
use Rattle.io_edge.specs.Paths.{IsEmptyWhereTold}
use Rattle.sat_words.specs.Literal.{Literal}
use Rattle.sat_words.specs.FormulaData.{FormulaData}
use Rattle.sat_words.specs.declared.line.Line.{Line}
use Rattle.sat_words.specs.declared.line.ProofFormat.{ProofFormat}
use Rattle.rup_model.specs.declared.journal.Entry.{Entry}
use Rattle.rup_model.specs.Journal.{lines}
use Rattle.sat_words.specs.declared.shared.TheConstants.{MAX_ENTRIES}
use Rattle.clause_cell.specs.declared.holes.HoleStop.{HoleStop}
use Rattle.clause_cell.specs.declared.holes.HoleStop.TheVariants as hole_stop
use Rattle.drat_text.specs.declared.stop.LineStop.{LineStop}
use Rattle.drat_text.specs.declared.stop.LineStop.TheVariants as line_stop
use Rattle.ruler_simp.specs.declared.ruling.Outcome.{Outcome}
use Rattle.ruler_simp.specs.declared.ruling.Simplified.{Simplified}
use Rattle.ruler_simp.specs.Ruled.{Ruled}
use Rattle.share_core.specs.declared.event.Stop.{Stop}
use Rattle.share_rule.specs.declared.Layout.{Layout}
use Rattle.share_rule.specs.declared.Shared.{Shared}
use Rattle.share_rule.specs.declared.view.BookOrigin.{BookOrigin}
use Rattle.share_rule.specs.declared.view.RingPart.{RingPart}
use Rattle.share_rule.specs.declared.view.View.{View}
use Rattle.share_rule.specs.Passes.{IsWhole, NoTurns}
use Rattle.log_book.specs.declared.book.Book.{Book}
use Rattle.log_book.specs.Books.{IsLogOf, told_new, told_of}
use Rattle.ring_run.specs.declared.job.Counts.{Counts}
use Rattle.ring_run.specs.declared.job.End.{End}
use Rattle.portfolio_run.specs.declared.answer.Answer.{Answer}
use Rattle.portfolio_run.specs.declared.answer.Answer.TheVariants.{NoHole, ProofFault, Memory}
use Rattle.portfolio_run.specs.declared.plan.Plan.{Plan}
use Rattle.portfolio_run.specs.Ends.{AreEndsOf}
use Rattle.portfolio_run.specs.Pauses.{Pause}
use Rattle.portfolio_run.specs.Ruled.{schedule_of}
use Rattle.portfolio_run.specs.Runs.{RanAs}
use Rattle.portfolio_run.specs.Seats.{IsAtRest, IsSameTable, IsSettled}
use Rattle.portfolio_run.specs.Solved.{IsReached}

-- The book

module _ {S : Type 0} {d : Ghosts S} (written flushed target : S → Option (List ℕ)) (faults : S → ℕ) where
  -- since it had this format and this sink, in which nothing was written, the book has come to the lines of this journal, or has
  -- failed at the line after them; lines that are kept are those
  pub record Records (format : ProofFormat) (sink : S) (F : List (List Literal)) (J : List Entry) (b : Book S d) : Type 0 where
    pub origin : BookOrigin
    pub layout : Layout
    pub few : layout.vars ≤ 2 ^ 30
    pub format_is : origin.format ≡ format
    pub faults_are : origin.faults ≡ faults sink
    pub target_is : origin.target ≡ target sink
    pub log : IsLogOf written flushed target faults b origin layout F J
    pub kept : b.log.lines.spent ≡ false → (ls : List Line) → b.log.kept.lines ≡ Some ls → ls ≡ lines F J

  -- the ruler has come to this over the formula, and wrote its lines into this book, which began with this sink
  pub record WasRuled (sink : S) (plan : Plan) (formula : FormulaData) (b : Book S d) (result : Result Outcome LineStop) : Type 0 where
    pub empty : IsEmptyWhereTold (written sink)
    pub ruled : Ruled formula (schedule_of plan) (told_new written flushed target faults plan.format (length formula.clauses) sink plan.keep_lines) (told_of written flushed target faults b) result

  -- what is known where the rings rest with this book, which began with this sink
  abbrev pub pause_of : S → Plan → FormulaData → Simplified → List Counts → (done : ℕ) → Book S d → Pause
  pause_of sink plan formula left tally done b = record { plan = plan; formula = formula; left = left; tally = tally; done = done; before = told_new written flushed target faults plan.format (length formula.clauses) sink plan.keep_lines; now = told_of written flushed target faults b }

-- The answer

-- the answer where the ruler was stopped
abbrev pub stopped_answer : LineStop → Answer
stopped_answer line_stop.ProofFault = ProofFault
stopped_answer line_stop.Full = NoHole (record { need = MAX_ENTRIES + 1; largest = MAX_ENTRIES })
stopped_answer line_stop.Memory = Memory

-- the answer where no table could be made
abbrev pub unmade_answer : HoleStop → Answer
unmade_answer (hole_stop.NoHole need largest) = NoHole (record { need = need; largest = largest })
unmade_answer hole_stop.Memory = Memory

-- the answer where memory ran out as what a round's table held was read: a line may have failed before
abbrev pub unread_answer : (failed : Bool) → Answer
unread_answer failed = if failed then ProofFault else Memory

-- an answer over the journal to which the book has come since it had this sink; unless a line failed, lines are kept where that was
-- asked for
pub record HasReached {S : Type 0} {d : Ghosts S} (written flushed target : S → Option (List ℕ)) (faults : S → ℕ) (sink : S) (plan : Plan) (formula : FormulaData) (answer : Answer) (tally : List Counts) (b : Book S d) : Type 0 where
  pub journal : List Entry
  pub records : Records written flushed target faults plan.format sink formula.clauses journal b
  pub reached : IsReached plan formula answer tally (faults sink) (faults b.log.lines.sink) journal
  pub asked : b.log.lines.spent ≡ false → is_some b.log.kept.lines ≡ plan.keep_lines

-- The rings

-- after the rings' runs the table's first pass has all their parts, each at its ring's place; no ring has the turn or builds a cell,
-- and each unit that one of them wrote is listed
pub record IsGathered {B : Type 0} (t : Shared B) (v : View) (p : Seat (Option B) View) : Type 0 where
  pub pass : IsAtRest t p
  pub same : IsSameTable v p.me.0
  pub whole : IsWhole p.me.0
  pub many : length p.me.0.parts ≡ v.opening.rings
  pub free : NoTurns p.me.0.parts
  pub settled : All IsSettled p.me.0.parts

-- the ring ran, and its part stands at its place
pub record RanAt (v : View) (home : List ℕ) (plan : Plan) (w : View) (ring : ℕ) (end : End) (counts : Counts) : Type 0 where
  pub part : RingPart
  pub there : get_elem? w.parts ring ≡ some part
  pub ring_is : part.core.ring ≡ ring
  pub seen : Option Stop
  pub ran : RanAs v home plan ring seen part end counts

-- all rings ran over the table that was opened so, each to its end
pub record HaveRun {B : Type 0} (t : Shared B) (v : View) (home : List ℕ) (plan : Plan) (p : Seat (Option B) View) (ends : List (End × Counts)) : Type 0 where
  pub gathered : IsGathered t v p
  pub many : length ends ≡ v.opening.rings
  pub ended : AreEndsOf p.me.0 ends
  pub ran : (i : ℕ) (d : End × Counts) → i < length ends → RanAt v home plan p.me.0 i (slice_index_or ends i d).0 (slice_index_or ends i d).1

-- the ring has written nothing, and a lone one was told of no failed write
abbrev pub IsIdle : ℕ → RingPart → Type 0
IsIdle rings p = (p.core.wrote ≡ []) × (rings ≡ 1 → p.failed ≡ false)

-- no ring ran: all have their grants, and none has written anything
pub record HaveRested {B : Type 0} (t : Shared B) (v : View) (p : Seat (Option B) View) : Type 0 where
  pub gathered : IsGathered t v p
  pub idle : (i : ℕ) (part : RingPart) → get_elem? p.me.0.parts i ≡ some part → IsIdle t.layout.rings part
