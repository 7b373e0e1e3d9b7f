-- The table of a round over what the ruler left, as it is opened, and after the search.
use Rattle.io_edge.specs.declared.edge.Sink.{Ghosts}
use Rattle.std.specs.Prelude.{◌≡◌, ◌+◌, ℕ, List, [], ◌++◌, replicate, is_some}
use Rattle.std.specs.declared.option.Option.{Option}
use Rattle.atomic_table.specs.declared.shared.Seat.{Seat}
use Rattle.sat_words.specs.FormulaData.{FormulaData}
use Rattle.sat_words.specs.Formats.{has_hints}
use Rattle.sat_words.specs.declared.shared.Cref.{Cref}
use Rattle.model_stack.specs.declared.stack.Fix.{Fix}
use Rattle.core_rounds.specs.InRounds.{round_limit}
use Rattle.ruler_simp.specs.declared.ruling.Simplified.{Simplified}
use Rattle.ruler_simp.specs.Again.{before_round}
use Rattle.share_rule.specs.declared.Shared.{Shared}
use Rattle.share_rule.specs.declared.view.BookOrigin.{BookOrigin}
use Rattle.share_rule.specs.declared.view.View.{View}
use Rattle.share_rule.specs.FirstWords.{addresses, begun_with}
use Rattle.share_rule.specs.Passes.{IsPassOf}
use Rattle.share_rule.specs.Views.{first_view}
use Rattle.log_book.specs.declared.book.Book.{Book}
use Rattle.ring_run.specs.declared.job.Counts.{Counts}
use Rattle.portfolio_run.specs.declared.answer.Answer.{Answer}
use Rattle.portfolio_run.specs.declared.answer.Answer.TheVariants.{Unknown}
use Rattle.portfolio_run.specs.declared.plan.Plan.{Plan}
use Rattle.portfolio_run.specs.Held.{no_counts, add_tallies}
use Rattle.portfolio_run.specs.Pauses.{IsPaused}
use Rattle.portfolio_run.specs.Reached.{pause_of}
use Rattle.portfolio_run.specs.Room.{layout_of}
use Rattle.portfolio_run.specs.Searched.{HasSearched}

module _ {S : Type 0} {d : Ghosts S} (written flushed target : S → Option (List ℕ)) (faults : S → ℕ) where
  -- a round has begun after the journal that is there where the rings rest, and the table is open over what the ruler left, on the
  -- variables that are left, for the plan's rings, words and slots and for so many lemmas as the round may learn; its first pass knows
  -- no more than that, and the book's origin is the sink, with the plan's format
  pub record IsOpened (sink : S) (plan : Plan) (formula : FormulaData) (left : Simplified) (tally : List Counts) (done limit : ℕ) (t : Shared (Book S d)) (p : Seat (Option (Book S d)) View) (cells : List Cref) : Type 0 where
    pub book : Book S d
    pub was : IsPaused (pause_of written flushed target faults sink plan formula left tally done book)
    pub limit_is : limit ≡ round_limit plan.round plan.conflicts done
    pub origin : BookOrigin
    pub format_is : origin.format ≡ plan.format
    pub faults_are : origin.faults ≡ faults sink
    pub tells_is : origin.tells ≡ is_some (written sink)
    pub target_is : origin.target ≡ target sink
    pub flushed_is : origin.flushed ≡ flushed sink
    pub keeps_are : origin.keeps ≡ plan.keep_lines
    pub layout_is : t.layout ≡ layout_of plan left.vars limit
    pub pass : IsPassOf t p
    pub me : p.me ≡ (first_view t.layout (begun_with formula.clauses t.layout (has_hints plan.format) (before_round (was.past ++ was.mine) left) left.start.items left.units.items) origin, [])
    pub cells_are : cells ≡ addresses p.me.0.opening.starts

  -- the search over such a table, on so many variables and with this stack, has come to this answer; before it the rings had counted
  -- `before`, and in it `counts`
  pub record HasSettled (sink : S) (plan : Plan) (formula : FormulaData) (vars : ℕ) (stack : List Fix) (before : List Counts) (done limit : ℕ) (t : Shared (Book S d)) (p : Seat (Option (Book S d)) View) (counts : List Counts) (answer : Answer) : Type 0 where
    pub left : Simplified
    pub vars_is : vars ≡ left.vars
    pub stack_is : stack ≡ left.stack
    pub first : Seat (Option (Book S d)) View
    pub cells : List Cref
    pub opened : IsOpened sink plan formula left before done limit t first cells
    pub home : List ℕ
    pub searched : HasSearched t first.me.0 home plan formula.vars left.stack p (replicate plan.threads no_counts) counts answer

  -- it came to no answer, since all rings were spent; by now each of them counted this in all rounds, and they learned so many lemmas
  pub record WasSpent (sink : S) (plan : Plan) (formula : FormulaData) (vars : ℕ) (stack : List Fix) (tally : List Counts) (done : ℕ) (t : Shared (Book S d)) (p : Seat (Option (Book S d)) View) : Type 0 where
    pub before : List Counts
    pub done_before : ℕ
    pub limit : ℕ
    pub counts : List Counts
    pub settled : HasSettled sink plan formula vars stack before done_before limit t p counts Unknown
    pub tally_is : tally ≡ add_tallies counts before
    pub done_is : done ≡ done_before + limit
