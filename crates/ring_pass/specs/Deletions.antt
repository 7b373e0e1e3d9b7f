-- What deleting the clauses that wait does, several in each turn of the log.
use Rattle.io_edge.specs.declared.edge.Sink.{Ghosts}
use Rattle.std.specs.Prelude.{◌≡◌, ℕ, ◌<◌, true, false, List, [], ◌∷◌, ◌++◌, map, take, drop, Option, None}
use Rattle.rup_model.specs.declared.journal.Entry.{Entry}
use Rattle.rup_model.specs.declared.journal.Entry.TheVariants.{Del}
use Rattle.rup_model.specs.Journal.{ended}
use Rattle.share_core.specs.declared.stored.ClauseAt.{ClauseAt}
use Rattle.share_rule.specs.declared.note.Note.{Note}
use Rattle.share_rule.specs.declared.note.Note.TheVariants.{Bury}
use Rattle.share_rule.specs.declared.view.RingPart.{RingPart}
use Rattle.share_rule.specs.declared.view.View.{View}
use Rattle.share_rule.specs.Turns.{journal_in}
use Rattle.share_rule.specs.Views.{only}
use Rattle.log_book.specs.declared.stop.TurnStop.{TurnStop}
use Rattle.log_book.specs.declared.turn.Turn.{Turn}
use Rattle.log_book.specs.Turns.{IsTurn, Refused, IsCause}
use Rattle.ring_pass.specs.declared.waiting.Waiting.{Waiting}
use Rattle.ring_pass.specs.Writes.{entries_of, WroteNone}

-- the entries that delete these clauses
abbrev pub deletions_of : ℕ → List ClauseAt → List Entry
deletions_of r hs = map (λ h. Del r h.number) hs

-- the first k of the clauses that waited are deleted, and the ring has learned of no new failed write
pub record Deleted (v w : View) (k : ℕ) : Type 0 where
  pub part : RingPart
  pub parts : w.parts ≡ part ∷ []
  pub layout : w.layout ≡ v.layout
  pub opening : w.opening ≡ v.opening
  pub stop : w.stop ≡ v.stop
  pub looks : w.looks ≡ v.looks
  pub core : part.core ≡ record (only v).core { waiting = part.core.waiting; wrote = part.core.wrote }
  pub glues : part.glues ≡ (only v).glues
  pub gave : part.gave ≡ (only v).gave
  pub polls : part.polls ≡ (only v).polls
  pub caught_up : part.caught_up ≡ (only v).caught_up
  pub turn : part.turn ≡ None
  pub refused : part.refused ≡ (only v).refused
  pub waiting : part.core.waiting ≡ drop k (only v).core.waiting
  pub wrote : entries_of part ≡ entries_of (only v) ++ deletions_of (only v).core.ring (take k (only v).core.waiting)
  pub going : 0 < k → (only v).ended ≡ false
  pub ended_is : (only v).ended ≡ true → part.ended ≡ true
  pub failed_is : (only v).failed ≡ true → part.failed ≡ true
  pub failed_was : part.failed ≡ true → (only v).failed ≡ true

-- the deletion of the next one was refused
pub record DeletedSome (v w : View) (many : ℕ) (k : ℕ) (e : TurnStop) : Type 0 where
  pub some : k < many
  pub middle : View
  pub first : Deleted v middle k
  pub refused : WroteNone middle w e

-- In one turn

-- the notes that delete these clauses, in order
abbrev pub burials : List Waiting → List Note
burials ws = map (λ w. Bury w.cell.address) ws

module _ {S : Type 0} {d : Ghosts S} (written flushed target : S → Option (List ℕ)) (faults : S → ℕ) where
  -- in a turn in which nothing was written before, the first k of the clauses are deleted; unless that is none, the log was not
  -- ended and no write has failed
  pub record Buried (v : View) (old new : Turn S d) (ws : List Waiting) (k : ℕ) : Type 0 where
    pub noted : new.noted.items ≡ burials (take k ws)
    pub refused : new.refused ≡ old.refused
    pub turn : IsTurn written flushed target faults v new
    pub none : k ≡ 0 → new ≡ old
    pub going : 0 < k → ended v.opening.formula (journal_in (only v).turn) ≡ false
    pub whole : 0 < k → new.book.log.lines.spent ≡ false

  -- the deletion of the next one was refused for cause
  pub record BuriedSome (v : View) (old new : Turn S d) (ws : List Waiting) (many k : ℕ) (e : TurnStop) : Type 0 where
    pub some : k < many
    pub middle : Turn S d
    pub first : Buried v old middle ws k
    pub refused : Refused written flushed target faults v middle new e
    pub cause : IsCause faults v middle new e
