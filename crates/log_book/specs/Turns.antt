-- What a turn is: a book that is out, and what was written since.
use Rattle.io_edge.specs.declared.edge.Sink.{Ghosts}
use Rattle.std.specs.Prelude.{◌≡◌, ◌≢◌, ◌⊎◌, ◌+◌, ◌<◌, ◌≤◌, ℕ, Bool, true, false, ⊤, List, [], ◌∷◌, ◌++◌, length, Option, Some, None}
use Rattle.sat_words.specs.Literal.{Literal}
use Rattle.sat_words.specs.declared.shared.TheConstants.{MAX_ENTRIES}
use Rattle.clause_cell.specs.Packing.{words_for}
use Rattle.clause_cell.specs.Free.{largest}
use Rattle.rup_model.specs.declared.journal.Kind.{Kind}
use Rattle.rup_model.specs.declared.journal.Entry.{Entry}
use Rattle.rup_model.specs.Journal.{ended}
use Rattle.rup_model.specs.Opening.{IsLong}
use Rattle.io_edge.specs.Causes.{Rose}
use Rattle.share_core.specs.declared.part.CoreOpening.{CoreOpening}
use Rattle.share_core.specs.declared.stored.ClauseAt.{ClauseAt}
use Rattle.share_core.specs.Learning.{follows, MayAddClause}
use Rattle.share_rule.specs.declared.Layout.{Layout}
use Rattle.share_rule.specs.declared.note.Note.{Note}
use Rattle.share_rule.specs.declared.view.BookOrigin.{BookOrigin}
use Rattle.share_rule.specs.declared.view.Refusal.{Refusal}
use Rattle.share_rule.specs.declared.view.Refusal.TheVariants as refusal
use Rattle.share_rule.specs.declared.view.View.{View}
use Rattle.share_rule.specs.Layout.{InVars}
use Rattle.share_rule.specs.Room.{room}
use Rattle.share_rule.specs.Books.{StandsFor}
use Rattle.share_rule.specs.Tight.{IsTight}
use Rattle.share_rule.specs.Views.{only, clause_in}
use Rattle.share_rule.specs.Turns.{Sheet, IsWriting, MayWrite, WasRefused, written_of, MayNote, IsGoing, after_take}
use Rattle.log_book.specs.Books.{AreAlike, account_of, IsLogOf}
use Rattle.log_book.specs.declared.book.Book.{Book}
use Rattle.log_book.specs.declared.stop.TurnStop.{TurnStop}
use Rattle.log_book.specs.declared.stop.TurnStop.TheVariants.{Ended, Broken, NoHole, Memory, ProofFault}
use Rattle.log_book.specs.declared.turn.Turn.{Turn}

-- the journal, and the ring's part, after what was written
abbrev pub sheet : {S : Type 0} {d : Ghosts S} → View → Turn S d → Sheet
sheet v t = written_of v t.noted.items

-- what the ring knows of a cell that waits
abbrev pub waiting : {S : Type 0} {d : Ghosts S} → View → Turn S d → ℕ → ClauseAt
waiting v t a = clause_in a (sheet v t).part.waiting

-- the note may be written next, except for the causes of a refusal
abbrev pub MayNext : {S : Type 0} {d : Ghosts S} → View → Turn S d → Note → Type 0
MayNext v t n = MayNote v.layout v.opening (only v).core.ring (sheet v t).journal (sheet v t).part n

-- a clause may be added next, except for the causes of a refusal
abbrev pub MayAdd : {S : Type 0} {d : Ghosts S} → View → Turn S d → Kind → List Literal → List ℕ → Type 0
MayAdd v t kind lits hints = MayAddClause v.opening (sheet v t).journal (sheet v t).part (only v).core.ring kind lits × IsLong lits × (follows v.opening.hinted (sheet v t).part lits hints ≡ true) × InVars v.layout lits

-- how a refusal is noted, if it is
abbrev pub noted_as : TurnStop → Option Refusal → Option Refusal
noted_as Ended old = Some refusal.Ended
noted_as Broken old = Some refusal.Broken
noted_as (NoHole need most) old = Some (refusal.NoHole need most)
noted_as Memory old = old
noted_as ProofFault old = Some refusal.ProofFault

-- the empty clause stands in the log; a write of the book failed before; the log is full; or memory ran out
abbrev pub IsCause : {S : Type 0} {d : Ghosts S} → (S → ℕ) → View → Turn S d → Turn S d → TurnStop → Type 0
IsCause faults v old new Ended = ended v.opening.formula (sheet v old).journal ≡ true
IsCause faults v old new Broken = (ended v.opening.formula (sheet v old).journal ≡ false) × (old.book.log.lines.spent ≡ true)
IsCause faults v old new (NoHole need most) = (ended v.opening.formula (sheet v old).journal ≡ false) × (old.book.log.lines.spent ≡ false) × (length (sheet v old).journal ≡ MAX_ENTRIES) × (need ≡ MAX_ENTRIES + 1) × (most ≡ MAX_ENTRIES)
IsCause faults v old new Memory = IsGoing v.opening (sheet v old).journal × (old.book.log.lines.spent ≡ false)
-- or the sink fails at the line, and the book is broken
IsCause faults v old new ProofFault = IsGoing v.opening (sheet v old).journal × (old.book.log.lines.spent ≡ false) × (new.book.log.lines.spent ≡ true) × Rose (faults old.book.log.lines.sink) (faults new.book.log.lines.sink)

-- a hole is long enough for a clause of this size
abbrev pub HasHole : {S : Type 0} {d : Ghosts S} → View → Turn S d → ℕ → Type 0
HasHole v t size = words_for size ≤ largest (room v.layout v.opening (sheet v t).journal).holes

-- or no hole is long enough for the clause
abbrev pub IsAddCause : {S : Type 0} {d : Ghosts S} → (S → ℕ) → View → Turn S d → Turn S d → ℕ → TurnStop → Type 0
IsAddCause faults v old new size Ended = IsCause faults v old new Ended
IsAddCause faults v old new size Broken = IsCause faults v old new Broken
IsAddCause faults v old new size (NoHole need most) = IsCause faults v old new (NoHole need most)
    ⊎ (IsGoing v.opening (sheet v old).journal × (old.book.log.lines.spent ≡ false) × (need ≡ words_for size) × (most ≡ largest (room v.layout v.opening (sheet v old).journal).holes) × (most < need))
-- if one is, memory runs out or the sink fails
IsAddCause faults v old new size Memory = IsCause faults v old new Memory × HasHole v old size
IsAddCause faults v old new size ProofFault = IsCause faults v old new ProofFault × HasHole v old size

-- what the noting of a refusal rests on
abbrev pub IsGrounded : {S : Type 0} {d : Ghosts S} → View → Turn S d → TurnStop → Type 0
IsGrounded v t Ended = ended v.opening.formula (sheet v t).journal ≡ true
IsGrounded v t Broken = t.book.log.lines.spent ≡ true
IsGrounded v t (NoHole need most) = IsTight v.layout v.opening (sheet v t).journal need most
IsGrounded v t Memory = ⊤
IsGrounded v t ProofFault = t.book.log.lines.spent ≡ true

-- nothing changed but the steps that were taken
pub record HasMissed (v w : View) : Type 0 where
  pub parts : w.parts ≡ v.parts
  pub rights : w.rights ≡ v.rights
  pub stop : w.stop ≡ v.stop
  pub looks : w.looks ≡ v.looks
  pub layout : w.layout ≡ v.layout
  pub opening : w.opening ≡ v.opening
  pub origin : w.origin ≡ v.origin

-- the log may be written on
abbrev pub CouldWrite : {S : Type 0} {d : Ghosts S} → View → Turn S d → Type 0
CouldWrite v t = IsGoing v.opening (sheet v t).journal × (t.book.log.lines.spent ≡ false)

module _ {S : Type 0} {d : Ghosts S} (written flushed target : S → Option (List ℕ)) (faults : S → ℕ) where
  -- the book stands for the journal since its origin, and says whether a write has failed
  abbrev pub Stands : Book S d → BookOrigin → Layout → CoreOpening → List Entry → Bool → Type 0
  Stands = StandsFor account_of (IsLogOf written flushed target faults)

  -- the pass's ring has the turn, may write what is noted, and the book stands for the journal behind it
  pub record IsTurn (v : View) (t : Turn S d) : Type 0 where
    pub writing : IsWriting v
    pub may : MayWrite v t.noted.items
    pub refused : WasRefused v t.noted.items t.refused t.book.log.lines.spent
    pub stands : Stands t.book v.origin v.layout v.opening (sheet v t).journal t.book.log.lines.spent

  -- with one more note, and no failed write
  pub record Grown (v : View) (old new : Turn S d) (n : Note) : Type 0 where
    pub noted : new.noted.items ≡ old.noted.items ++ n ∷ []
    pub refused : new.refused ≡ old.refused
    pub turn : IsTurn v new
    pub going : CouldWrite v old
    pub whole : new.book.log.lines.spent ≡ false

  -- with none
  pub record Stopped (v : View) (old new : Turn S d) (e : TurnStop) : Type 0 where
    pub noted : new.noted.items ≡ old.noted.items
    pub refused : new.refused ≡ old.refused
    pub turn : IsTurn v new
    pub grounded : IsGrounded v new e
    pub alike : e ≢ ProofFault → AreAlike old.book new.book

  -- with none, and the refusal noted
  pub record Refused (v : View) (old new : Turn S d) (e : TurnStop) : Type 0 where
    pub noted : new.noted.items ≡ old.noted.items
    pub refused : new.refused ≡ noted_as e old.refused
    pub turn : IsTurn v new
    pub alike : e ≢ ProofFault → AreAlike old.book new.book

  -- the pass's ring has taken the turn, and the book with it; where it was told of a failed write, one has failed, and where
  -- there is no other ring one has failed only if it was known so
  pub record HasBook (v w : View) (b : Book S d) : Type 0 where
    pub journal : List Entry
    pub free : ℕ
    pub view : w ≡ after_take free (free + (only v).core.ring + 1) journal b.log.lines.spent v
    pub stands : Stands b v.origin v.layout v.opening journal b.log.lines.spent
    pub still : (only v).failed ≡ true → b.log.lines.spent ≡ true
    pub alone : v.opening.rings ≡ 1 → b.log.lines.spent ≡ true → (only v).failed ≡ true

  -- the same after tries that missed it
  pub record WasOut (v w : View) (b : Book S d) : Type 0 where
    pub before : View
    pub missed : HasMissed v before
    pub out : HasBook before w b

  -- the pass's ring has taken the turn, in which nothing is written yet
  pub record HasTaken (v w : View) (t : Turn S d) : Type 0 where
    pub book : HasBook v w t.book
    pub noted : t.noted.items ≡ []
    pub refused : t.refused ≡ None
    pub turn : IsTurn w t

  -- the same after tries that missed it
  pub record WasTaken (v w : View) (t : Turn S d) : Type 0 where
    pub before : View
    pub missed : HasMissed v before
    pub taken : HasTaken before w t
