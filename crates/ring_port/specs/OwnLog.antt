-- The log of a ring that writes alone, and what a line and an addition do to it.
use Rattle.std.specs.Prelude.{◌≡◌, ℕ, ◌+◌, true, false, List, [], ◌∷◌, ◌++◌, Bool, Option, Some, Result, Ok, Err}
use Rattle.sat_words.specs.Literal.{Literal}
use Rattle.sat_words.specs.declared.shared.NoRoom.{NoRoom}
use Rattle.rup_model.specs.declared.journal.Kind.{Kind}
use Rattle.rup_model.specs.declared.journal.Entry.{Entry}
use Rattle.rup_model.specs.declared.journal.Entry.TheVariants.{Add, Del, Reduce}
use Rattle.sat_words.specs.declared.shared.TheConstants.{MAX_ENTRIES}
use Rattle.rup_model.specs.NumberedLines.{NumberedLine}
use Rattle.drat_text.specs.declared.stop.LineStop.{LineStop}
use Rattle.drat_text.specs.declared.stop.LineStop.TheVariants as line_stop
use Rattle.drat_text.specs.LineState.{LineState}
use Rattle.drat_text.specs.LineOut.{PutLine, FailedLine, added_line, deleted_line}
use Rattle.ring_port.specs.declared.stops.PortStop.{PortStop}
use Rattle.ring_port.specs.declared.stops.PortStop.TheVariants.{Ended, Broken, ProofFault, NoHole, Memory}

-- the output, the ring's entries, how many more there is room for, whether the log is ended, and the last answer that refused
pub record LogData : Type 0 where
  pub output : LineState
  pub mine : List Entry
  pub room : ℕ
  pub ended : Bool
  pub refused : Option PortStop

-- what a port answers to a line that was not put
abbrev pub stop_of : LineStop → PortStop
stop_of line_stop.ProofFault = ProofFault
stop_of line_stop.Full = NoHole (record { need = MAX_ENTRIES + 1; largest = MAX_ENTRIES })
stop_of line_stop.Memory = Memory

-- the last answer that refused, once a line was not put: want of memory is not noted
abbrev pub noted : Option PortStop → LineStop → Option PortStop
noted refused line_stop.ProofFault = Some (stop_of line_stop.ProofFault)
noted refused line_stop.Full = Some (stop_of line_stop.Full)
noted refused line_stop.Memory = refused

-- ring 0 adds the clause, with hints
abbrev pub own_entry : ℕ → List Literal → Kind → List ℕ → Entry
own_entry number lits kind hints = Add (record { ring = 0; number = number; lits = lits; kind = kind; hints = hints })

-- the output failed at the line
pub record FaultyLine (old new : LogData) (x : NumberedLine) : Type 0 where
  pub going : old.ended ≡ false
  pub put : FailedLine old.output new.output x
  pub state : new ≡ record old { output = new.output; refused = Some ProofFault }

-- as many lines stand as can
pub record FullLog (old new : LogData) (lack : NoRoom) : Type 0 where
  pub going : old.ended ≡ false
  pub full : old.output.entries ≡ MAX_ENTRIES
  pub needed : lack.need ≡ MAX_ENTRIES + 1
  pub found : lack.largest ≡ MAX_ENTRIES
  pub state : new ≡ record old { refused = Some (NoHole lack) }

-- why the line does not stand, and how that leaves the log
abbrev pub NotPut : LogData → LogData → NumberedLine → PortStop → Type 0
NotPut old new x Ended = (old.ended ≡ true) × (new ≡ record old { refused = Some Ended })
NotPut old new x Broken = ⊥
NotPut old new x ProofFault = FaultyLine old new x
NotPut old new x (NoHole lack) = FullLog old new lack
NotPut old new x Memory = new ≡ old

-- the line that adds the clause stands, and its entry, both with the hints
pub record AddedEntry (old new : LogData) (lits : List Literal) (kind : Kind) (hints : List ℕ) (number : ℕ) : Type 0 where
  pub going : old.ended ≡ false
  pub given : number ≡ old.output.last + 1
  pub put : PutLine old.output new.output (added_line old.output lits hints)
  pub state : new ≡ record old { output = new.output; mine = old.mine ++ own_entry number lits kind hints ∷ []; room = new.room }

-- what the addition of a clause did
abbrev pub WasAdded : LogData → LogData → List Literal → Kind → List ℕ → Result ℕ PortStop → Type 0
WasAdded old new lits kind hints (Ok number) = AddedEntry old new lits kind hints number
WasAdded old new lits kind hints (Err stop) = NotPut old new (added_line old.output lits hints) stop

-- the line that deletes the clause stands, and its entry
pub record DeletedEntry (old new : LogData) (lits : List Literal) (number : ℕ) : Type 0 where
  pub going : old.ended ≡ false
  pub put : PutLine old.output new.output (deleted_line old.output number lits)
  pub state : new ≡ record old { output = new.output; mine = old.mine ++ Del 0 number ∷ []; room = new.room }

-- what the deletion of a clause did
abbrev pub WasDeleted : LogData → LogData → List Literal → ℕ → Result (Unit {0}) PortStop → Type 0
WasDeleted old new lits number (Ok done) = DeletedEntry old new lits number
WasDeleted old new lits number (Err stop) = NotPut old new (deleted_line old.output number lits) stop

-- the entry of a reduction stands, which has no line
pub record ReducedLog (old new : LogData) : Type 0 where
  pub going : old.ended ≡ false
  pub state : new ≡ record old { mine = old.mine ++ Reduce 0 ∷ []; room = new.room }

-- the log is ended
pub record EndedBefore (old new : LogData) (stop : PortStop) : Type 0 where
  pub over : old.ended ≡ true
  pub answer : stop ≡ Ended
  pub state : new ≡ record old { refused = Some Ended }

-- what the note of a reduction did
abbrev pub WasReduced : LogData → LogData → Result (Unit {0}) PortStop → Type 0
WasReduced old new (Ok done) = ReducedLog old new
WasReduced old new (Err stop) = EndedBefore old new stop
