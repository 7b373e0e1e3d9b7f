-- What each call does to a work, from the state before it to the state after it.
use Rattle.std.specs.Prelude.{◌≡◌, ◌≢◌, ℕ, ◌+◌, ◌^◌, ◌<◌, ◌≤◌, ◌||◌, ◌↔◌, Bool, true, false, List, [], ◌∷◌, ◌++◌, Contains, Option, Some, None, Result, Ok, Err, OnOk, ⊤}
use Rattle.sat_words.specs.Literal.{Literal}
use Rattle.sat_words.specs.Clause.{has, is_empty, clause_of}
use Rattle.sat_words.specs.Formats.{has_hints}
use Rattle.rup_model.specs.declared.journal.TheConstants.{RULER_RING}
use Rattle.rup_model.specs.declared.journal.Kind.TheVariants.{Ruler}
use Rattle.rup_model.specs.declared.journal.Entry.{Entry}
use Rattle.rup_model.specs.declared.journal.Entry.TheVariants.{Add, Del}
use Rattle.rup_model.specs.Hints.{numbered, HintsFit}
use Rattle.rup_model.specs.NumberedLines.{NumberedLine}
use Rattle.sat_words.specs.declared.shared.TheConstants.{MAX_ENTRIES}
use Rattle.drat_text.specs.declared.stop.LineStop.{LineStop}
use Rattle.drat_text.specs.declared.stop.LineStop.TheVariants.{ProofFault, Full, Memory}
use Rattle.drat_text.specs.LineState.{LineState}
use Rattle.drat_text.specs.LineOut.{PutLine, FailedLine, FoundFull, added_line, deleted_line}
use Rattle.simp_base.specs.Multisets.{SameMultiset}
use Rattle.simp_base.specs.WorkState.{WorkState, is_alive_unit}
use Rattle.simp_base.specs.Log.{Continues}

-- Entries

-- the ruler adds the clause, with these hints
abbrev pub ruler_adds : ℕ → List Literal → List ℕ → Entry
ruler_adds number lits hints = Add (record { ring = RULER_RING; number = number; lits = lits; kind = Ruler; hints = hints })

-- the ruler deletes the clause with this number
abbrev pub ruler_deletes : ℕ → Entry
ruler_deletes number = Del RULER_RING number

-- the entry, if the call did what it was asked for
abbrev pub on_ok : {T : Type 0} → Result T LineStop → List Entry → List Entry
on_ok (Ok x) es = es
on_ok (Err stop) es = []

-- Hints

-- the hints that a line output wants of a clause that is added to these: if its format has hints, they show that it follows
abbrev pub AreHints : LineState → List (ℕ × List Literal) → List Literal → List ℕ → Type 0
AreHints out cells lits hints = HintsFit (has_hints out.format) (numbered cells) lits hints

-- the line that adds the clause stands, with such hints, under the next number
pub record AddedLine (old new : LineState) (cells : List (ℕ × List Literal)) (lits : List Literal) (number : ℕ) : Type 0 where
  pub hints : List ℕ
  pub fit : AreHints old cells lits hints
  pub given : number ≡ old.last + 1
  pub put : PutLine old new (added_line old lits hints)

-- or the output failed at it
pub record FailedAddition (old new : LineState) (cells : List (ℕ × List Literal)) (lits : List Literal) : Type 0 where
  pub hints : List ℕ
  pub fit : AreHints old cells lits hints
  pub put : FailedLine old new (added_line old lits hints)

-- the line that adds the clause is put, or not
abbrev pub WasAddedLine : LineState → LineState → List (ℕ × List Literal) → List Literal → Result ℕ LineStop → Type 0
WasAddedLine old new cells lits (Ok number) = AddedLine old new cells lits number
WasAddedLine old new cells lits (Err ProofFault) = FailedAddition old new cells lits
WasAddedLine old new cells lits (Err Full) = FoundFull old new
WasAddedLine old new cells lits (Err Memory) = new ≡ old

-- No line

-- the output failed at the line
pub record FaultyLine (old new : WorkState) (x : NumberedLine) : Type 0 where
  pub put : FailedLine old.output new.output x
  pub state : new ≡ record old { output = new.output }

-- why the line does not stand; the work is as it was, except for an output that failed
abbrev pub NotPut : WorkState → WorkState → NumberedLine → LineStop → Type 0
NotPut old new x ProofFault = FaultyLine old new x
NotPut old new x Full = (old.output.entries ≡ MAX_ENTRIES) × (new ≡ old)
NotPut old new x Memory = new ≡ old

-- why the line that adds the clause does not stand; if the output failed at it, it had the hints that are wanted
abbrev pub NotAdded : WorkState → WorkState → List Literal → LineStop → Type 0
NotAdded old new lits ProofFault = (hints : List ℕ) × AreHints old.output old.clauses lits hints × FaultyLine old new (added_line old.output lits hints)
NotAdded old new lits Full = (old.output.entries ≡ MAX_ENTRIES) × (new ≡ old)
NotAdded old new lits Memory = new ≡ old

-- Calls

-- the first literal is on a variable that no clause has which is alive and not held
abbrev pub IsAboveUnheld : WorkState → List Literal → Type 0
IsAboveUnheld w [] = ⊤
IsAboveUnheld w (p ∷ c) = w.unheld < p.var

-- the clause is alive, under the next number
pub record Added (old new : WorkState) (lits : List Literal) (number : ℕ) : Type 0 where
  pub line : AddedLine old.output new.output old.clauses lits number
  pub state : new ≡ record old { clauses = old.clauses ++ (number, clause_of lits) ∷ []; ended = is_empty lits; output = new.output }

-- what an addition did, by its answer
abbrev pub WasAdded : WorkState → WorkState → List Literal → Result ℕ LineStop → Type 0
WasAdded old new lits (Ok number) = Added old new lits number
WasAdded old new lits (Err stop) = NotAdded old new lits stop

-- the log goes on with the entry that adds the clause, with the hints that are wanted, or with none if it was not added
pub record AddsToLog (old new : WorkState) (lits : List Literal) (result : Result ℕ LineStop) : Type 0 where
  pub hints : List ℕ
  pub fit : OnOk result (AreHints old.output old.clauses lits hints)
  pub entries : Continues (on_ok result (ruler_adds (old.output.last + 1) lits hints ∷ [])) old new

-- the clause with this number is alive no more, and the others are as they were, each as often, in whatever order
pub record Deleted (old new : WorkState) (number : ℕ) : Type 0 where
  pub clause : List Literal
  pub alive : Contains old.clauses (number, clause)
  pub put : PutLine old.output new.output (deleted_line old.output number clause)
  pub others : (n : ℕ) (c : List Literal) → Contains new.clauses (n, c) ↔ (Contains old.clauses (n, c) × (n ≢ number))
  pub each : SameMultiset old.clauses ((number, clause) ∷ new.clauses)
  pub state : new ≡ record old { clauses = new.clauses; output = new.output }

-- what stands after a deletion was refused: the clause is alive, and its line was not put
pub record NotDeleted (old new : WorkState) (number : ℕ) (stop : LineStop) : Type 0 where
  pub clause : List Literal
  pub alive : Contains old.clauses (number, clause)
  pub left : NotPut old new (deleted_line old.output number clause) stop

-- what a deletion did, by its answer
abbrev pub WasDeleted : WorkState → WorkState → ℕ → Result ⊤ LineStop → Type 0
WasDeleted old new number (Ok done) = Deleted old new number
WasDeleted old new number (Err stop) = NotDeleted old new number stop

-- the unit is listed, and the line that adds its clause stands
pub record ListedLine (old new : WorkState) (l : Literal) : Type 0 where
  pub number : ℕ
  pub line : AddedLine old.output new.output old.clauses (l ∷ []) number
  pub state : new ≡ record old { clauses = old.clauses ++ (number, l ∷ []) ∷ []; units = old.units ++ l ∷ []; output = new.output }

-- the unit is listed: it was listed before; its clause is alive; its clause is added
abbrev pub IsListed : Bool → Bool → WorkState → WorkState → Literal → Type 0
IsListed true alive old new l = new ≡ old
IsListed false true old new l = new ≡ record old { units = old.units ++ l ∷ [] }
IsListed false false old new l = ListedLine old new l

-- what listing a unit did, by its answer
abbrev pub WasListed : WorkState → WorkState → Literal → Result ⊤ LineStop → Type 0
WasListed old new l (Ok done) = IsListed (has old.units l) (is_alive_unit old l) old new l
WasListed old new l (Err stop) = NotAdded old new (l ∷ []) stop

-- the entry that listing the unit makes
abbrev pub entries_for : Bool → WorkState → Literal → List ℕ → List Entry
entries_for true w l hints = []
entries_for false w l hints = ruler_adds (w.output.last + 1) (l ∷ []) hints ∷ []

-- the entries that listing a unit writes: none if its clause is alive
abbrev pub unit_entries : WorkState → Literal → List ℕ → List Entry
unit_entries w l hints = entries_for (has w.units l || is_alive_unit w l) w l hints

-- if a unit is neither listed nor alive as a clause, these are hints that are wanted of it
abbrev pub UnitHints : Bool → WorkState → Literal → List ℕ → Type 0
UnitHints true w l hints = ⊤
UnitHints false w l hints = AreHints w.output w.clauses (l ∷ []) hints

-- the log goes on with these entries, or with none if the unit was not listed
pub record ListsInLog (old new : WorkState) (l : Literal) (result : Result ⊤ LineStop) : Type 0 where
  pub hints : List ℕ
  pub fit : OnOk result (UnitHints (has old.units l || is_alive_unit old l) old l hints)
  pub entries : Continues (on_ok result (unit_entries old l hints)) old new

-- Variables

-- the positive literal of the variable after the last
abbrev pub next_literal : WorkState → Literal
next_literal w = record { var = w.vars + 1; neg = false }

-- there is one variable more, the literal is its positive one, and nothing else changed
pub record Widened (old new : WorkState) (l : Literal) : Type 0 where
  pub below : old.vars < 2 ^ 30
  pub literal : l ≡ next_literal old
  pub state : new ≡ record old { vars = old.vars + 1 }

-- the next variable would pass the last that a literal can have, and nothing changed
pub record FoundLast (old new : WorkState) : Type 0 where
  pub last : 2 ^ 30 ≤ old.vars
  pub state : new ≡ old

-- what asking for a variable more did, by its answer: a refusal for memory changes nothing
abbrev pub WasWidened : WorkState → WorkState → Result (Option Literal) LineStop → Type 0
WasWidened old new (Ok (Some l)) = Widened old new l
WasWidened old new (Ok None) = FoundLast old new
WasWidened old new (Err stop) = (stop ≡ Memory) × (new ≡ old)
