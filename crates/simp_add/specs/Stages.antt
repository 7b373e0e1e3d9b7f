-- What the additions and the deletions of one replacement do, and what a literal's turn does.
use Rattle.std.specs.Prelude.{◌≡◌, ◌↔◌, ⊤, ℕ, ◌+◌, ◌<◌, ◌≤◌, ◌^◌, true, false, List, [], ◌∷◌, ◌++◌, map, length, Contains, Result, Ok, Err}
use Rattle.std.specs.Option.{option_map, unwrap_or}
use Rattle.sat_words.specs.Literal.{Literal, IsOn, same}
use Rattle.sat_words.specs.Clause.{has, two_or_more}
use Rattle.rup_model.specs.declared.journal.Entry.{Entry}
use Rattle.drat_text.specs.declared.stop.LineStop.{LineStop}
use Rattle.simp_base.specs.WorkState.{WorkState, IsWork, lists, numbered}
use Rattle.simp_base.specs.Causes.{HasCause}
use Rattle.simp_base.specs.Lifted.{Lifted}
use Rattle.simp_base.specs.Log.{Continues, Grows, GrowsLog}
use Rattle.simp_base.specs.Calls.{ruler_deletes}
use Rattle.simp_add.specs.Common.{clause_at, others, mentions, is_alive}
use Rattle.simp_add.specs.Shared.{AreShared}
use Rattle.simp_add.specs.Rule.{adds, Distinct, Exchanged, IsPartner, Turn, Ran}
use Rattle.simp_add.specs.declared.passes.Ending.{Ending}
use Rattle.simp_add.specs.declared.passes.Ending.TheVariants.{Over, NoVariable}

-- the work goes on as it did, with no fault
pub record GoesOn (old new : WorkState) : Type 0 where
  pub going : new.ended ≡ false
  pub unspent : new.output.spent ≡ false
  pub work : IsWork new
  pub quiet : new.output.faults ≡ old.output.faults
  pub units : new.units ≡ old.units
  pub stack : new.stack ≡ old.stack

-- a call was refused for its cause
abbrev pub Stops : WorkState → WorkState → LineStop → Type 0
Stops old new stop = HasCause old new stop × GrowsLog old new

-- Additions

-- the set of the clause with this number: its literals except for this one
abbrev pub set_at : List (ℕ × List Literal) → Literal → ℕ → List Literal
set_at cs l n = unwrap_or (option_map (others l) (clause_at cs n)) []

-- the clause with this number is alive, the new literal is above those of clauses not held and not in its set, and each clause with
-- the new literal has beside it one that with the set is alive
pub record CanCome (w : WorkState) (x l : Literal) (n : ℕ) : Type 0 where
  pub new : IsOn w.vars x
  pub above : w.unheld < x.var
  pub clause : List Literal
  pub alive : Contains w.clauses (n, clause)
  pub free : has (set_at w.clauses l n) x ≡ false
  pub defined : (m : ℕ) (d : List Literal) → Contains w.clauses (m, d) → has d x ≡ true
      → (j : Literal) × (has d j ≡ true) × (same x j ≡ false) × (is_alive (lists w.clauses) (j ∷ set_at w.clauses l n) ≡ true)

-- these clauses came, in this order
pub record Grown (old new : WorkState) (made : List (List Literal)) : Type 0 where
  pub on : GoesOn old new
  pub vars : new.vars ≡ old.vars
  pub unheld : new.unheld ≡ old.unheld
  pub log : Continues (adds (old.output.last + 1) made) old new
  pub clauses : new.clauses ≡ old.clauses ++ numbered (old.output.last + 1) made
  pub last : new.output.last ≡ old.output.last + length made

-- what additions did, by their answer
abbrev pub WasGrown : WorkState → WorkState → List (List Literal) → Result ⊤ LineStop → Type 0
WasGrown old new made (Ok done) = Grown old new made
WasGrown old new made (Err stop) = Stops old new stop

-- Deletions

-- the clauses with these numbers that are alive have two literals or more
abbrev pub AreLong : WorkState → List ℕ → Type 0
AreLong w numbers = (n : ℕ) (c : List Literal) → Contains numbers n → Contains w.clauses (n, c) → two_or_more c ≡ true

-- those of the clauses with these numbers that were alive are gone, each by one line, in some order
pub record Removed (old new : WorkState) (numbers : List ℕ) : Type 0 where
  pub on : GoesOn old new
  pub vars : new.vars ≡ old.vars
  pub gone : List ℕ
  pub log : Continues (map ruler_deletes gone) old new
  pub once : Distinct gone
  pub named : (n : ℕ) → Contains gone n ↔ (Contains numbers n × ((c : List Literal) × Contains old.clauses (n, c)))
  pub clauses : (n : ℕ) (c : List Literal) → Contains new.clauses (n, c) ↔ (Contains old.clauses (n, c) × (Contains numbers n → ⊥))
  pub count : length new.clauses + length gone ≡ length old.clauses

-- what deletions did, by their answer
abbrev pub WasRemoved : WorkState → WorkState → List ℕ → Result ⊤ LineStop → Type 0
WasRemoved old new numbers (Ok done) = Removed old new numbers
WasRemoved old new numbers (Err stop) = Stops old new stop

-- One replacement

-- the two literals have these common sets, of which there are three or more, and no clause has the new literal's variable, held
-- or not
pub record IsReplaceable (w : WorkState) (x l k : Literal) (firsts gone : List ℕ) : Type 0 where
  pub work : IsWork w
  pub new : IsOn w.vars x
  pub above : w.unheld < x.var
  pub free : (n : ℕ) (c : List Literal) → Contains w.clauses (n, c) → mentions x c ≡ false
  pub first : IsOn w.vars l
  pub partner : IsPartner w l k
  pub shared : AreShared w l k firsts gone

-- the clauses of the two literals were exchanged
pub record Done (old new : WorkState) (x l k : Literal) : Type 0 where
  pub on : GoesOn old new
  pub vars : new.vars ≡ old.vars
  pub entries : List Entry
  pub log : Continues entries old new
  pub exchanged : Exchanged old new x l k entries
  pub lifted : Lifted old new
  pub unmended : lifted.fixes ≡ []

-- what exchanging them did, by its answer
abbrev pub WasExchanged : WorkState → WorkState → Literal → Literal → Literal → Result ⊤ LineStop → Type 0
WasExchanged old new x l k (Ok done) = Done old new x l k
WasExchanged old new x l k (Err stop) = Stops old new stop

-- One turn

-- the literal had its turn
pub record Stepped (old new : WorkState) (l : Literal) : Type 0 where
  pub on : GoesOn old new
  pub entries : List Entry
  pub log : Grows entries old new
  pub turn : Turn old new l entries
  pub lifted : Lifted old new
  pub unmended : lifted.fixes ≡ []
  pub fewer : length new.clauses ≤ length old.clauses

-- the literal has a partner, and there is no variable left
pub record HasNoVariable (old new : WorkState) (l : Literal) : Type 0 where
  pub same : new ≡ old
  pub partner : Literal
  pub is : IsPartner old l partner
  pub last : 2 ^ 30 ≤ old.vars

-- what giving a literal its turn did, by its answer
abbrev pub WasStepped : WorkState → WorkState → Literal → Result Ending LineStop → Type 0
WasStepped old new l (Ok Over) = Stepped old new l
WasStepped old new l (Ok NoVariable) = HasNoVariable old new l
WasStepped old new l (Err stop) = Stops old new stop

-- All turns up to one

-- the first literals, this many of them, had their turn
pub record Passing (start now : WorkState) (n : ℕ) : Type 0 where
  pub on : GoesOn start now
  pub entries : List Entry
  pub ran : Ran n start now entries
  pub log : Grows entries start now
  pub lifted : Lifted start now
  pub unmended : lifted.fixes ≡ []
  pub fewer : length now.clauses ≤ length start.clauses
