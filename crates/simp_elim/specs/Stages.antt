-- What the additions, the entries of the stack and the deletions of one variable do, and what all of them do.
use Rattle.std.specs.Prelude.{◌≡◌, ◌⊎◌, ⊤, ℕ, ◌≤◌, ◌^◌, true, false, List, ◌++◌, map, All, Contains, Result, Ok, Err}
use Rattle.std.specs.List.{list_any, list_all}
use Rattle.sat_words.specs.Literal.{Literal, IsOn, opposite}
use Rattle.sat_words.specs.Clause.{has, has_opposites, is_empty, two_or_more, InOrder}
use Rattle.rup_model.specs.Rup.{rup}
use Rattle.model_stack.specs.declared.stack.Fix.{Fix}
use Rattle.drat_text.specs.declared.stop.LineStop.{LineStop}
use Rattle.simp_base.specs.WorkState.{WorkState, IsWork, lists, known, is_only, is_unit}
use Rattle.simp_base.specs.Causes.{HasCause}
use Rattle.simp_base.specs.Lifted.{Lifted}
use Rattle.simp_base.specs.Log.{KeepsLog}
use Rattle.simp_base.specs.Multisets.{SameMultiset}
use Rattle.simp_elim.specs.Resolution.{mentions, unmentioned, resolvents, fixes_of}
use Rattle.simp_elim.specs.Occurring.{clause_at, AreOccurrences}
use Rattle.simp_elim.specs.Rule.{goes, eliminate_one, eliminate, IsTaken, AreTaken}
use Rattle.simp_elim.specs.Ends.{ListsUnits}

-- the work goes on as it did, with no fault
pub record GoesOn (old new : WorkState) : Type 0 where
  pub going : new.ended ≡ false
  pub unspent : new.output.spent ≡ false
  pub work : IsWork new
  pub quiet : new.output.faults ≡ old.output.faults
  pub vars : new.vars ≡ old.vars
  pub log : KeepsLog old new

-- a call was refused for its cause
abbrev pub Stops : WorkState → WorkState → LineStop → Type 0
Stops old new stop = HasCause old new stop × KeepsLog old new

-- Additions

-- the clause may be added
pub record CanCome (w : WorkState) (c : List Literal) : Type 0 where
  pub follows : rup (known w) c ≡ true
  pub no_opposites : has_opposites c ≡ false
  pub some : is_empty c ≡ false
  pub on : All (IsOn w.vars) c
  pub ordered : InOrder c

-- these clauses came, in this order, and those of one literal are listed
pub record Grown (old new : WorkState) (made : List (List Literal)) : Type 0 where
  pub on : GoesOn old new
  pub stack : new.stack ≡ old.stack
  pub more : List (ℕ × List Literal)
  pub clauses : new.clauses ≡ old.clauses ++ more
  pub are : lists more ≡ made
  pub kept : (l : Literal) → has old.units l ≡ true → has new.units l ≡ true
  pub came : (l : Literal) → has new.units l ≡ true → (has old.units l ≡ true) ⊎ (list_any (is_only l) made ≡ true)
  pub listed : (l : Literal) → list_any (is_only l) made ≡ true → has new.units l ≡ true

-- what adding the resolvents did, by its answer
abbrev pub WasGrown : WorkState → WorkState → List (List Literal) → Result ⊤ LineStop → Type 0
WasGrown old new made (Ok done) = Grown old new made
WasGrown old new made (Err stop) = Stops old new stop

-- Entries

-- Deletions

-- the clauses with these numbers that are alive have two literals or more
abbrev pub AreLong : WorkState → List ℕ → Type 0
AreLong w numbers = (n : ℕ) (c : List Literal) → Contains numbers n → Contains w.clauses (n, c) → two_or_more c ≡ true

-- from the work at the start: the clauses that are gone had the variable, no other one is gone, each that has it still has
-- its number in the rest, and no other clause has
pub record Removing (start now : WorkState) (l : Literal) (rest : List ℕ) : Type 0 where
  pub gone : List (List Literal)
  pub each : SameMultiset (lists start.clauses) (gone ++ lists now.clauses)
  pub mentioned : list_all (mentions l) gone ≡ true
  pub stay : (n : ℕ) (c : List Literal) → Contains start.clauses (n, c) → mentions l c ≡ false → Contains now.clauses (n, c)
  pub left : (n : ℕ) (c : List Literal) → Contains now.clauses (n, c) → mentions l c ≡ true → Contains rest n
  pub named : (n : ℕ) (c : List Literal) → Contains rest n → Contains now.clauses (n, c) → mentions l c ≡ true

-- the clauses with these numbers are gone
pub record Removed (old new : WorkState) (numbers : List ℕ) : Type 0 where
  pub on : GoesOn old new
  pub stack : new.stack ≡ old.stack
  pub units : new.units ≡ old.units
  pub fewer : (n : ℕ) (c : List Literal) → Contains new.clauses (n, c) → Contains old.clauses (n, c)
  pub kept : (start : WorkState) (l : Literal) (rest : List ℕ) → Removing start old l (numbers ++ rest) → Removing start new l rest

-- what deleting clauses did, by its answer
abbrev pub WasRemoved : WorkState → WorkState → List ℕ → Result ⊤ LineStop → Type 0
WasRemoved old new numbers (Ok done) = Removed old new numbers
WasRemoved old new numbers (Err stop) = Stops old new stop

-- One variable

-- the literal's variable, which has no unit, is in the clauses with these numbers, and in no others; these are the
-- resolvents, in this order
pub record IsReplaceable (w : WorkState) (l : Literal) (firsts seconds : List ℕ) (made : List (List Literal)) : Type 0 where
  pub work : IsWork w
  pub on : IsOn w.vars l
  pub first : AreOccurrences w l firsts
  pub second : AreOccurrences w (opposite l) seconds
  pub free : is_unit w l ≡ false
  pub free_too : is_unit w (opposite l) ≡ false
  pub are : made ≡ resolvents l (map (clause_at w.clauses) firsts) (map (clause_at w.clauses) seconds)

-- the literal's variable was eliminated
pub record Replaced (old new : WorkState) (l : Literal) (firsts : List ℕ) (made : List (List Literal)) : Type 0 where
  pub on : GoesOn old new
  pub clauses : SameMultiset (lists new.clauses) (unmentioned l (lists old.clauses) ++ made)
  pub lifted : Lifted old new
  pub fixes : lifted.fixes ≡ fixes_of l (map (clause_at old.clauses) firsts)
  pub units : ListsUnits old new

-- what eliminating a variable did, by its answer
abbrev pub WasReplaced : WorkState → WorkState → Literal → List ℕ → List (List Literal) → Result ⊤ LineStop → Type 0
WasReplaced old new l firsts made (Ok done) = Replaced old new l firsts made
WasReplaced old new l firsts made (Err stop) = Stops old new stop

-- it was eliminated if it is to be, and nothing was done if it is not
pub record Stepped (old new : WorkState) (v : ℕ) : Type 0 where
  pub on : GoesOn old new
  pub clauses : SameMultiset (lists new.clauses) (eliminate_one old.units (lists old.clauses) v)
  pub lifted : Lifted old new
  pub taken : IsTaken (goes old.units (lists old.clauses) v) v (lists old.clauses) lifted.fixes
  pub units : ListsUnits old new

-- what trying a variable did, by its answer
abbrev pub WasStepped : WorkState → WorkState → ℕ → Result ⊤ LineStop → Type 0
WasStepped old new v (Ok done) = Stepped old new v
WasStepped old new v (Err stop) = Stops old new stop

-- All variables up to one

-- the variables below n have been tried
pub record Passed (start now : WorkState) (n : ℕ) : Type 0 where
  pub on : GoesOn start now
  pub clauses : SameMultiset (lists now.clauses) (eliminate start.units n (lists start.clauses))
  pub lifted : Lifted start now
  pub taken : AreTaken start.units n (lists start.clauses) lifted.fixes
  pub units : ListsUnits start now

-- no literal of the clauses has a variable above this one
pub record IsHighest (w : WorkState) (highest : ℕ) : Type 0 where
  pub few : highest ≤ 2 ^ 30
  pub within : highest ≤ w.vars
  pub all : All (All (IsOn highest)) (lists w.clauses)
