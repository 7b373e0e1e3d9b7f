-- What the additions, the deletions and the entries of the stack do, one after another.
use Rattle.std.specs.Prelude.{◌≡◌, ◌⊎◌, ℕ, Bool, true, false, List, [], ◌∷◌, ◌++◌, map, Contains, Option, None, Some, Result, Ok, Err, ⊤}
use Rattle.sat_words.specs.Literal.{Literal}
use Rattle.sat_words.specs.Clause.{has, has_opposites, InOrder}
use Rattle.model_stack.specs.declared.stack.Fix.{Fix}
use Rattle.drat_text.specs.declared.stop.LineStop.{LineStop}
use Rattle.drat_text.specs.declared.stop.LineStop.TheVariants.{Memory}
use Rattle.simp_base.specs.WorkState.{WorkState, IsWork, lists, known}
use Rattle.simp_base.specs.Log.{KeepsLog}
use Rattle.simp_equiv.specs.Graphs.{Reaches}
use Rattle.simp_equiv.specs.Implications.{Implies}
use Rattle.simp_equiv.specs.Replacements.{is_replaced, Becomes, Comes}
use Rattle.simp_base.specs.Causes.{HasCause}

-- each clause is in order
abbrev pub AreInOrder : List (ℕ × List Literal) → Type 0
AreInOrder cs = (n : ℕ) (c : List Literal) → Contains cs (n, c) → InOrder c

-- each literal implies the one that stands for it, by what is known
pub record Leads (w : WorkState) (stand_in : Literal → Literal) : Type 0 where
  pub fixed : ℕ → Bool
  pub implied : (l : Literal) → Reaches (Implies fixed (known w)) l (stand_in l)

-- the work goes on as it did: no fault, nothing on the stack, no unit lost
pub record GoesOn (old new : WorkState) : Type 0 where
  pub going : new.ended ≡ false
  pub unspent : new.output.spent ≡ false
  pub work : IsWork new
  pub quiet : new.output.faults ≡ old.output.faults
  pub stack : new.stack ≡ old.stack
  pub vars : new.vars ≡ old.vars
  pub units : (l : Literal) → has old.units l ≡ true → has new.units l ≡ true
  pub log : KeepsLog old new

-- a clause of these literals is known, and none but such a one came
pub record Grown (old new : WorkState) (lits : List Literal) : Type 0 where
  pub on : GoesOn old new
  pub stay : (n : ℕ) (c : List Literal) → Contains old.clauses (n, c) → Contains new.clauses (n, c)
  pub came : (n : ℕ) (c : List Literal) → Contains new.clauses (n, c) → Contains old.clauses (n, c) ⊎ ((l : Literal) → has c l ≡ has lits l)
  pub there : (d : List Literal) × Contains (known new) d × ((l : Literal) → has d l ≡ has lits l)

-- what adding a rewritten clause did, by its answer
abbrev pub WasGrown : WorkState → WorkState → List Literal → Result ⊤ LineStop → Type 0
WasGrown old new lits (Ok done) = Grown old new lits
WasGrown old new lits (Err stop) = HasCause old new stop × KeepsLog old new

-- what takes the place of the clause with this number: nothing, if it is not alive, or not to be replaced, or becomes
-- a tautology
abbrev pub IsReplacement : WorkState → (Literal → Literal) → ℕ → Option (List Literal) → Type 0
IsReplacement w stand_in n None = (c : List Literal) → Contains w.clauses (n, c) → is_replaced stand_in c ≡ true → has_opposites (map stand_in c) ≡ true
IsReplacement w stand_in n (Some d) = (c : List Literal) × Contains w.clauses (n, c) × (is_replaced stand_in c ≡ true) × ((l : Literal) → has d l ≡ has (map stand_in c) l) × (has_opposites d ≡ false)

-- the clause with this number is to be replaced
abbrev pub IsReplacedAt : WorkState → (Literal → Literal) → ℕ → Bool → Type 0
IsReplacedAt w stand_in n true = (c : List Literal) × Contains w.clauses (n, c) × (is_replaced stand_in c ≡ true)
IsReplacedAt w stand_in n false = (c : List Literal) → Contains w.clauses (n, c) → is_replaced stand_in c ≡ false

-- from the work at the start: nothing is gone, each clause that came is one of the start with its literals replaced, and
-- of each clause that is to be replaced what becomes of it is known, or its number is in the rest
pub record Adding (start now : WorkState) (stand_in : Literal → Literal) (rest : List ℕ) : Type 0 where
  pub on : GoesOn start now
  pub stay : (n : ℕ) (c : List Literal) → Contains start.clauses (n, c) → Contains now.clauses (n, c)
  pub came : (n : ℕ) (c : List Literal) → Contains now.clauses (n, c) → Contains start.clauses (n, c) ⊎ Comes stand_in (lists start.clauses) c
  pub named : (n : ℕ) → Contains rest n → (c : List Literal) × Contains start.clauses (n, c)
  pub became : (n : ℕ) (c : List Literal) → Contains start.clauses (n, c) → is_replaced stand_in c ≡ true → Becomes stand_in c (known now) ⊎ Contains rest n

-- so it is after the clause with this number, where it was so before
abbrev pub WasAdded : WorkState → WorkState → (Literal → Literal) → ℕ → Result ⊤ LineStop → Type 0
WasAdded old new stand_in n (Ok done) = (start : WorkState) (rest : List ℕ) → Adding start old stand_in (n ∷ rest) → Adding start new stand_in rest
WasAdded old new stand_in n (Err stop) = HasCause old new stop × KeepsLog old new

-- what adding all rewritten clauses did, by its answer
abbrev pub WereAdded : WorkState → WorkState → (Literal → Literal) → List ℕ → Result ⊤ LineStop → Type 0
WereAdded old new stand_in numbers (Ok done) = Adding old new stand_in []
WereAdded old new stand_in numbers (Err stop) = HasCause old new stop × KeepsLog old new

-- from the work at the start: what becomes of each clause and unit is known, and each clause that is to be replaced has
-- its number in the rest; the others stay
pub record Removing (start now : WorkState) (stand_in : Literal → Literal) (rest : List ℕ) : Type 0 where
  pub on : GoesOn start now
  pub settled : (l : Literal) → stand_in (stand_in l) ≡ stand_in l
  pub stay : (n : ℕ) (c : List Literal) → is_replaced stand_in c ≡ false → Contains start.clauses (n, c) → Contains now.clauses (n, c)
  pub came : (n : ℕ) (c : List Literal) → Contains now.clauses (n, c) → Contains start.clauses (n, c) ⊎ Comes stand_in (lists start.clauses) c
  pub became : (c : List Literal) → Contains (known start) c → Becomes stand_in c (known now)
  pub left : (n : ℕ) (c : List Literal) → Contains now.clauses (n, c) → is_replaced stand_in c ≡ true → Contains rest n

-- the clause with this number is gone where it was to be replaced
pub record Removed (old new : WorkState) (stand_in : Literal → Literal) (n : ℕ) : Type 0 where
  pub on : GoesOn old new
  pub kept : (start : WorkState) (rest : List ℕ) → Removing start old stand_in (n ∷ rest) → Removing start new stand_in rest

-- what deleting a replaced clause did, by its answer
abbrev pub WasRemoved : WorkState → WorkState → (Literal → Literal) → ℕ → Result ⊤ LineStop → Type 0
WasRemoved old new stand_in n (Ok done) = Removed old new stand_in n
WasRemoved old new stand_in n (Err stop) = HasCause old new stop × KeepsLog old new

-- what deleting all replaced clauses did, by its answer
abbrev pub WereRemoved : WorkState → WorkState → (Literal → Literal) → List ℕ → Result ⊤ LineStop → Type 0
WereRemoved old new stand_in numbers (Ok done) = (start : WorkState) → Removing start old stand_in numbers → Removing start new stand_in []
WereRemoved old new stand_in numbers (Err stop) = HasCause old new stop × KeepsLog old new
