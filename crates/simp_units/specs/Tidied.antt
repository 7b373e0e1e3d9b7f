-- What cleaning does to clauses.
use Rattle.std.specs.Prelude.{◌≡◌, ◌⊎◌, ℕ, Bool, true, false, not, [], All, List, ◌∷◌, Contains, Option, Result, Ok, Err, ⊤}
use Rattle.std.specs.List.{list_any, filter}
use Rattle.sat_words.specs.Literal.{Literal, opposite}
use Rattle.sat_words.specs.Clause.{two_or_more, has_opposites}
use Rattle.sat_words.specs.Values.{is_true}
use Rattle.rup_model.specs.Status.{IsSettled}
use Rattle.drat_text.specs.declared.stop.LineStop.{LineStop}
use Rattle.simp_base.specs.WorkState.{WorkState}
use Rattle.simp_base.specs.Lifted.{Lifted}
use Rattle.simp_base.specs.Log.{KeepsLog}
use Rattle.simp_base.specs.Causes.{HasCause}
use Rattle.simp_units.specs.Ends.{IsFree, PassesTautologies}
use Rattle.simp_units.specs.Progress.{IsSet}
use Rattle.simp_units.specs.declared.clean.Remainder.{Remainder}
use Rattle.simp_units.specs.declared.clean.Remainder.TheVariants.{Whole, Nothing, Part}

-- the literals that are not false
abbrev pub left_of : List (Option Bool) → List Literal → List Literal
left_of a c = filter (λ l. not (is_true a (opposite l))) c

-- no literal has a value
abbrev pub IsUntouched : List (Option Bool) → List Literal → Type 0
IsUntouched a c = All (λ l. (is_true a l ≡ false) × (is_true a (opposite l) ≡ false)) c

-- a clause of two literals or more without opposites has no literal with a value
abbrev pub IsWhole : List (Option Bool) → List Literal → Type 0
IsWhole a c = two_or_more c ≡ true → has_opposites c ≡ false → IsUntouched a c

-- a literal of a longer clause without opposites is true
pub record IsTrueClause (a : List (Option Bool)) (c : List Literal) : Type 0 where
  pub long : two_or_more c ≡ true
  pub no_opposites : has_opposites c ≡ false
  pub holds : list_any (is_true a) c ≡ true

-- the literals of a longer clause without opposites that are not false
pub record IsPart (a : List (Option Bool)) (c part : List Literal) : Type 0 where
  pub long : two_or_more c ≡ true
  pub no_opposites : has_opposites c ≡ false
  pub open_yet : list_any (is_true a) c ≡ false
  pub is : part ≡ left_of a c

-- what is left of the clause is this
abbrev pub IsLeft : List (Option Bool) → List Literal → Remainder → Type 0
IsLeft a c Whole = IsWhole a c
IsLeft a c Nothing = IsTrueClause a c
IsLeft a c (Part rest) = IsPart a c rest.items

-- what is left of the clause with this number
abbrev pub IsLeftAt : WorkState → List (Option Bool) → ℕ → Remainder → Type 0
IsLeftAt w a number Whole = (c : List Literal) → Contains w.clauses (number, c) → IsWhole a c
IsLeftAt w a number Nothing = (c : List Literal) × Contains w.clauses (number, c) × IsTrueClause a c
IsLeftAt w a number (Part rest) = (c : List Literal) × Contains w.clauses (number, c) × IsPart a c rest.items

-- from the work if propagation ended: models lift, the units are as they were, tautologies are passed over, and each clause
-- is settled, and has no variable of a unit or its number is among the rest
pub record Tidied (old new : WorkState) (a : List (Option Bool)) (rest : List ℕ) : Type 0 where
  pub set : IsSet new a
  pub quiet : new.output.faults ≡ old.output.faults
  pub units : new.units ≡ old.units
  pub lifted : Lifted old new
  pub passed : PassesTautologies old new
  pub settled : (n : ℕ) (c : List Literal) → Contains new.clauses (n, c) → IsSettled a c
  pub free : (n : ℕ) (c : List Literal) → Contains new.clauses (n, c) → IsFree new.units c ⊎ Contains rest n
  pub log : KeepsLog old new

-- so it is after the clause with this number, where it was so before
abbrev pub WasTidied : WorkState → WorkState → List (Option Bool) → ℕ → Result ⊤ LineStop → Type 0
WasTidied old new a number (Ok done) = (start : WorkState) (rest : List ℕ) → Tidied start old a (number ∷ rest) → Tidied start new a rest
WasTidied old new a number (Err stop) = HasCause old new stop × KeepsLog old new

-- all clauses were gone through
abbrev pub WasCleaned : WorkState → WorkState → List (Option Bool) → Result ⊤ LineStop → Type 0
WasCleaned old new a (Ok done) = Tidied old new a []
WasCleaned old new a (Err stop) = HasCause old new stop × KeepsLog old new
