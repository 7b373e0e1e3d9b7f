-- What propagating the units leaves.
use Rattle.std.specs.Prelude.{◌≡◌, ◌↔◌, ℕ, ◌==◌, Bool, true, false, List, [], All, Contains, Result, Ok, Err}
use Rattle.std.specs.List.{list_any}
use Rattle.sat_words.specs.Literal.{Literal}
use Rattle.sat_words.specs.Clause.{has, has_opposites, two_or_more}
use Rattle.rup_model.specs.Rounds.{Rounds}
use Rattle.rup_model.specs.Rup.{conflicts}
use Rattle.simp_base.specs.Causes.{HasCause}
use Rattle.drat_text.specs.declared.stop.LineStop.{LineStop}
use Rattle.simp_base.specs.WorkState.{WorkState, lists, known, is_alive_unit}
use Rattle.simp_base.specs.Lifted.{Lifted}
use Rattle.simp_base.specs.declared.work.Run.{Run}
use Rattle.simp_base.specs.declared.work.Run.TheVariants.{Done, Refuted}

-- a literal of the variable is listed
abbrev pub is_fixed : List Literal → ℕ → Bool
is_fixed units v = list_any (λ u. u.var == v) units

-- a clause of two literals or more without opposites has no variable of a unit
abbrev pub IsFree : List Literal → List Literal → Type 0
IsFree units c = two_or_more c ≡ true → has_opposites c ≡ false → All (λ l. is_fixed units l.var ≡ false) c

-- tautologies are passed over: each stays alive under its number, and none comes
abbrev pub PassesTautologies : WorkState → WorkState → Type 0
PassesTautologies old new = (n : ℕ) (c : List Literal) → has_opposites c ≡ true → Contains old.clauses (n, c) ↔ Contains new.clauses (n, c)

-- the rounds from no literal over the clauses and units at entry falsify no clause; the units are what they give, and those
-- whose clauses are alive are among them; no other clause but a tautology holds a unit's variable, and tautologies are passed
-- over; models lift, and the variables are as they were
pub record Cleaned (old new : WorkState) : Type 0 where
  pub open_yet : conflicts (known old) [] ≡ false
  pub units : (l : Literal) → has new.units l ≡ Rounds (known old) [] l
  pub alone : (l : Literal) → is_alive_unit new l ≡ true → has new.units l ≡ true
  pub free : All (IsFree new.units) (lists new.clauses)
  pub passed : PassesTautologies old new
  pub lifted : Lifted old new
  pub vars : new.vars ≡ old.vars
  pub going : new.ended ≡ false
  pub unspent : new.output.spent ≡ false
  pub quiet : new.output.faults ≡ old.output.faults

-- the empty clause was added, and the output has failed at no line
pub record Propagation (old new : WorkState) : Type 0 where
  pub ended : new.ended ≡ true
  pub unspent : new.output.spent ≡ false
  pub quiet : new.output.faults ≡ old.output.faults

-- they falsify a clause, and the empty clause was added
pub record Conflicted (old new : WorkState) : Type 0 where
  pub falsified : conflicts (known old) [] ≡ true
  pub ended : Propagation old new

-- how a run ends
abbrev pub Ends : WorkState → WorkState → Result Run LineStop → Type 0
Ends old new (Ok Done) = Cleaned old new
Ends old new (Ok Refuted) = Conflicted old new
Ends old new (Err stop) = HasCause old new stop

-- what comes if the empty clause is to be added
abbrev pub EndsRefuted : WorkState → WorkState → Result Run LineStop → Type 0
EndsRefuted old new (Ok Done) = ⊥
EndsRefuted old new (Ok Refuted) = Propagation old new
EndsRefuted old new (Err stop) = HasCause old new stop
