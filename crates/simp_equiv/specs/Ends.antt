-- What the replacing of equivalent literals leaves.
use Rattle.std.specs.Prelude.{◌≡◌, ◌⊎◌, ℕ, true, false, List, ◌++◌, All, Contains, Result, Ok, Err}
use Rattle.sat_words.specs.Literal.{Literal, opposite}
use Rattle.sat_words.specs.Clause.{has, has_opposites, two_or_more}
use Rattle.drat_text.specs.declared.stop.LineStop.{LineStop}
use Rattle.simp_base.specs.WorkState.{WorkState, lists, known}
use Rattle.simp_base.specs.Lifted.{Lifted}
use Rattle.simp_base.specs.declared.work.Run.{Run}
use Rattle.simp_base.specs.declared.work.Run.TheVariants.{Done, Refuted}
use Rattle.simp_equiv.specs.Graphs.{Connected}
use Rattle.simp_equiv.specs.Implications.{Implied, IsConsistent, StandsFor}
use Rattle.simp_equiv.specs.Replacements.{is_replaced, Becomes, Comes, replacements, replaced_entries}
use Rattle.simp_base.specs.Causes.{HasCause}

-- a clause of two literals or more without opposites has no variable for which another one stands
abbrev pub IsFree : (Literal → Literal) → List Literal → Type 0
IsFree stand_in c = two_or_more c ≡ true → has_opposites c ≡ false → All (λ l. (stand_in l).var ≡ l.var) c

-- a clause that has no literal to replace, or that takes no part, as a tautology, stays under its number
abbrev pub PassesOthers : (Literal → Literal) → WorkState → WorkState → Type 0
PassesOthers stand_in old new = (n : ℕ) (c : List Literal) → is_replaced stand_in c ≡ false → Contains old.clauses (n, c) → Contains new.clauses (n, c)

-- in the graph at entry no component has a literal and its negation, and one literal stands for each: in no clause is
-- another one left; what was known became what is known by replacing literals, no other clause came, and one that is not to be
-- replaced stays; the stack took two entries for each variable that is replaced, so that models lift
pub record Substituted (old new : WorkState) : Type 0 where
  pub consistent : IsConsistent (Implied old)
  pub stand_in : Literal → Literal
  pub stands : (l : Literal) → StandsFor (Implied old) l (stand_in l)
  pub free : (c : List Literal) → Contains (lists new.clauses) c → IsFree stand_in c
  pub passed : PassesOthers stand_in old new
  pub became : (c : List Literal) → Contains (known old) c → Becomes stand_in c (known new)
  pub came : (c : List Literal) → Contains (lists new.clauses) c → Contains (lists old.clauses) c ⊎ Comes stand_in (lists old.clauses) c
  pub stack : new.stack ≡ old.stack ++ replaced_entries (replacements stand_in old.vars)
  pub lifted : Lifted old new
  pub units : (l : Literal) → has old.units l ≡ true → has new.units l ≡ true
  pub vars : new.vars ≡ old.vars
  pub going : new.ended ≡ false
  pub unspent : new.output.spent ≡ false
  pub quiet : new.output.faults ≡ old.output.faults

-- the empty clause was added, and the output has failed at no line
pub record Ended (old new : WorkState) : Type 0 where
  pub ended : new.ended ≡ true
  pub unspent : new.output.spent ≡ false
  pub quiet : new.output.faults ≡ old.output.faults

-- a component of the graph at entry has a literal and its negation, and the empty clause was added
pub record Clashed (old new : WorkState) : Type 0 where
  pub lit : Literal
  pub clash : Connected (Implied old) lit (opposite lit)
  pub ended : Ended old new

-- how a run ends
abbrev pub Ends : WorkState → WorkState → Result Run LineStop → Type 0
Ends old new (Ok Done) = Substituted old new
Ends old new (Ok Refuted) = Clashed old new
Ends old new (Err stop) = HasCause old new stop

-- how it ends if the graph is consistent
abbrev pub EndsDone : WorkState → WorkState → Result Run LineStop → Type 0
EndsDone old new (Ok Done) = Substituted old new
EndsDone old new (Ok Refuted) = ⊥
EndsDone old new (Err stop) = HasCause old new stop

-- how it ends if the empty clause is to be added
abbrev pub EndsRefuted : WorkState → WorkState → Result Run LineStop → Type 0
EndsRefuted old new (Ok Done) = ⊥
EndsRefuted old new (Ok Refuted) = Ended old new
EndsRefuted old new (Err stop) = HasCause old new stop
