-- What elimination leaves.
use Rattle.std.specs.Prelude.{◌≡◌, ◌⊎◌, true, false, Result, Ok, Err}
use Rattle.sat_words.specs.Literal.{Literal}
use Rattle.sat_words.specs.Clause.{has}
use Rattle.drat_text.specs.declared.stop.LineStop.{LineStop}
use Rattle.simp_base.specs.WorkState.{WorkState, lists, is_alive_unit}
use Rattle.simp_base.specs.Causes.{HasCause}
use Rattle.simp_base.specs.Lifted.{Lifted}
use Rattle.simp_base.specs.Multisets.{SameMultiset}
use Rattle.simp_base.specs.declared.work.Run.{Run}
use Rattle.simp_base.specs.declared.work.Run.TheVariants.{Done, Refuted}
use Rattle.simp_elim.specs.Rule.{eliminate, AreTaken}

-- units that were listed still are; those that came are alive as clauses, and each unit clause that came is listed
pub record ListsUnits (old new : WorkState) : Type 0 where
  pub kept : (l : Literal) → has old.units l ≡ true → has new.units l ≡ true
  pub came : (l : Literal) → has new.units l ≡ true → (has old.units l ≡ true) ⊎ (is_alive_unit new l ≡ true)
  pub listed : (l : Literal) → is_alive_unit new l ≡ true → (is_alive_unit old l ≡ true) ⊎ (has new.units l ≡ true)
  pub alive : (l : Literal) → is_alive_unit old l ≡ true → is_alive_unit new l ≡ true

-- the clauses are, each as often, what the rule gives variable by variable from those at entry; the stack took just the
-- entries of the variables that were eliminated, and models lift by them
pub record Eliminated (old new : WorkState) : Type 0 where
  pub clauses : SameMultiset (lists new.clauses) (eliminate old.units old.vars (lists old.clauses))
  pub lifted : Lifted old new
  pub taken : AreTaken old.units old.vars (lists old.clauses) lifted.fixes
  pub units : ListsUnits old new
  pub vars : new.vars ≡ old.vars
  pub going : new.ended ≡ false
  pub unspent : new.output.spent ≡ false
  pub quiet : new.output.faults ≡ old.output.faults

-- how a run ends: it never refutes
abbrev pub Ends : WorkState → WorkState → Result Run LineStop → Type 0
Ends old new (Ok Done) = Eliminated old new
Ends old new (Ok Refuted) = ⊥
Ends old new (Err stop) = HasCause old new stop
