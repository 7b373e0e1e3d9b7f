-- What bounded variable addition leaves.
use Rattle.std.specs.Prelude.{◌≡◌, ℕ, ◌≤◌, false, List, [], length, Result, Ok, Err}
use Rattle.rup_model.specs.declared.journal.Entry.{Entry}
use Rattle.drat_text.specs.declared.stop.LineStop.{LineStop}
use Rattle.simp_base.specs.WorkState.{WorkState}
use Rattle.simp_base.specs.Causes.{HasCause}
use Rattle.simp_base.specs.Lifted.{Lifted}
use Rattle.simp_base.specs.Log.{Grows}
use Rattle.simp_base.specs.declared.work.Run.{Run}
use Rattle.simp_base.specs.declared.work.Run.TheVariants.{Done, Refuted}
use Rattle.simp_add.specs.Rule.{Ran, IsOver}

-- all literals had their turn by the rule; the log grew by just the entries of the rule, in its order; models need no mending;
-- the units and the stack are as they were, and the clauses are no more than they were
pub record Shortened (old new : WorkState) : Type 0 where
  pub turns : ℕ
  pub entries : List Entry
  pub ran : Ran turns old new entries
  pub over : IsOver turns new
  pub log : Grows entries old new
  pub lifted : Lifted old new
  pub unmended : lifted.fixes ≡ []
  pub units : new.units ≡ old.units
  pub fewer : length new.clauses ≤ length old.clauses
  pub going : new.ended ≡ false
  pub unspent : new.output.spent ≡ false
  pub quiet : new.output.faults ≡ old.output.faults

-- how a run ends: it never refutes
abbrev pub Ends : WorkState → WorkState → Result Run LineStop → Type 0
Ends old new (Ok Done) = Shortened old new
Ends old new (Ok Refuted) = ⊥
Ends old new (Err stop) = HasCause old new stop
