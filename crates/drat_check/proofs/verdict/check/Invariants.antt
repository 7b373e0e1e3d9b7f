use Rattle.std.proofs.Common.{◌≡◌, take}
use Rattle.rup_model.specs.Log.{alive, Accepted}
use Rattle.drat_check.proofs.verdict.check.Given as goal

abbrev pub invariant-loop-i : goal.invariant-loop-i
invariant-loop-i l = record {
  alive : l.alive.items ≡ alive l.formula.clauses (take l.i l.lines);
  good : Accepted l.formula.clauses (take l.i l.lines);
}
