use Rattle.std.proofs.Common.{◌-◌, ◌+◌, ◌≤◌}
use Rattle.simp_elim.specs.Stages.{Passed}
use Rattle.simp_elim.proofs.passes.run.Given as goal

abbrev pub invariant-loop-var : goal.invariant-loop-var
invariant-loop-var g l = record {
  low : 1 ≤ l.var;
  high : l.var ≤ l.highest + 1;
  passed : Passed l.initial.work l.work (l.var - 1);
}
