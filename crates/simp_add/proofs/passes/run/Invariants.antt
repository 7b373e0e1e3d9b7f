use Rattle.std.proofs.Common.{◌≡◌, ◌+◌, ◌-◌, ◌*◌, length}
use Rattle.simp_add.specs.Counted.{IsClear}
use Rattle.simp_add.specs.Stages.{Passing}
use Rattle.simp_add.proofs.passes.run.Given as goal

abbrev pub invariant-loop-code : goal.invariant-loop-code
invariant-loop-code g l = record {
  passing : Passing l.initial.work l.work (l.code - 2);
  wide : length l.tally.counts.items ≡ 2 * (l.work.vars + 1);
  clear : IsClear l.tally.counts.items;
  none : length l.tally.touched.items ≡ 0;
}
