use Rattle.std.proofs.Common.{◌-◌, ◌+◌, ◌≡◌, ◌≤◌}
use Rattle.simp_equiv.specs.Tables.{stand_in}
use Rattle.simp_equiv.specs.Replacements.{replaced_entries, replacements}
use Rattle.simp_base.specs.Stacked.{Stacked}
use Rattle.simp_equiv.proofs.entries.push_all.Given as goal

abbrev pub invariant-loop-var : goal.invariant-loop-var
invariant-loop-var g l = record {
  low : 1 ≤ l.var;
  high : l.var ≤ l.initial.work.vars + 1;
  vars : l.work.vars ≡ l.initial.work.vars;
  stacked : Stacked l.initial.work l.work (replaced_entries (replacements (stand_in l.table) (l.var - 1)));
}
