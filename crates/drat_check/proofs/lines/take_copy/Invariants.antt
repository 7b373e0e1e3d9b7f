use Rattle.std.proofs.Common.{◌≡◌, false, take}
use Rattle.std.specs.List.{list_any}
use Rattle.sat_words.specs.Clause.{same_set}
use Rattle.drat_check.proofs.lines.take_copy.Given as goal

abbrev pub invariant-loop-i : goal.invariant-loop-i
invariant-loop-i l = record {
  same : l.alive.items ≡ l.fn.alive.items;
  none : list_any (same_set l.lits) (take l.i l.alive.items) ≡ false;
}
