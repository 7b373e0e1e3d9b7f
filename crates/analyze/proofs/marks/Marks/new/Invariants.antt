use Rattle.std.proofs.Common.{◌≡◌, ◌≤◌, replicate}
use Rattle.std.specs.Vec.{vec_capacity}
use Rattle.analyze.proofs.marks.Marks.new.Given as goal

abbrev pub invariant-loop-i : goal.invariant-loop-i
invariant-loop-i g l = record {
  items : l.values.items ≡ replicate l.i l.blank;
  room : l.room ≤ vec_capacity l.values;
}
