use Rattle.std.proofs.Common.{◌≡◌, ◌≤◌, length}
use Rattle.watch_prop.specs.Layout.{AreLaidOut}
use Rattle.watch_prop.proofs.stretches.lay_out.Given as goal

abbrev pub invariant-loop-i : goal.invariant-loop-i
invariant-loop-i l = record {
  len : length l.stretches.items ≡ length l.fn.stretches.items;
  laid : AreLaidOut l.stretches.items l.i l.end;
  inside : l.end ≤ l.size;
}
