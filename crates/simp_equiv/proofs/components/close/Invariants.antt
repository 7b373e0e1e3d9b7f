use Rattle.std.proofs.Common.{◌≡◌, ◌≤◌, length, take}
use Rattle.simp_equiv.specs.Searches.{ClosedTo}
use Rattle.simp_equiv.proofs.components.close.Given as goal

abbrev pub invariant-loop-search : goal.invariant-loop-search
invariant-loop-search l = record {
  above : l.place ≤ length l.search.stack.items;
  within : length l.search.stack.items ≤ length l.initial.search.stack.items;
  stack : l.search.stack.items ≡ take (length l.search.stack.items) l.initial.search.stack.items;
  marks : ClosedTo l.initial.search.stack.items l.initial.search.marks.items l.search.marks.items l.initial.search.closed (length l.search.stack.items);
  frames : l.search.frames ≡ l.initial.search.frames;
  closed : l.search.closed ≡ l.initial.search.closed;
}

abbrev pub decreases-loop-search : goal.decreases-loop-search
decreases-loop-search l = length l.search.stack.items
