use Rattle.std.proofs.Common.{ℕ, ◌≤◌}
use Rattle.ring_decide.specs.HeapData.{AreSizes, HasPlace}
use Rattle.ring_decide.proofs.heap.Heap.arrange.Given as goal

abbrev pub invariant-loop-done : goal.invariant-loop-done
invariant-loop-done l = record {
  sizes : AreSizes l.self l.fn.self;
  kept : (v : ℕ) → v ≤ l.fn.self.vars → HasPlace l.fn.self v → HasPlace l.self v;
}
