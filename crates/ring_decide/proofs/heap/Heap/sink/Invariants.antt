use Rattle.std.proofs.Common.{◌≡◌, ◌<◌, ◌+◌, length, ◌-◌}
use Rattle.ring_decide.specs.HeapData.{AreSizes, IsFree, KeepsOthers}
use Rattle.ring_decide.proofs.heap.Heap.sink.Given as goal

abbrev pub invariant-loop-below : goal.invariant-loop-below
invariant-loop-below l = record {
  sizes : AreSizes l.self l.fn.self;
  len : length l.self.places ≡ l.self.vars + 1;
  place : l.at < l.self.count;
  free : IsFree l.self l.at;
  kept : KeepsOthers l.fn.self l.self l.var;
}

abbrev pub decreases-loop-below : goal.decreases-loop-below
decreases-loop-below l = l.self.count - l.at
