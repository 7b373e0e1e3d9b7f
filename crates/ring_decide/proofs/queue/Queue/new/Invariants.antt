use Rattle.std.proofs.Common.{◌≡◌, length}
use Rattle.ring_decide.specs.Tables.{AreOfMarked}
use Rattle.ring_decide.proofs.queue.Queue.new.Given as goal

abbrev pub invariant-loop-i : goal.invariant-loop-i
invariant-loop-i l = record {
  vars : l.queue.vars ≡ length l.active;
  stamped : AreOfMarked l.active l.queue.stamps;
}
