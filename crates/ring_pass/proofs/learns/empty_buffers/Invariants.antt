use Rattle.std.proofs.Common.{◌≡◌, ◌≤◌, length, vec_capacity}
use Rattle.std.specs.Prelude.{All}
use Rattle.ring_pass.specs.RingState.{IsBuffer}
use Rattle.ring_pass.proofs.learns.empty_buffers.Given as goal

abbrev pub invariant-loop-i : goal.invariant-loop-i
invariant-loop-i l = record {
  buffers : All (IsBuffer l.size) l.buffers.items;
  many : length l.buffers.items ≡ l.i;
  room : l.count ≤ vec_capacity l.buffers;
}
