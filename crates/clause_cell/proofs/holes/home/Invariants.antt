use Rattle.std.proofs.Common.{ℕ, ◌+◌, ◌≤◌, ◌<◌, ◌-◌, length}
use Rattle.clause_cell.specs.Blocks.{block_at, end_of}
use Rattle.clause_cell.proofs.holes.home.Given as goal

abbrev pub invariant-loop-low : goal.invariant-loop-low
invariant-loop-low l = record {
  order : l.low ≤ l.high;
  inside : l.high < length l.blocks;
  before : (k : ℕ) → k < l.low → end_of (block_at l.blocks k) < l.first;
  beyond : l.high + 1 < length l.blocks → l.first ≤ end_of (block_at l.blocks l.high);
}

abbrev pub decreases-loop-low : goal.decreases-loop-low
decreases-loop-low l = l.high - l.low
