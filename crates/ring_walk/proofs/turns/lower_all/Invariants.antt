use Rattle.std.proofs.Common.{◌≡◌, ℕ, ◌<◌, length, take}
use Rattle.std.specs.Prelude.{if◌then◌else◌}
use Rattle.ring_walk.specs.Tally.{count_at, lowered}
use Rattle.ring_walk.specs.Truths.{is_in}
use Rattle.ring_walk.proofs.turns.lower_all.Given as goal

abbrev pub invariant-loop-clause : goal.invariant-loop-clause
invariant-loop-clause l = record {
  vars : l.tally.vars ≡ l.fn.tally.vars;
  len : length l.tally.counts ≡ length l.fn.tally.counts;
  each : (i : ℕ) → i < length l.fn.tally.counts → count_at l.tally.counts i ≡ (if is_in (take l.clause-index l.clauses) i then lowered (count_at l.fn.tally.counts i) l.var else count_at l.fn.tally.counts i);
}
