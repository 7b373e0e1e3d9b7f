use Rattle.std.proofs.Common.{◌≡◌, ℕ, ◌<◌, ◌≤◌, length, get_or, []}
use Rattle.sat_words.specs.Clause.{InOrder}
use Rattle.sat_words.specs.Truth.{lit_true}
use Rattle.ring_walk.specs.Tally.{count_at, nothing}
use Rattle.ring_walk.specs.Truths.{count_of}
use Rattle.ring_walk.proofs.counting.tally_of.Given as goal

abbrev pub invariant-loop-i : goal.invariant-loop-i
invariant-loop-i l = record {
  vars : l.tally.vars ≡ l.vars;
  len : length l.tally.counts ≡ length l.clauses;
  counted : (j : ℕ) → j < l.i → count_at l.tally.counts j ≡ count_of (lit_true l.values) (get_or l.clauses j []);
  fresh : (j : ℕ) → l.i ≤ j → j < length l.clauses → count_at l.tally.counts j ≡ nothing;
  ordered : (j : ℕ) → j < l.i → InOrder (get_or l.clauses j []);
}
