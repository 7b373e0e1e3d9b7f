use Rattle.std.proofs.Common.{◌≡◌, take}
use Rattle.std.proofs.Math.ListN.{set}
use Rattle.sat_words.specs.Truth.{lit_true}
use Rattle.ring_walk.specs.Truths.{count_of}
use Rattle.ring_walk.proofs.counting.count_clause.Given as goal

abbrev pub invariant-loop-lit : goal.invariant-loop-lit
invariant-loop-lit l = record {
  vars : l.tally.vars ≡ l.fn.tally.vars;
  counts : l.tally.counts ≡ set l.fn.tally.counts l.clause (count_of (lit_true l.values) (take l.lit-index l.lits));
}
