use Rattle.std.proofs.Common.{[], subst, arith}
use Rattle.std.proofs.lemmas.List.{get_or_default}
use Rattle.sat_words.specs.Clause.{InOrder}
use Rattle.sat_words.specs.Truth.{lit_true}
use Rattle.ring_walk.proofs.CountLemmas.{all_counted}
use Rattle.ring_walk.proofs.counting.tally_of.Goals as goal

pub returns-clause-counts : goal.returns-clause-counts
returns-clause-counts c =
    all_counted (lit_true c.args.values.now) c.args.clauses.now c.loop-i.tally.counts c.loop-i.invariant.len (λ j lt. c.loop-i.invariant.counted j (omega (arith, c.loop-i-test.false, c.loop-i.auto)))

pub returns-clause-ordered : goal.returns-clause-ordered
returns-clause-ordered c = λ k d lt. subst InOrder (get_or_default c.args.clauses.now k [] d lt) (c.loop-i.invariant.ordered k (omega (arith, c.loop-i-test.false, c.loop-i.auto)))
