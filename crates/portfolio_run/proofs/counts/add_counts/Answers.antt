use Rattle.std.proofs.Common.{◌∙◌, length, arith}
use Rattle.portfolio_run.proofs.Summing.{sums_are, none_are}
use Rattle.portfolio_run.proofs.counts.add_counts.Goals as goal

pub returns-clause-added : goal.returns-clause-added
returns-clause-added c =
    let at = c.loop-ring.invariant in
    let le = c.loop-ring.auto.ring-end in
    let ge = c.loop-ring-test.false in
    sums_are c.loop-ring.tally.items c.args.counts.now.items c.args.tally.now.items (at.1 ∙ c.requires.many) c.requires.many (λ i d lt. at.2 i d (omega arith))

pub returns-clause-none : goal.returns-clause-none
returns-clause-none c =
    let at = c.loop-ring.invariant in
    let le = c.loop-ring.auto.ring-end in
    let ge = c.loop-ring-test.false in
    none_are c.loop-ring.counts.items (length c.args.counts.now.items) at.0 (λ i d lt. at.4 i d (omega arith))
