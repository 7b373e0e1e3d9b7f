use Rattle.std.proofs.Common.{arith}
use Rattle.portfolio_run.proofs.Tallies.{counts_are}
use Rattle.portfolio_run.proofs.parts.note_counts.Goals as goal

pub returns : goal.returns
returns c =
    let at = c.loop-ring.invariant in
    let le = c.loop-ring.auto.ring-end in
    let ge = c.loop-ring-test.false in
    counts_are c.loop-ring.tally.items c.args.ends.now at.0 (λ i d e lt. at.1 i d e (omega arith))
