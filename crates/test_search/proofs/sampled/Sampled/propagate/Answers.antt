use Rattle.std.proofs.Common.{arith}
use Rattle.test_search.proofs.SampledLemmas.{grown_sampled}
use Rattle.test_search.proofs.sampled.Sampled.propagate.Goals as goal

pub propagate-requires-clause-below : goal.propagate-requires-clause-below
propagate-requires-clause-below c k below = absurd (let e = c.requires.level in omega (arith, below))

pub returns-clause-sampled : goal.returns-clause-sampled
returns-clause-sampled c =
    let p = c.propagate.ensures in
    grown_sampled c.args.self.now.watches c.propagate.new.self c.args.self.now.trail c.propagate.new.trail c.requires p.vars p.attached p.grown p.reasons p.watched

pub returns-in_err-outcome-clause-sampled : goal.returns-in_err-outcome-clause-sampled
returns-in_err-outcome-clause-sampled c =
    let p = c.propagate.ensures in
    grown_sampled c.args.self.now.watches c.propagate.new.self c.args.self.now.trail c.propagate.new.trail c.requires p.vars p.attached p.grown p.reasons p.watched
