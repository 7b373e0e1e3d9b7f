use Rattle.test_ring.proofs.SteppingLemmas.{grown_stepping}
use Rattle.test_ring.proofs.stepping.Stepping.propagate.Goals as goal

pub returns-clause-stepping : goal.returns-clause-stepping
returns-clause-stepping g c =
    let p = c.propagate.ensures in
    grown_stepping (g.P.Port.state c.args.port.now) c.args.self.now.watches c.propagate.new.self c.args.self.now.trail c.propagate.new.trail c.requires c.decision_level-lawful.ensures.trail p.attached p.grown p.reasons p.watched
