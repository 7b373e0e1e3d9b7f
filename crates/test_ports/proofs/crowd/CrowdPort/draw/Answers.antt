use Rattle.std.proofs.Common.{refl}
use Rattle.test_ports.specs.Crowd.{asked}
use Rattle.test_ports.proofs.CrowdLemmas.{crowd_goes_on}
use Rattle.test_ports.proofs.crowd.CrowdPort.draw.Goals as goal

pub invariant_of-self : goal.invariant_of-self
invariant_of-self g c =
    let i = c.self.inside in
    (crowd_goes_on i.inner.state i.taken i.stop i.stop i.looks i.looks i.refused i.refused (asked i.polled i.polls.items i.caught_up i.tickets) _ refl c.self.invariant.0 c.self.invariant.0.stop, c.self.invariant.1, c.self.invariant.2)

pub returns-clause-port : goal.returns-clause-port
returns-clause-port g c = (invariant_of-self g c).0
