use Rattle.std.proofs.Common.{arith, Some, refl}
use Rattle.test_ports.specs.Crowd.{asked}
use Rattle.test_ports.proofs.CrowdLemmas.{crowd_goes_on}
use Rattle.test_ports.proofs.crowd.CrowdPort.stop.Goals as goal

pub invariant_of-self : goal.invariant_of-self
invariant_of-self g c =
    let i = c.self.inside in (
      crowd_goes_on i.inner.state i.taken i.stop (Some (record { kind = c.args.kind; ring = 1 })) i.looks i.looks i.refused i.refused (asked i.polled i.polls.items i.caught_up i.tickets) (asked i.polled i.polls.items i.caught_up i.tickets) refl c.self.invariant.0 (record { low = c.requires.low; high = c.requires.high; of_ring = omega arith }),
      c.self.invariant.1,
      c.self.invariant.2,
    )

pub returns-in-None-clause-port : goal.returns-in-None-clause-port
returns-in-None-clause-port g c = (invariant_of-self g c).0
