use Rattle.std.proofs.Common.{arith, Some, sym, subst, refl}
use Rattle.sat_words.specs.declared.shared.Stop.{Stop}
use Rattle.ring_port.specs.PortState.{IsStop}
use Rattle.test_ports.specs.Crowd.{asked}
use Rattle.test_ports.proofs.CrowdLemmas.{crowd_goes_on}
use Rattle.test_ports.proofs.crowd.CrowdPort.stopped.Goals as goal

pub invariant_of-self : goal.invariant_of-self
invariant_of-self g c =
    let i = c.self.inside in (
      crowd_goes_on i.inner.state i.taken i.stop (Some c.third_stop-stop.result) i.looks i.looks i.refused i.refused (asked i.polled i.polls.items i.caught_up i.tickets) (asked i.polled i.polls.items i.caught_up i.tickets) refl c.self.invariant.0
          (subst (λ (x : Stop). IsStop 3 x) (sym c.third_stop-stop.ensures) (record { low = omega arith; high = omega arith; of_ring = omega arith })),
      c.self.invariant.1,
      c.self.invariant.2,
    )

pub returns-then-self-eq0-clause-port : goal.returns-then-self-eq0-clause-port
returns-then-self-eq0-clause-port g c = (invariant_of-self g c).0

pub invariant_of-self-in-None : goal.invariant_of-self-in-None
invariant_of-self-in-None g c =
    let i = c.self.inside in (
      crowd_goes_on i.inner.state i.taken i.stop i.stop i.looks c.saturating_add-self-inside.result i.refused i.refused (asked i.polled i.polls.items i.caught_up i.tickets) (asked i.polled i.polls.items i.caught_up i.tickets) refl c.self.invariant.0 c.self.invariant.0.stop,
      c.self.invariant.1,
      c.self.invariant.2,
    )

pub returns-else-self-eq0-clause-port : goal.returns-else-self-eq0-clause-port
returns-else-self-eq0-clause-port g c = (invariant_of-self-in-None g c).0
