use Rattle.std.proofs.Common.{subst, refl}
use Rattle.std.proofs.lemmas.Bool.{false≢true}
use Rattle.ring_port.specs.Port.{TookNone}
use Rattle.test_ports.specs.Crowd.{asked, crowd_of}
use Rattle.test_ports.proofs.CrowdLemmas.{crowd_goes_on}
use Rattle.test_ports.proofs.crowd.CrowdPort.next_unit.Goals as goal

pub returns-clause-took : goal.returns-clause-took
returns-clause-took g c =
    let i = c.self.inside in
    subst (λ s. TookNone s (crowd_of i.inner.state i.taken i.stop i.looks i.refused (asked i.polled i.polls.items c.saturating_add-self-inside.result i.tickets))) c.self.view_is
    (record { all = λ l h. absurd (false≢true h); none_kept = refl; state = λ j. crowd_of i.inner.state i.taken i.stop i.looks i.refused (asked i.polled i.polls.items (c.saturating_add-self-inside.ensures j) i.tickets) })

pub invariant_of-self : goal.invariant_of-self
invariant_of-self g c =
    let i = c.self.inside in (
      crowd_goes_on i.inner.state i.taken i.stop i.stop i.looks i.looks i.refused i.refused (asked i.polled i.polls.items i.caught_up i.tickets) (asked i.polled i.polls.items c.saturating_add-self-inside.result i.tickets) refl c.self.invariant.0 c.self.invariant.0.stop,
      c.self.invariant.1,
      c.self.invariant.2,
    )

pub returns-clause-port : goal.returns-clause-port
returns-clause-port g c = (invariant_of-self g c).0
