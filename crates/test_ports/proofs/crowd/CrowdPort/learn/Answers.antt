use Rattle.std.proofs.Common.{subst, refl, Some}
use Rattle.ring_port.specs.declared.stops.PortStop.TheVariants.{NoHole}
use Rattle.ring_port.specs.Port.{KeepsHeld}
use Rattle.test_ports.specs.Crowd.{asked, crowd_of}
use Rattle.test_ports.proofs.CrowdLemmas.{held_same, crowd_goes_on}
use Rattle.test_ports.proofs.crowd.CrowdPort.learn.Goals as goal

pub returns-clause-kept : goal.returns-clause-kept
returns-clause-kept g c =
    let i = c.self.inside in
    subst (λ s. KeepsHeld s (crowd_of i.inner.state i.taken i.stop i.looks (Some (NoHole (record { need = 9; largest = 7 }))) (asked i.polled i.polls.items i.caught_up i.tickets))) c.self.view_is
    (λ a some. held_same (crowd_of i.inner.state i.taken i.stop i.looks i.refused (asked i.polled i.polls.items i.caught_up i.tickets)) (crowd_of i.inner.state i.taken i.stop i.looks (Some (NoHole (record { need = 9; largest = 7 }))) (asked i.polled i.polls.items i.caught_up i.tickets)) a refl)

pub invariant_of-self-2 : goal.invariant_of-self-2
invariant_of-self-2 g c =
    let i = c.self.inside in
    (crowd_goes_on i.inner.state i.taken i.stop i.stop i.looks i.looks i.refused (Some (NoHole (record { need = 9; largest = 7 }))) (asked i.polled i.polls.items i.caught_up i.tickets) (asked i.polled i.polls.items i.caught_up i.tickets) refl c.self.invariant.0 c.self.invariant.0.stop, c.self.invariant.1, c.self.invariant.2)

pub returns-clause-port : goal.returns-clause-port
returns-clause-port g c = (invariant_of-self-2 g c).0
