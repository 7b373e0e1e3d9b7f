use Rattle.std.proofs.Common.{◌≡◌, ◌∙◌, ap, sym, subst, length, IsSome, IfSome}
use Rattle.std.specs.declared.option.Option.{Option}
use Rattle.ring_port.specs.PortState.{Holding, head_of, lits_in}
use Rattle.test_ports.specs.Crowd.{asked}
use Rattle.test_ports.proofs.CrowdLemmas.{held_here}
use Rattle.test_ports.proofs.crowd.CrowdPort.head.Goals as goal

pub head-requires : goal.head-requires
head-requires g c =
    let i = c.self.inside in
    let here = held_here i.inner.state i.last.address i.taken i.stop i.looks i.refused (asked i.polled i.polls.items i.caught_up i.tickets) c.args.c.address c.args.self.now c.self.view_is c.self.invariant.1 c.requires in
    subst (λ (o : Option Holding). IsSome o) here c.requires

pub returns-clause-value : goal.returns-clause-value
returns-clause-value g c =
    let i = c.self.inside in
    let here = held_here i.inner.state i.last.address i.taken i.stop i.looks i.refused (asked i.polled i.polls.items i.caught_up i.tickets) c.args.c.address c.args.self.now c.self.view_is c.self.invariant.1 c.requires in
    subst (λ (o : Option Holding). IfSome o (λ h. c.head.result ≡ head_of h)) (sym here) c.head.ensures.value

pub returns-clause-size : goal.returns-clause-size
returns-clause-size g c =
    let i = c.self.inside in
    let here = held_here i.inner.state i.last.address i.taken i.stop i.looks i.refused (asked i.polled i.polls.items i.caught_up i.tickets) c.args.c.address c.args.self.now c.self.view_is c.self.invariant.1 c.requires in
    c.head.ensures.size ∙ ap (λ (o : Option Holding). length (lits_in o)) (sym here)
