use Rattle.std.proofs.Common.{◌≡◌, ◌<◌, sym, subst, length, Some, IsSome}
use Rattle.std.specs.List.{slice_get}
use Rattle.std.specs.declared.option.Option.{Option}
use Rattle.ring_port.specs.PortState.{Holding, lits_in}
use Rattle.test_ports.specs.Crowd.{asked}
use Rattle.test_ports.proofs.CrowdLemmas.{held_here}
use Rattle.test_ports.proofs.crowd.CrowdPort.read_lit.Goals as goal

pub read_lit-requires-clause-held : goal.read_lit-requires-clause-held
read_lit-requires-clause-held g c =
    let i = c.self.inside in
    let here = held_here i.inner.state i.last.address i.taken i.stop i.looks i.refused (asked i.polled i.polls.items i.caught_up i.tickets) c.args.c.address c.args.self.now c.self.view_is c.self.invariant.1 c.requires.held in
    subst (λ (o : Option Holding). IsSome o) here c.requires.held

pub read_lit-requires-clause-inside : goal.read_lit-requires-clause-inside
read_lit-requires-clause-inside g c =
    let i = c.self.inside in
    let here = held_here i.inner.state i.last.address i.taken i.stop i.looks i.refused (asked i.polled i.polls.items i.caught_up i.tickets) c.args.c.address c.args.self.now c.self.view_is c.self.invariant.1 c.requires.held in
    subst (λ (o : Option Holding). c.args.i < length (lits_in o)) here c.requires.inside

pub returns-clause-value : goal.returns-clause-value
returns-clause-value g c =
    let i = c.self.inside in
    let here = held_here i.inner.state i.last.address i.taken i.stop i.looks i.refused (asked i.polled i.polls.items i.caught_up i.tickets) c.args.c.address c.args.self.now c.self.view_is c.self.invariant.1 c.requires.held in
    subst (λ (o : Option Holding). slice_get (lits_in o) c.args.i ≡ Some c.read_lit.result) (sym here) c.read_lit.ensures.value
