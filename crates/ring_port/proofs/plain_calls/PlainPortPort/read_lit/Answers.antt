use Rattle.std.proofs.Common.{◌≡◌, ◌<◌, length, sym, subst, Some, IsSome}
use Rattle.std.specs.List.{slice_get}
use Rattle.std.specs.declared.option.Option.{Option}
use Rattle.ring_port.specs.PortState.{Holding, held_at, lits_in}
use Rattle.ring_port.proofs.PlainLemmas.{state_is, plain_port, at_address, looked_up}
use Rattle.ring_port.proofs.plain_calls.PlainPortPort.read_lit.Goals as goal

pub lit-requires-clause-held : goal.lit-requires-clause-held
lit-requires-clause-held g c = at_address _ c.args.c.address (subst (λ s. IsSome (held_at s c.args.c.address)) (sym (state_is c.self.view_is)) c.requires.held)

pub lit-requires-clause-inside : goal.lit-requires-clause-inside
lit-requires-clause-inside g c =
    subst (λ (q : Option Holding). c.args.i < length (lits_in q)) (looked_up _ c.args.c.address)
    (subst (λ s. c.args.i < length (lits_in (held_at s c.args.c.address))) (sym (state_is c.self.view_is)) c.requires.inside)

pub returns-clause-value : goal.returns-clause-value
returns-clause-value g c =
    subst (λ s. slice_get (lits_in (held_at s c.args.c.address)) c.args.i ≡ Some c.lit.result) (state_is c.self.view_is)
    (subst (λ (q : Option Holding). slice_get (lits_in q) c.args.i ≡ Some c.lit.result) (sym (looked_up _ c.args.c.address)) c.lit.ensures)

pub returns-clause-port : goal.returns-clause-port
returns-clause-port g c = plain_port _ c.self.invariant
