use Rattle.std.proofs.Common.{◌≡◌, subst, sym, IsSome, IfSome}
use Rattle.std.specs.declared.option.Option.{Option}
use Rattle.ring_port.specs.PortState.{Holding, head_of, held_at}
use Rattle.ring_port.proofs.PlainLemmas.{state_is, plain_port, at_address, looked_up, size_of}
use Rattle.ring_port.proofs.plain_calls.PlainPortPort.head.Goals as goal

pub head-requires : goal.head-requires
head-requires g c = at_address _ c.args.c.address (subst (λ s. IsSome (held_at s c.args.c.address)) (sym (state_is c.self.view_is)) c.requires)

pub returns-clause-value : goal.returns-clause-value
returns-clause-value g c =
    subst (λ s. IfSome (held_at s c.args.c.address) (λ h. c.head.result ≡ head_of h)) (state_is c.self.view_is)
    (subst (λ (q : Option Holding). IfSome q (λ h. c.head.result ≡ head_of h)) (sym (looked_up _ c.args.c.address)) c.head.ensures)

pub returns-clause-size : goal.returns-clause-size
returns-clause-size g c =
    size_of (held_at c.args.self.now.state c.args.c.address) c.head.result c.requires (returns-clause-value g c)

pub returns-clause-port : goal.returns-clause-port
returns-clause-port g c = plain_port _ c.self.invariant
