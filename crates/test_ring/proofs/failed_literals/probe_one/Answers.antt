use Rattle.std.proofs.Common.{◌∙◌, sym, subst, ap, All, IsSome}
use Rattle.sat_words.specs.declared.shared.Cref.{Cref}
use Rattle.ring_port.specs.PortState.{PortState, held_at}
use Rattle.ring_port.specs.Port.{is_usable}
use Rattle.test_ring.proofs.SteppingLemmas.{starts_held}
use Rattle.test_ring.proofs.failed_literals.probe_one.Goals as goal

pub probe_over-requires-clause-usable : goal.probe_over-requires-clause-usable
probe_over-requires-clause-usable g c = ap (λ (s : PortState). is_usable s.refused) c.in_ok-port.ensures.made

pub probe_over-requires-clause-held : goal.probe_over-requires-clause-held
probe_over-requires-clause-held g c =
    subst (All (λ (x : Cref). IsSome (held_at c.in_ok-port.port.state x.address))) (sym (c.as_slice.ensures.value ∙ c.in_ok-start.ensures))
    (starts_held c.in_ok-port.port.state c.in_ok-port.ensures.holds)
