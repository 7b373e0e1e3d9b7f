use Rattle.std.proofs.Common.{sym, subst, All, IsSome}
use Rattle.sat_words.specs.declared.shared.Cref.{Cref}
use Rattle.ring_port.specs.PortState.{held_at}
use Rattle.test_ring.proofs.SteppingLemmas.{starts_held}
use Rattle.test_ring.proofs.beginning.open_over.Goals as goal

pub returns-clause-held : goal.returns-clause-held
returns-clause-held g c = subst (All (λ (x : Cref). IsSome (held_at c.in_ok-port.port.state x.address))) (sym c.in_ok-start.ensures) (starts_held c.in_ok-port.port.state c.in_ok-port.ensures.holds)
