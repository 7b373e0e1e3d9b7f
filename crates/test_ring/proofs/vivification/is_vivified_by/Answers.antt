use Rattle.std.proofs.Common.{◌≡◌, ◌∙◌, List, All, IsSome, subst, sym}
use Rattle.sat_words.specs.declared.shared.Cref.{Cref}
use Rattle.ring_port.specs.PortState.{held_at}
use Rattle.test_ring.proofs.SteppingLemmas.{starts_held}
use Rattle.test_ring.proofs.vivification.is_vivified_by.Goals as goal

pub vivify_last-requires-clause-held : goal.vivify_last-requires-clause-held
vivify_last-requires-clause-held c =
    subst (λ (cs : List Cref). All (λ (d : Cref). IsSome (held_at c.in_ok-port.port.state d.address)) cs) (sym (c.as_slice.ensures.value ∙ c.in_ok-start.ensures))
    (starts_held c.in_ok-port.port.state c.in_ok-port.ensures.holds)
