use Rattle.std.proofs.Common.{ap}
use Rattle.sat_words.specs.Formats.{has_hints}
use Rattle.ring_port.specs.PlainPort.{starts_of}
use Rattle.test_ring.proofs.VivificationRow.{opens_from, begins}
use Rattle.test_ring.proofs.vivification.a_copy_is_made_shorter.Goals as goal

pub new-requires-4-clause-opening : goal.new-requires-4-clause-opening
new-requires-4-clause-opening g c = opens_from _ _ _ (ap starts_of c.in_ok-starts.ensures) c.new-3.ensures.items (ap (λ p. p.entries) c.in-Ok.ensures.made) (ap (λ p. p.last) c.in-Ok.ensures.made)

pub vivify_copy-requires : goal.vivify_copy-requires
vivify_copy-requires g c = begins c.in-Ok-new.port.state c.in_ok-starts.starts c.new-3.result.items _ c.in_ok-starts.ensures c.new-3.ensures.items c.in-Ok-new.ensures.made
    (ap (λ p. has_hints p.format) c.in-Ok.ensures.made)
