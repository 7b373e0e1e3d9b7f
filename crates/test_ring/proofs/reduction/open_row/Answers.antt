use Rattle.std.proofs.Common.{ap}
use Rattle.sat_words.specs.Formats.{has_hints}
use Rattle.ring_port.specs.PlainPort.{starts_of}
use Rattle.test_ring.proofs.ReductionRow.{opens_from, begins}
use Rattle.test_ring.proofs.reduction.open_row.Goals as goal

pub new-requires-4-clause-opening : goal.new-requires-4-clause-opening
new-requires-4-clause-opening c = opens_from _ _ _ (ap starts_of c.in_ok-starts.ensures) c.new-3.ensures.items (ap (λ p. p.entries) c.in-Ok.ensures.made) (ap (λ p. p.last) c.in-Ok.ensures.made)

pub returns-in-Ok-new : goal.returns-in-Ok-new
returns-in-Ok-new c = begins c.in-Ok-new.port.state c.in_ok-starts.starts c.new-3.result.items _ c.in_ok-starts.ensures c.new-3.ensures.items c.in-Ok-new.ensures.made
    (ap (λ p. has_hints p.format) c.in-Ok.ensures.made) c.in-Ok-new.ensures.port
