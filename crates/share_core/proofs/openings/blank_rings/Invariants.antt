use Rattle.std.proofs.Common.{◌≡◌, replicate}
use Rattle.share_core.specs.Machine.{no_ring}
use Rattle.share_core.proofs.openings.blank_rings.Given as goal

abbrev pub invariant-loop : goal.invariant-loop
invariant-loop l = l.all.items ≡ replicate l.counter no_ring
