use Rattle.std.proofs.Common.{◌≡◌, map, take}
use Rattle.test_ring.specs.Glues.{glue_at}
use Rattle.test_ring.proofs.reducing.glues_of.Given as goal

abbrev pub invariant-loop-c : goal.invariant-loop-c
invariant-loop-c g l = (g.P.Port.state l.port ≡ g.P.Port.state l.fn.port) × (l.glues.items ≡ map (glue_at (g.P.Port.state l.fn.port)) (take l.c-index l.lemmas))
