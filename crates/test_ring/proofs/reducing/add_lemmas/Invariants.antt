use Rattle.std.proofs.Common.{◌≡◌, ◌++◌, map, take}
use Rattle.test_ring.specs.Glues.{glue_at}
use Rattle.test_ring.specs.ReductionRow.{HasLemmas}
use Rattle.test_ring.proofs.reducing.add_lemmas.Given as goal

abbrev pub invariant-loop-glue : goal.invariant-loop-glue
invariant-loop-glue g l = record {
  lemmas : HasLemmas (g.P.Port.state l.port) l.watches l.trail l.lemmas.items;
  glues : map (glue_at (g.P.Port.state l.port)) l.lemmas.items ≡ map (glue_at (g.P.Port.state l.fn.port)) l.fn.lemmas.items ++ take l.glue-index l.glues;
}
