use Rattle.std.proofs.Common.{◌≡◌, take, map, length}
use Rattle.std.specs.Vec.{vec_capacity}
use Rattle.ring_trail.specs.TrailData.{var_at}
use Rattle.analyze.proofs.lemma.write_analyzed.Given as goal

abbrev pub invariant-loop-place : goal.invariant-loop-place
invariant-loop-place l = record {
  analyzed : l.analyzed.items ≡ map (var_at l.trail.steps) (take l.place-index l.places);
  size : length l.analyzed.items ≡ l.place-index;
  room : vec_capacity l.analyzed ≡ vec_capacity l.fn.analyzed;
}
