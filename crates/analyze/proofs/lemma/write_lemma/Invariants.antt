use Rattle.std.proofs.Common.{◌≡◌, ◌+◌, ◌∷◌, take, map, length}
use Rattle.std.specs.Vec.{vec_capacity}
use Rattle.analyze.specs.Lemma.{negated_at}
use Rattle.analyze.proofs.lemma.write_lemma.Given as goal

abbrev pub invariant-loop-place : goal.invariant-loop-place
invariant-loop-place l = record {
  lits : l.lits.items ≡ negated_at l.trail.steps l.point ∷ map (negated_at l.trail.steps) (take l.place-index l.kept_places);
  size : length l.lits.items ≡ l.place-index + 1;
  room : vec_capacity l.lits ≡ vec_capacity l.fn.lits;
}
