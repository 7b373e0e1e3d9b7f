use Rattle.std.proofs.Common.{◌≡◌, ◌≤◌, length, take}
use Rattle.std.specs.Vec.{vec_capacity}
use Rattle.analyze.specs.Minimising.{kept_of}
use Rattle.analyze.proofs.minimise.write_kept_places.Given as goal

abbrev pub invariant-loop-place : goal.invariant-loop-place
invariant-loop-place l = record {
  kept : l.kept_places.items ≡ kept_of l.trail.steps l.level l.table (take l.place-index l.touched);
  few : length l.kept_places.items ≤ l.place-index;
  room : vec_capacity l.kept_places ≡ vec_capacity l.fn.kept_places;
}
