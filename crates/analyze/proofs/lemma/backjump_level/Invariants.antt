use Rattle.std.proofs.Common.{◌≡◌, take, map}
use Rattle.ring_trail.specs.TrailData.{level_at}
use Rattle.analyze.specs.Levels.{greatest}
use Rattle.analyze.proofs.lemma.backjump_level.Given as goal

abbrev pub invariant-loop-place : goal.invariant-loop-place
invariant-loop-place l = l.most ≡ greatest (map (level_at l.trail.steps) (take l.place-index l.kept_places))
