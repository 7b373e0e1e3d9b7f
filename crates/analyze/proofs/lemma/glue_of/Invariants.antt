use Rattle.std.proofs.Common.{◌+◌, take}
use Rattle.ring_trail.specs.TrailData.{level_at}
use Rattle.analyze.proofs.LevelLemmas.{AreLevels}
use Rattle.analyze.proofs.lemma.glue_of.Given as goal

abbrev pub invariant-loop-place : goal.invariant-loop-place
invariant-loop-place l = AreLevels (level_at l.trail.steps) (take l.place-index l.kept_places) (l.trail.vars + 1) l.found
