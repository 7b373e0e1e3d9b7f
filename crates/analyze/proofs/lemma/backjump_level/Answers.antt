use Rattle.std.proofs.Common.{arith}
use Rattle.ring_trail.specs.TrailData.{level_at}
use Rattle.analyze.proofs.LevelLemmas.{greatest-more}
use Rattle.analyze.proofs.lemma.backjump_level.Goals as goal

pub loop-place-preserved : goal.loop-place-preserved
loop-place-preserved c =
    let m = greatest-more (level_at c.args.trail.now.steps) c.args.kept_places.now c.loop-place.place-index 0 (omega arith) in
    let i = c.loop-place.invariant in
    cc
