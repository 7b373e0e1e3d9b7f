use Rattle.std.proofs.Common.{◌∙◌, ap}
use Rattle.sat_words.specs.Truth.{value_of}
use Rattle.ring_walk.specs.WalkData.{WalkData}
use Rattle.ring_walk.proofs.tests.counts_follow_flips.Goals as goal

pub flip-requires-clause-free : goal.flip-requires-clause-free
flip-requires-clause-free g c = c.in_ok-walker.ensures.fixed 2

pub flip-requires-2-clause-free : goal.flip-requires-2-clause-free
flip-requires-2-clause-free g c = ap (λ (w : WalkData). value_of w.fixed 3) c.flip.ensures ∙ c.in_ok-walker.ensures.fixed 3
