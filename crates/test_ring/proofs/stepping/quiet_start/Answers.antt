use Rattle.std.proofs.Common.{◌∙◌, subst}
use Rattle.ring_trail.specs.TrailData.{TrailData, HasGrown}
use Rattle.test_ring.proofs.stepping.quiet_start.Goals as goal

pub returns-clause-grown : goal.returns-clause-grown
returns-clause-grown g c = subst (λ (t : TrailData). HasGrown t c.propagate.new.self.trail) (c.in_ok-attach.ensures.trail ∙ c.in_ok-stepping.ensures.empty) c.in_ok-propagate.ensures.grown
