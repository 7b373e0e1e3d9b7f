use Rattle.ring_trail.proofs.Shape.{trail_at}
use Rattle.ring_trail.proofs.trail.Trail.vars.Goals as goal

pub returns-clause-trail : goal.returns-clause-trail
returns-clause-trail c = trail_at _ _ c.self.invariant c.self.view_is
