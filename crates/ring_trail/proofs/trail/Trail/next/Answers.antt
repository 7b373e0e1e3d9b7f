use Rattle.ring_trail.proofs.Shape.{trail_at}
use Rattle.ring_trail.proofs.trail.Trail.next.Goals as goal

pub returns-then-self-len-clause-trail : goal.returns-then-self-len-clause-trail
returns-then-self-len-clause-trail c = trail_at _ _ c.self.invariant c.self.view_is

pub returns-else-self-len-clause-trail : goal.returns-else-self-len-clause-trail
returns-else-self-len-clause-trail c = trail_at _ _ c.self.invariant c.self.view_is
