use Rattle.std.proofs.Common.{arith}
use Rattle.ring_trail.proofs.Shape.{trail_at}
use Rattle.ring_trail.proofs.Levels.{few}
use Rattle.ring_trail.proofs.Values.{Kept-room}
use Rattle.ring_trail.proofs.trail.Trail.decision_level.Goals as goal

pub overflow_cast-result : goal.overflow_cast-result
overflow_cast-result c =
    let i = c.self.inside in
    let h = c.self.invariant in
    omega (arith, few i.steps.items i.starts.items h.parts, Kept-room i.steps.items i.values h.kept, h.range, h.small)

pub returns-clause-trail : goal.returns-clause-trail
returns-clause-trail c = trail_at _ _ c.self.invariant c.self.view_is
