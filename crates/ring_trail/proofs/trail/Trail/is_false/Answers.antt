use Rattle.ring_trail.proofs.Truths.{false_on}
use Rattle.ring_trail.proofs.trail.Trail.is_false.Goals as goal

pub returns : goal.returns
returns c = rw c.is_false.ensures (false_on c.self.inside c.args.self.now c.args.lit c.self.invariant c.self.view_is c.requires)
