use Rattle.ring_trail.proofs.Truths.{true_on}
use Rattle.ring_trail.proofs.trail.Trail.is_true.Goals as goal

pub returns : goal.returns
returns c = rw c.is_true.ensures (true_on c.self.inside c.args.self.now c.args.lit c.self.invariant c.self.view_is c.requires)
