use Rattle.ring_trail.proofs.Truths.{true_on, false_on}
use Rattle.ring_trail.proofs.trail.Trail.values.Goals as goal

pub returns-clause-is_true : goal.returns-clause-is_true
returns-clause-is_true c = λ l le. true_on c.self.inside c.args.self.now l c.self.invariant c.self.view_is le

pub returns-clause-is_false : goal.returns-clause-is_false
returns-clause-is_false c = λ l le. false_on c.self.inside c.args.self.now l c.self.invariant c.self.view_is le
