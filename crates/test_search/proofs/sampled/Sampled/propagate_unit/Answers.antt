use Rattle.test_search.proofs.SampledLemmas.{assigned_sampled}
use Rattle.test_search.proofs.sampled.Sampled.propagate_unit.Goals as goal

pub propagate-requires : goal.propagate-requires
propagate-requires c = assigned_sampled c.args.self.now.watches c.args.self.now.trail c.assign.new.self c.args.lit c.requires.sampled c.decision_level-lawful.ensures.trail c.requires.seen c.assign.ensures.step
