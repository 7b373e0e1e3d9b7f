use Rattle.test_search.proofs.SampledLemmas.{nothing_sampled}
use Rattle.test_search.proofs.sampled.Sampled.new.Goals as goal

pub returns-clause-sampled : goal.returns-clause-sampled
returns-clause-sampled c = nothing_sampled c.in_ok-watches.watches c.in_ok-trail.trail c.in_ok-watches.ensures.vars c.in_ok-trail.ensures.empty c.in_ok-watches.ensures.watched
