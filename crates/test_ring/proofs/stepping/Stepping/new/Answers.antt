use Rattle.test_ring.proofs.SteppingLemmas.{begun}
use Rattle.test_ring.proofs.stepping.Stepping.new.Goals as goal

pub returns-clause-stepping : goal.returns-clause-stepping
returns-clause-stepping g c = begun (g.P.Port.state c.args.port.now) c.in_ok-watches.watches c.in_ok-trail.trail c.vars-vars.result c.in_ok-trail.ensures.empty c.in_ok-trail.ensures.trail c.in_ok-watches.ensures.watched
