use Rattle.std.proofs.Common.{subst}
use Rattle.ring_trail.specs.TrailData.{TrailData, HasGrown}
use Rattle.test_ring.proofs.SteppingLemmas.{decided_stepping}
use Rattle.test_ring.proofs.stepping.Stepping.decide.Goals as goal

pub propagate-requires : goal.propagate-requires
propagate-requires g c = decided_stepping (g.P.Port.state c.args.port.now) c.args.self.now.watches c.args.self.now.trail c.decide.new.self c.args.lit c.requires.stepping c.requires.quiet c.decide.ensures.step c.decide.ensures.trail

pub returns-clause-grown : goal.returns-clause-grown
returns-clause-grown g c = subst (λ (t : TrailData). HasGrown t c.propagate.new.self.trail) c.decide.ensures.step c.in_ok-propagate.ensures.grown
