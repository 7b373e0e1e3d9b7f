use Rattle.watch_prop.specs.WatchData.{attached}
use Rattle.watch_prop.proofs.TrailLaws.{Reasons-held}
use Rattle.test_ring.proofs.ReductionRow.{attached_held}
use Rattle.test_ring.proofs.stepping.Stepping.conclude.Goals as goal

pub analyze-conclusion-requires-clause-held : goal.analyze-conclusion-requires-clause-held
analyze-conclusion-requires-clause-held g c = attached_held (g.P.Port.state c.args.port.now) c.args.self.now.watches c.args.self.now.trail c.args.conflict c.requires.stepping.watched c.requires.conflict.member

pub analyze-conclusion-requires-clause-reasoned : goal.analyze-conclusion-requires-clause-reasoned
analyze-conclusion-requires-clause-reasoned g c = Reasons-held (attached c.args.self.now.watches) (g.P.Port.state c.args.port.now) c.args.self.now.trail.steps c.requires.stepping.reasons
