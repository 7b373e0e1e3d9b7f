use Rattle.watch_prop.specs.WatchData.{attached}
use Rattle.watch_prop.proofs.TrailLaws.{Reasons-held}
use Rattle.test_ring.proofs.ReductionRow.{attached_held}
use Rattle.test_ring.proofs.memory.analyse_once.Goals as goal

pub analyze-requires-clause-held : goal.analyze-requires-clause-held
analyze-requires-clause-held g c = attached_held (g.P.Port.state c.args.port.now) c.args.stepping.now.watches c.args.stepping.now.trail c.args.conflict c.requires.stepping.watched c.requires.conflict.member

pub analyze-requires-clause-reasoned : goal.analyze-requires-clause-reasoned
analyze-requires-clause-reasoned g c = Reasons-held (attached c.args.stepping.now.watches) (g.P.Port.state c.args.port.now) c.args.stepping.now.trail.steps c.requires.stepping.reasons
