use Rattle.analyze.proofs.Starting.{backed_literal, CanTrace-literal}
use Rattle.analyze.proofs.tracer.trace_literal.Goals as goal

pub source_of-source-requires-clause-in_range : goal.source_of-source-requires-clause-in_range
source_of-source-requires-clause-in_range g c = c.requires.can.in_range

pub source_of-source-requires-clause-backed : goal.source_of-source-requires-clause-backed
source_of-source-requires-clause-backed g c = backed_literal _ c.args.trail.now _ _ c.requires.can

pub trace-requires-clause-can : goal.trace-requires-clause-can
trace-requires-clause-can g c = CanTrace-literal _ c.args.trail.now _ _ c.requires.can _ c.len-places.ensures.trail c.source_of-source.ensures.cause c.source_of-source.ensures.unit
