use Rattle.analyze.proofs.Starting.{CanTrace-clause}
use Rattle.analyze.proofs.tracer.trace_clause.Goals as goal

pub trace-requires-clause-can : goal.trace-requires-clause-can
trace-requires-clause-can g c = CanTrace-clause _ _ _ _ c.requires.can
