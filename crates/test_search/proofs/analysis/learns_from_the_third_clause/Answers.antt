use Rattle.std.proofs.Common.{false, refl}
use Rattle.test_ports.proofs.Sample.{held_third}
use Rattle.test_search.proofs.AnalysisTrails.{third_false, reasoned_second}
use Rattle.test_search.proofs.analysis.learns_from_the_third_clause.Goals as goal

pub analyze-conclusion-requires-clause-held : goal.analyze-conclusion-requires-clause-held
analyze-conclusion-requires-clause-held g c = rw (held_third 0 false) refl

pub analyze-conclusion-requires-clause-conflict : goal.analyze-conclusion-requires-clause-conflict
analyze-conclusion-requires-clause-conflict g c = let steps = c.in_ok-trail.ensures.steps in rw (steps, held_third 0 false) third_false

pub analyze-conclusion-requires-clause-reasoned : goal.analyze-conclusion-requires-clause-reasoned
analyze-conclusion-requires-clause-reasoned g c = let steps = c.in_ok-trail.ensures.steps in rw steps reasoned_second
