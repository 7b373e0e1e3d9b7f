use Rattle.analyze.proofs.Causes.{named_held}
use Rattle.analyze.proofs.tracer.number_of.Goals as goal

pub returns-in-Clause-clause-names : goal.returns-in-Clause-clause-names
returns-in-Clause-clause-names g c =
    rw c.in-Clause.is (named_held (g.P.Port.state c.args.port.now) c.in-Clause.c.address c.head.result (c.has_hints-hinted.ensures.port.named c.requires.hinted) (rw c.in-Clause.is at c.requires.source) c.head.ensures.value)
