use Rattle.test_ring.proofs.ReductionRow.{copy_follows, copy_hints, lits_are, one_more}
use Rattle.test_ring.proofs.reusing.copy_one.Goals as goal

pub derive-requires-clause-rup : goal.derive-requires-clause-rup
derive-requires-clause-rup g c = copy_follows (g.P.Port.state c.args.port.now) _ (lits_are c.new.result c.new-2.result c.new-3.result c.new.ensures c.new-2.ensures c.new-3.ensures) c.requires

pub derive-requires-clause-hints : goal.derive-requires-clause-hints
derive-requires-clause-hints g c = copy_hints (g.P.Port.state c.args.port.now) _ c.requires

pub returns : goal.returns
returns g c = one_more (g.P.Port.state c.args.port.now) (g.P.Port.state c.derive.new.self) _ c.args.glue _ c.in-Ok.copy c.requires c.in-Ok.ensures.derived c.in-Ok.ensures.kept c.in-Ok.ensures.port
