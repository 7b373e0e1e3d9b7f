use Rattle.test_ring.proofs.ReductionRow.{one_less, dropped_usable, not_taken}
use Rattle.test_ring.proofs.reusing.give_up.Goals as goal

pub drop_clause-requires-clause-apart : goal.drop_clause-requires-clause-apart
drop_clause-requires-clause-apart g c = not_taken (g.P.Port.state c.args.port.now) c.args.c.address c.requires.row

pub tidy-requires : goal.tidy-requires
tidy-requires g c = record { usable = dropped_usable (g.P.Port.state c.args.port.now) (g.P.Port.state c.drop_clause.new.self) c.args.c.address c.requires.row c.in-Ok.ensures.dropped }

pub returns : goal.returns
returns g c = one_less (g.P.Port.state c.args.port.now) (g.P.Port.state c.drop_clause.new.self) (g.P.Port.state c.tidy.new.self) c.args.c.address _ c.requires.row c.requires.no_start c.in-Ok.ensures.dropped c.in-Ok-tidy.ensures.tidied c.in-Ok-tidy.ensures.port
