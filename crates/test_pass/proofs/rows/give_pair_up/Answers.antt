use Rattle.test_pass.proofs.Row.{pair_left}
use Rattle.test_pass.proofs.rows.give_pair_up.Goals as goal

pub returns-in-Ok-clause-idle : goal.returns-in-Ok-clause-idle
returns-in-Ok-clause-idle g c = (pair_left (g.P.Port.state c.args.port.now) (g.P.Port.state c.drop_clause.new.self) c.args.c.address c.in-Ok.ensures.dropped c.requires.there c.requires.idle).0

pub returns-in-Ok-clause-same : goal.returns-in-Ok-clause-same
returns-in-Ok-clause-same g c = (pair_left (g.P.Port.state c.args.port.now) (g.P.Port.state c.drop_clause.new.self) c.args.c.address c.in-Ok.ensures.dropped c.requires.there c.requires.idle).1
