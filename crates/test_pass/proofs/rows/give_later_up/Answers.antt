use Rattle.test_pass.proofs.Row.{later_left}
use Rattle.test_pass.proofs.rows.give_later_up.Goals as goal

pub returns-in-Ok-clause-done : goal.returns-in-Ok-clause-done
returns-in-Ok-clause-done g c = (later_left (g.P.Port.state c.args.port.now) (g.P.Port.state c.drop_clause.new.self) c.args.c.address c.in-Ok.ensures.dropped c.requires.there c.requires.done).0

pub returns-in-Ok-clause-same : goal.returns-in-Ok-clause-same
returns-in-Ok-clause-same g c = (later_left (g.P.Port.state c.args.port.now) (g.P.Port.state c.drop_clause.new.self) c.args.c.address c.in-Ok.ensures.dropped c.requires.there c.requires.done).1
