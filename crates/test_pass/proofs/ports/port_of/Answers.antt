use Rattle.test_pass.proofs.Row.{begins, spare_at}
use Rattle.test_pass.proofs.ports.port_of.Goals as goal

pub returns-in-Ok-clause-begun : goal.returns-in-Ok-clause-begun
returns-in-Ok-clause-begun g c = begins c.args.table.now c.in-Ok.port c.args.ring.pass.me.0 c.args.ring.ring _ c.args.start.now c.in-Ok.ensures.made c.requires.four c.in-Ok.ensures.holds c.requires.ring.pass.2

pub returns-in-Ok-clause-spare : goal.returns-in-Ok-clause-spare
returns-in-Ok-clause-spare g c = spare_at c.args.table.now c.in-Ok.port c.args.ring.pass.me.0 c.args.ring.ring _ c.args.start.now c.in-Ok.ensures.made c.requires.four c.in-Ok.ensures.holds
