use Rattle.test_tables.proofs.Gathering.{gathered_more}
use Rattle.test_tables.proofs.rings.gather.Goals as goal

pub returns : goal.returns
returns g c = gathered_more c.args.table.now c.args.first.now c.join.new.pass c.args.ring.pass c.args.ring.ring c.requires.first c.requires.ring c.join.ensures.pass.0 c.join.ensures.pass.1 c.join.ensures.both.0 c.join.ensures.both.1
