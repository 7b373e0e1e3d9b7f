use Rattle.dimacs_read.proofs.Late.{all_closes, all_fails}
use Rattle.dimacs_read.proofs.reader.Reader.close_token.Goals as goal

pub returns-in-Number-clause-ok : goal.returns-in-Number-clause-ok
returns-in-Number-clause-ok c =
    all_closes c.take_integer.result c.args.self.now (record c.args.self.now { body = c.take_integer.new.self }) c.in-Number.neg c.in-Number.value c.in-Number.is c.take_integer.ensures.lawful c.take_integer.ensures.ok

pub returns-in-Number-clause-fails : goal.returns-in-Number-clause-fails
returns-in-Number-clause-fails c = all_fails c.take_integer.result c.args.self.now c.in-Number.neg c.in-Number.value c.in-Number.is c.take_integer.ensures.bad
