use Rattle.dimacs_read.proofs.Late.{end_fails}
use Rattle.dimacs_read.proofs.reader.Reader.close.Goals as goal

pub returns-in-Err-clause-fails : goal.returns-in-Err-clause-fails
returns-in-Err-clause-fails c = end_fails c.args.self.now c.close_token.new.self c.in-Err.code c.in_ok-close_token.ensures.ok c.in-Err.ensures.bad
