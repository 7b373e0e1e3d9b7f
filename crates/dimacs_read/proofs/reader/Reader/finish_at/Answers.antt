use Rattle.dimacs_read.proofs.Late.{answers_behind}
use Rattle.dimacs_read.proofs.reader.Reader.finish_at.Goals as goal

pub returns-in-Ok-clause-found : goal.returns-in-Ok-clause-found
returns-in-Ok-clause-found c = answers_behind c.finish_long.result c.args.self c.take_bytes.new.self c.args.bytes.now c.args.byte c.in-Ok.ensures.ok c.finish_long.ensures.found
