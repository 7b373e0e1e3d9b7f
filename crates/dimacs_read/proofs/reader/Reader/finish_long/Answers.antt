use Rattle.std.proofs.Common.{◌∙◌, sym}
use Rattle.dimacs_read.proofs.Late.{late_other, late_undecided}
use Rattle.dimacs_read.proofs.reader.Reader.finish_long.Goals as goal

pub returns-else-is_separator-clause-found : goal.returns-else-is_separator-clause-found
returns-else-is_separator-clause-found c = late_other c.args.self c.args.byte (sym c.is_separator.ensures ∙ c.if-is_separator.false)

pub returns-in-Ok-clause-found : goal.returns-in-Ok-clause-found
returns-in-Ok-clause-found c = late_undecided c.args.self c.take_byte.new.self c.args.byte (sym c.is_separator.ensures ∙ c.if-is_separator.true) c.in-Ok.ensures.ok
