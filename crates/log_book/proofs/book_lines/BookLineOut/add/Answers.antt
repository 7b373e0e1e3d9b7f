use Rattle.std.proofs.Common.{◌∙◌, ap, arith}
use Rattle.log_book.proofs.book_lines.BookLineOut.add.Goals as goal

pub write_addition-requires-clause-unspent : goal.write_addition-requires-clause-unspent
write_addition-requires-clause-unspent g c = ap (λ l. l.spent) c.prepare_addition.ensures.same.lines ∙ c.requires.unspent

pub write_addition-requires-clause-room : goal.write_addition-requires-clause-room
write_addition-requires-clause-room g c = let same = c.prepare_addition.ensures.same.entries in let few = c.args.self.now.few in omega arith
