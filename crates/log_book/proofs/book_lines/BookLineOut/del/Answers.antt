use Rattle.std.proofs.Common.{◌∙◌, ap, arith}
use Rattle.log_book.proofs.book_lines.BookLineOut.del.Goals as goal

pub write_deletion-requires-clause-unspent : goal.write_deletion-requires-clause-unspent
write_deletion-requires-clause-unspent g c = ap (λ l. l.spent) c.prepare_deletion.ensures.same.lines ∙ c.requires.unspent

pub write_deletion-requires-clause-room : goal.write_deletion-requires-clause-room
write_deletion-requires-clause-room g c = let same = c.prepare_deletion.ensures.same.entries in let few = c.args.self.now.few in omega arith
