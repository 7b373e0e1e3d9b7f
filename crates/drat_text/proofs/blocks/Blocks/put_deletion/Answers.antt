use Rattle.std.proofs.Common.{◌++◌, codes}
use Rattle.drat_text.specs.Text.{lits_text}
use Rattle.drat_text.proofs.Gathering.{breaks_longer}
use Rattle.drat_text.proofs.blocks.Blocks.put_deletion.Goals as goal

pub returns-in-Err : goal.returns-in-Err
returns-in-Err g c = breaks_longer g.S.Sink.written g.S.Sink.flushed g.S.Sink.target g.S.Sink.faults c.args.self.now c.append.new.self (codes "d ") (lits_text c.args.lits.now ++ codes "0\n") c.in-Err.ensures
