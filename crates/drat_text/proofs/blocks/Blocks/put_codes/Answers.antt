use Rattle.std.proofs.Common.{◌∷◌, []}
use Rattle.drat_text.specs.Binary.{lits_bytes}
use Rattle.drat_text.proofs.Gathering.{breaks_longer}
use Rattle.drat_text.proofs.blocks.Blocks.put_codes.Goals as goal

pub returns-in-Err : goal.returns-in-Err
returns-in-Err g c = breaks_longer g.S.Sink.written g.S.Sink.flushed g.S.Sink.target g.S.Sink.faults c.args.self.now c.append_codes.new.self (lits_bytes c.args.lits.now) (0 ∷ []) c.in-Err.ensures
