use Rattle.std.proofs.Common.{rules}
use Rattle.drat_text.proofs.piece.Piece.write_to.Goals as goal

pub returns-in-Err-clause-part : goal.returns-in-Err-clause-part
returns-in-Err-clause-part g c =
    record {
      part = record { cut = c.in-Err.stop.taken; grown = rw c.as_slice.ensures at c.in-Err.ensures.part };
      short = rw c.as_slice.ensures at c.in-Err.ensures.bound;
      told = search rules;
    }
