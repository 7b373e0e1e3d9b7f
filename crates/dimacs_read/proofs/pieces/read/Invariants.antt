use Rattle.std.proofs.Common.{◌≡◌, ◌-◌}
use Rattle.dimacs_read.specs.declared.pieces.TheConstants.{LIMIT}
use Rattle.dimacs_read.proofs.Taken.{HasTaken}
use Rattle.dimacs_read.proofs.pieces.read.Given as goal

abbrev pub invariant-loop-reader : goal.invariant-loop-reader
invariant-loop-reader g l = record {
  read : HasTaken (g.S.Source.left l.fn.source) (g.S.Source.left l.source) l.reader l.taken;
  still : g.S.Source.faults l.source ≡ g.S.Source.faults l.fn.source;
}

abbrev pub decreases-loop-reader : goal.decreases-loop-reader
decreases-loop-reader g l = LIMIT - l.taken
