use Rattle.std.proofs.Common.{◌≡◌, ◌+◌, ◌≤◌, ◌∷◌, take, length}
use Rattle.drat_text.specs.Binary.{lits_bytes}
use Rattle.drat_text.specs.declared.piece.TheConstants.{CAPACITY}
use Rattle.drat_text.proofs.Progress.{Progress}
use Rattle.drat_text.proofs.binary.put_marked_to.Given as goal

abbrev pub invariant-loop-lit : goal.invariant-loop-lit
invariant-loop-lit g l = record {
  room : length l.piece + 1 ≤ CAPACITY;
  progress : Progress (g.S.Sink.written l.fn.sink) (g.S.Sink.written l.sink) (l.mark ∷ lits_bytes (take l.lit-index l.lits)) l.piece l.taken;
  flushed : g.S.Sink.flushed l.sink ≡ g.S.Sink.flushed l.fn.sink;
  target : g.S.Sink.target l.sink ≡ g.S.Sink.target l.fn.sink;
  quiet : g.S.Sink.faults l.sink ≡ g.S.Sink.faults l.fn.sink;
}
