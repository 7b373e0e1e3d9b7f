use Rattle.std.proofs.Common.{◌≡◌, ◌+◌, ◌≤◌, ◌++◌, length}
use Rattle.drat_text.specs.declared.piece.TheConstants.{CAPACITY}
use Rattle.top_call.specs.declared.answer.TheConstants.{END, WIDTH}
use Rattle.top_call.specs.Answer.{value_lines}
use Rattle.top_call.proofs.AnswerText.{Printing, words_from}
use Rattle.top_call.proofs.answer.put_values.Given as goal

abbrev pub invariant-loop-var : goal.invariant-loop-var
invariant-loop-var g l = record {
  room : length l.piece + END ≤ CAPACITY;
  line : l.used ≤ WIDTH;
  printing : Printing (g.O.Sink.written l.fn.out) (g.O.Sink.written l.out) (l.fn.head ++ value_lines l.vars l.model) l.piece l.used l.taken (words_from l.var l.vars l.model);
  flushed : g.O.Sink.flushed l.out ≡ g.O.Sink.flushed l.fn.out;
  target : g.O.Sink.target l.out ≡ g.O.Sink.target l.fn.out;
  quiet : g.O.Sink.faults l.out ≡ g.O.Sink.faults l.fn.out;
}
