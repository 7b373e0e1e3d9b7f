use Rattle.ring_pass.specs.Deletions.{Buried}
use Rattle.ring_pass.proofs.burials.bury_first.Given as goal

abbrev pub invariant-loop-i : goal.invariant-loop-i
invariant-loop-i g l = Buried g.S.Sink.written g.S.Sink.flushed g.S.Sink.target g.S.Sink.faults l.pass.me.0 l.initial.turn l.turn l.waiting l.i
