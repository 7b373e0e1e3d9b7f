use Rattle.std.proofs.Common.{◌∙◌, sym, refl}
use Rattle.log_book.proofs.Standings.{is_ended}
use Rattle.log_book.proofs.turn.Turn.test.Goals as goal

pub returns-then-self-clause-cause : goal.returns-then-self-clause-cause
returns-then-self-clause-cause g c = sym (is_ended g.S.Sink.written g.S.Sink.flushed g.S.Sink.target g.S.Sink.faults c.args.pass.now.me.0 c.args.self.now c.requires.seen c.requires.turn) ∙ c.if-self.true

pub returns-then-self-clause-stopped : goal.returns-then-self-clause-stopped
returns-then-self-clause-stopped g c = record { noted = refl; refused = refl; turn = c.requires.turn; grounded = returns-then-self-clause-cause g c; alike = λ _. record { lines = refl; entries = refl; ended = refl; holes = refl; kept = refl } }

pub returns-then-is_spent-clause-cause : goal.returns-then-is_spent-clause-cause
returns-then-is_spent-clause-cause g c = (sym (is_ended g.S.Sink.written g.S.Sink.flushed g.S.Sink.target g.S.Sink.faults c.args.pass.now.me.0 c.args.self.now c.requires.seen c.requires.turn) ∙ c.if-self.false, sym c.is_spent.ensures ∙ c.if-is_spent.true)
