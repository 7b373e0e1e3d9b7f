use Rattle.std.proofs.Common.{refl}
use Rattle.log_book.proofs.Standings.{refused_turn}
use Rattle.log_book.proofs.turn.Turn.refuse.Goals as goal

pub returns-clause-turn : goal.returns-clause-turn
returns-clause-turn g c = refused_turn g.S.Sink.written g.S.Sink.flushed g.S.Sink.target g.S.Sink.faults c.args._pass.now.me.0 c.args.self.now c.requires.seen c.requires.turn _ c.args.stop c.requires.grounded refl refl c.noted_as-self.ensures
