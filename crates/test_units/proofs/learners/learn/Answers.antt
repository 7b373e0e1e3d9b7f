use Rattle.test_units.proofs.Giving.{wrote_none}
use Rattle.test_units.proofs.learners.learn.Goals as goal

pub returns-in-Err-clause-none : goal.returns-in-Err-clause-none
returns-in-Err-clause-none g c =
    let k = c.take_turn-turn.ensures.turn in
    wrote_none g.S.Sink.written g.S.Sink.flushed g.S.Sink.target g.S.Sink.faults c.args.ring.now.pass.me.0 c.take_turn-turn.new.pass.me.0 c.give_turn-in-Err.new.pass.me.0 c.take_turn-turn.result c.add.new.self _ c.requires.learner.is_ring.one k c.in-Err.ensures.stopped.noted k.taken.turn.writing.0 c.give_turn-in-Err.ensures.turn
