use Rattle.std.proofs.Common.{◌∙◌, refl}
use Rattle.log_book.proofs.Taking.{missed_both, free_still, has_taken}
use Rattle.log_book.proofs.turns.take_turn.Goals as goal

pub returns-in-Some-try_often-clause-turn : goal.returns-in-Some-try_often-clause-turn
returns-in-Some-try_often-clause-turn g c =
    let t = c.in-Some-try_often.ensures.turn.1 in
    let missed = missed_both _ _ _ c.loop.invariant.3 t.missed in
    record {
      before = t.before;
      missed = missed;
      taken = has_taken g.S.Sink.written g.S.Sink.flushed g.S.Sink.target g.S.Sink.faults t.before c.try_often.new.pass.me.0 _ (free_still _ t.before missed c.requires.ring.0).1.0 t.out (c.reserve-room.ensures.items ∙ c.new-noted.ensures.items) refl;
    }
