use Rattle.share_rule.specs.declared.note.Note.TheVariants.{Reduce}
use Rattle.ring_pass.proofs.TurnsHere.{turn_taken, journal_known, may_next, may_reduce, wrote_one, wrote_none, cause_why, ok_map, err_map, on_either}
use Rattle.ring_pass.proofs.turns.write_reduction.Goals as goal

pub reduce-noted-requires-clause-note : goal.reduce-noted-requires-clause-note
reduce-noted-requires-clause-note g c =
    let e = c.take_turn-turn.ensures in
    let has = turn_taken c.requires.ring.0.0 e.turn in
    may_next c.args.pass.now.me.0 _ c.take_turn-turn.result e.turn.taken.book.journal _ Reduce has e.turn.taken.noted (may_reduce c.args.pass.now.me.0 e.turn.taken.book.journal (journal_known c.args.pass.now.me.0 _ e.turn.taken.book.journal _ has e.pass.0.3) c.requires.spaced)

pub give_turn-requires-clause-turn : goal.give_turn-requires-clause-turn
give_turn-requires-clause-turn g c = on_either c.reduce-noted.result (λ k. k.turn) (λ e k. k.turn) c.reduce-noted.ensures.added c.reduce-noted.ensures.stopped

pub returns-clause-wrote : goal.returns-clause-wrote
returns-clause-wrote g c =
    let e = c.take_turn-turn.ensures in
    ok_map c.reduce-noted.result (λ k. wrote_one c.give_turn.new.pass.me.0 Reduce c.requires.ring.0.0 e.turn e.pass.0.3 k c.give_turn.ensures.turn) c.reduce-noted.ensures.added

pub returns-clause-refused : goal.returns-clause-refused
returns-clause-refused g c =
    let e = c.take_turn-turn.ensures in
    let has = turn_taken c.requires.ring.0.0 e.turn in
    err_map c.reduce-noted.result (λ x k w. wrote_none c.give_turn.new.pass.me.0 x c.requires.ring.0.0 e.turn e.pass.0.3 k (cause_why g.S.Sink.faults c.args.pass.now.me.0 _ c.take_turn-turn.result c.reduce-noted.new.self e.turn.taken.book.journal _ x has e.turn.taken.noted k.alike w) c.give_turn.ensures.turn) c.reduce-noted.ensures.stopped c.reduce-noted.ensures.cause
