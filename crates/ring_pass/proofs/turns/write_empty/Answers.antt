use Rattle.share_rule.specs.declared.note.Note.TheVariants.{Empty}
use Rattle.ring_pass.proofs.TurnsHere.{turn_taken, may_next, wrote_one, wrote_none, cause_why, ok_map, err_map, on_either}
use Rattle.ring_pass.proofs.turns.write_empty.Goals as goal

pub add_empty-added-requires-clause-note : goal.add_empty-added-requires-clause-note
add_empty-added-requires-clause-note g c =
    let e = c.take_turn-turn.ensures in
    may_next c.args.pass.now.me.0 _ c.take_turn-turn.result e.turn.taken.book.journal _ (Empty c.args.hints.now) (turn_taken c.requires.ring.0.0 e.turn) e.turn.taken.noted c.requires.follows

pub give_turn-requires-clause-turn : goal.give_turn-requires-clause-turn
give_turn-requires-clause-turn g c = on_either c.add_empty-added.result (λ k. k.turn) (λ e k. k.turn) c.add_empty-added.ensures.added c.add_empty-added.ensures.stopped

pub returns-clause-wrote : goal.returns-clause-wrote
returns-clause-wrote g c =
    let e = c.take_turn-turn.ensures in
    ok_map c.add_empty-added.result (λ k. wrote_one c.give_turn.new.pass.me.0 (Empty c.args.hints.now) c.requires.ring.0.0 e.turn e.pass.0.3 k c.give_turn.ensures.turn) c.add_empty-added.ensures.added

pub returns-clause-refused : goal.returns-clause-refused
returns-clause-refused g c =
    let e = c.take_turn-turn.ensures in
    let has = turn_taken c.requires.ring.0.0 e.turn in
    err_map c.add_empty-added.result (λ x k w. wrote_none c.give_turn.new.pass.me.0 x c.requires.ring.0.0 e.turn e.pass.0.3 k (cause_why g.S.Sink.faults c.args.pass.now.me.0 _ c.take_turn-turn.result c.add_empty-added.new.self e.turn.taken.book.journal _ x has e.turn.taken.noted k.alike w) c.give_turn.ensures.turn) c.add_empty-added.ensures.stopped c.add_empty-added.ensures.cause
