use Rattle.share_rule.specs.declared.note.Note.TheVariants.{Unit as UnitNote}
use Rattle.ring_pass.proofs.TurnsHere.{turn_taken, journal_known, may_next, may_add_unit, wrote_none, cause_why, ok_number, wrote_unit_line, err_map, on_either}
use Rattle.ring_pass.proofs.turns.write_unit.Goals as goal

pub add_unit-added-requires-clause-note : goal.add_unit-added-requires-clause-note
add_unit-added-requires-clause-note g c =
    let e = c.take_turn-turn.ensures in
    let has = turn_taken c.requires.ring.0.0 e.turn in
    let knows = journal_known c.args.pass.now.me.0 _ e.turn.taken.book.journal _ has e.pass.0.3 in
    may_next c.args.pass.now.me.0 _ c.take_turn-turn.result e.turn.taken.book.journal _ (UnitNote c.args.kind c.args.lit c.args.hints.now) has e.turn.taken.noted (may_add_unit c.args.pass.now.me.0 e.turn.taken.book.journal c.args.kind c.args.lit knows c.requires.may, c.requires.follows, c.requires.on)

pub give_turn-requires-clause-turn : goal.give_turn-requires-clause-turn
give_turn-requires-clause-turn g c = on_either c.add_unit-added.result (λ k. k.turn) (λ e k. k.turn) c.add_unit-added.ensures.added c.add_unit-added.ensures.stopped

pub returns-clause-wrote : goal.returns-clause-wrote
returns-clause-wrote g c =
    let e = c.take_turn-turn.ensures in
    ok_number c.add_unit-added.result (λ k n z. wrote_unit_line c.give_turn.new.pass.me.0 c.args.kind c.args.lit c.args.hints.now n c.requires.ring.0.0 e.turn e.pass.0.3 k c.give_turn.ensures.turn z) c.add_unit-added.ensures.added c.add_unit-added.ensures.number

pub returns-clause-refused : goal.returns-clause-refused
returns-clause-refused g c =
    let e = c.take_turn-turn.ensures in
    let has = turn_taken c.requires.ring.0.0 e.turn in
    err_map c.add_unit-added.result (λ x k w. wrote_none c.give_turn.new.pass.me.0 x c.requires.ring.0.0 e.turn e.pass.0.3 k (cause_why g.S.Sink.faults c.args.pass.now.me.0 _ c.take_turn-turn.result c.add_unit-added.new.self e.turn.taken.book.journal _ x has e.turn.taken.noted k.alike w) c.give_turn.ensures.turn) c.add_unit-added.ensures.stopped c.add_unit-added.ensures.cause
