use Rattle.std.proofs.Common.{length}
use Rattle.share_rule.specs.declared.view.View.{View}
use Rattle.ring_pass.proofs.AddsHere.{may_add, may_add_next, on_both, ok_is, err_is, wrote_clause}
use Rattle.ring_pass.proofs.TurnsHere.{turn_taken, journal_known, wrote_none, add_cause_why}
use Rattle.ring_pass.proofs.clauses.write_clause.Goals as goal

pub give_turn-requires-clause-turn : goal.give_turn-requires-clause-turn
give_turn-requires-clause-turn g c = on_both c.add-added.result (λ x k. k.turn) (λ e k. k.turn) c.add-added.ensures.added c.add-added.ensures.stopped

pub returns-in-Ok-clause-wrote : goal.returns-in-Ok-clause-wrote
returns-in-Ok-clause-wrote g c =
    let e = c.take_turn-turn.ensures in
    wrote_clause c.give_turn.new.pass.me.0 c.args.kind c.args.lits.now c.args.hints.now c.args.glue c.in-Ok.cell.address c.last-number.result c.requires.ring.0.0 e.turn e.pass.0.3 (ok_is _ c.add-added.result c.in-Ok.cell c.in-Ok.is c.add-added.ensures.added) c.give_turn.ensures.turn c.last-number.ensures

pub returns-in-Err-clause-refused : goal.returns-in-Err-clause-refused
returns-in-Err-clause-refused g c =
    let e = c.take_turn-turn.ensures in
    let has = turn_taken c.requires.ring.0.0 e.turn in
    let k = err_is _ c.add-added.result c.in-Err.stop c.in-Err.is c.add-added.ensures.stopped in
    wrote_none c.give_turn.new.pass.me.0 c.in-Err.stop c.requires.ring.0.0 e.turn e.pass.0.3 k
    (add_cause_why g.S.Sink.faults c.args.pass.now.me.0 _ c.take_turn-turn.result c.add-added.new.self e.turn.taken.book.journal _ (length c.args.lits.now) c.in-Err.stop has e.turn.taken.noted k.alike (err_is _ c.add-added.result c.in-Err.stop c.in-Err.is c.add-added.ensures.cause)) c.give_turn.ensures.turn

pub add-added-requires-clause-note : goal.add-added-requires-clause-note
add-added-requires-clause-note g c =
    let e = c.take_turn-turn.ensures in
    let v : View = c.args.pass.now.me.0 in
    let has = turn_taken c.requires.ring.0.0 e.turn in
    let knows = journal_known v _ e.turn.taken.book.journal _ has e.pass.0.3 in
    may_add_next v _ c.take_turn-turn.result e.turn.taken.book.journal _ c.args.kind c.args.lits.now c.args.hints.now has e.turn.taken.noted (may_add v e.turn.taken.book.journal c.args.kind c.args.lits.now knows c.requires.may) c.requires.long c.requires.follows c.requires.on
