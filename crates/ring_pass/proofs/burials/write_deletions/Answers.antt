use Rattle.std.proofs.Common.{arith}
use Rattle.ring_pass.proofs.DeletesHere.{deleted_none}
use Rattle.ring_pass.proofs.BuriesHere.{waits_taken, deleted_turn, refused_turn}
use Rattle.ring_pass.proofs.TurnsHere.{turn_taken, on_either}
use Rattle.ring_pass.proofs.burials.write_deletions.Goals as goal

pub bury_first-buried-requires-clause-waiting : goal.bury_first-buried-requires-clause-waiting
bury_first-buried-requires-clause-waiting g c =
    let e = c.take_turn-turn.ensures in
    waits_taken c.args.pass.now.me.0 _ c.args.waiting.now e.turn.taken.book.journal _ (turn_taken c.requires.ring.0.0 e.turn) c.requires.waiting

pub give_turn-requires-clause-turn : goal.give_turn-requires-clause-turn
give_turn-requires-clause-turn g c = on_either c.bury_first-buried.result (λ k. k.turn) (λ e k. k.refused.turn) c.bury_first-buried.ensures.buried c.bury_first-buried.ensures.refused

pub returns-in-Ok-clause-deleted : goal.returns-in-Ok-clause-deleted
returns-in-Ok-clause-deleted g c =
    let e = c.take_turn-turn.ensures in
    let count = c.min-count.ensures in
    let some = c.requires.some in
    deleted_turn c.give_turn.new.pass.me.0 c.args.waiting.now c.min-count.result c.requires.ring.0.0 e.turn e.pass.0.3 c.requires.waiting (omega arith) c.in-Ok.ensures.buried c.give_turn.ensures.turn

pub returns-in-Err-clause-refused : goal.returns-in-Err-clause-refused
returns-in-Err-clause-refused g c =
    let e = c.take_turn-turn.ensures in
    let count = c.min-count.ensures in
    refused_turn c.give_turn.new.pass.me.0 c.args.waiting.now c.min-count.result c.in-Err.done c.in-Err.stop c.requires.ring.0.0 (deleted_none c.args.pass.now.me.0 c.requires.ring.0.0 c.requires.ring.0.1) e.turn e.pass.0.3 c.requires.waiting (omega arith)
    c.in-Err.ensures.refused c.give_turn.ensures.turn
