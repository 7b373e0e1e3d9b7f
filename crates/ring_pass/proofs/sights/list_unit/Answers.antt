use Rattle.std.proofs.Common.{◌∙◌, vec_capacity}
use Rattle.share_rule.specs.Turns.{take_part}
use Rattle.share_rule.specs.Views.{only}
use Rattle.ring_pass.proofs.NumbersSeen.{turn_numbers, listed_numbers}
use Rattle.ring_pass.proofs.ListsHere.{may_list, turn_still, listed_all, units_listed, turn_seen}
use Rattle.ring_pass.proofs.Stays.{one_is}
use Rattle.ring_pass.proofs.TurnsHere.{turn_taken, failed_taken, alone_taken}
use Rattle.ring_pass.proofs.sights.list_unit.Goals as goal

pub see_all-requires-clause-pass : goal.see_all-requires-clause-pass
see_all-requires-clause-pass g c =
    let e = c.take_turn-turn.ensures in
    let h = turn_taken c.requires.ring.0.0 e.turn in
    (e.pass.0, one_is c.take_turn-turn.new.pass.me.0 (take_part e.turn.taken.book.journal c.take_turn-turn.result.book.log.lines.spent (only c.args.pass.now.me.0)) h.parts)

pub see_all-requires-clause-units : goal.see_all-requires-clause-units
see_all-requires-clause-units g c =
    let e = c.take_turn-turn.ensures in
    (turn_seen c.args.pass.now.me.0 c.take_turn-turn.new.pass.me.0 e.turn.taken.book.journal _ c.args.seen.now.items c.args.arrived.now.items (vec_capacity c.args.seen.now) (vec_capacity c.args.arrived.now) (turn_taken c.requires.ring.0.0 e.turn) c.requires.units c.requires.arrived.1).0

pub see_all-requires-clause-arrived : goal.see_all-requires-clause-arrived
see_all-requires-clause-arrived g c =
    let e = c.take_turn-turn.ensures in (
      c.requires.arrived.0,
      (turn_seen c.args.pass.now.me.0 c.take_turn-turn.new.pass.me.0 e.turn.taken.book.journal _ c.args.seen.now.items c.args.arrived.now.items (vec_capacity c.args.seen.now) (vec_capacity c.args.arrived.now) (turn_taken c.requires.ring.0.0 e.turn) c.requires.units c.requires.arrived.1).1,
    )

pub list_new-requires-clause-unit : goal.list_new-requires-clause-unit
list_new-requires-clause-unit g c =
    let e = c.take_turn-turn.ensures in
    may_list c.args.pass.now.me.0 c.take_turn-turn.new.pass.me.0 c.see_all.new.pass.me.0 e.turn.taken.book.journal _ c.args.lit c.args.number c.see_all.new.seen.items c.args.arrived.now.items c.see_all.new.arrived.items (turn_taken c.requires.ring.0.0 e.turn) e.pass.0.3 c.see_all.ensures.saw c.requires.written c.requires.on

pub list_new-requires-clause-seen : goal.list_new-requires-clause-seen
list_new-requires-clause-seen g c = (c.see_all.ensures.units.all, c.see_all.ensures.units.seen_room_is)

pub list_new-requires-clause-numbers : goal.list_new-requires-clause-numbers
list_new-requires-clause-numbers g c =
    let e = c.take_turn-turn.ensures in
    c.see_all.ensures.numbers (turn_numbers c.args.pass.now.me.0 c.take_turn-turn.new.pass.me.0 e.turn.taken.book.journal _ c.args.numbers.now.items (turn_taken c.requires.ring.0.0 e.turn) c.requires.numbers)

pub give_turn-requires-clause-pass : goal.give_turn-requires-clause-pass
give_turn-requires-clause-pass g c = (c.list_new.ensures.pass.0, c.list_new.ensures.pass.1.1 ∙ c.see_all.ensures.pass.1.1 ∙ c.take_turn-turn.ensures.pass.2)

pub give_turn-requires-clause-turn : goal.give_turn-requires-clause-turn
give_turn-requires-clause-turn g c =
    let t = c.take_turn-turn.ensures.turn.taken in
    let saw = c.see_all.ensures.saw.saw in
    let one = c.list_new.ensures.listed in
    turn_still c.list_new.new.pass.me.0 one.part (turn_still c.see_all.new.pass.me.0 saw.part t.turn t.noted t.refused saw.parts saw.turn saw.failed saw.origin saw.layout saw.opening) t.noted t.refused one.parts one.turn one.failed one.origin one.layout one.opening

pub returns-clause-listed : goal.returns-clause-listed
returns-clause-listed g c =
    let e = c.take_turn-turn.ensures in
    let has = turn_taken c.requires.ring.0.0 e.turn in
    listed_all c.args.pass.now.me.0 c.take_turn-turn.new.pass.me.0 c.see_all.new.pass.me.0 c.list_new.new.pass.me.0 c.give_turn.new.pass.me.0 e.turn.taken.book.journal _ c.args.lit c.see_all.new.seen.items c.list_new.new.seen.items c.args.arrived.now.items c.see_all.new.arrived.items _ _ _ has
    c.see_all.ensures.saw c.see_all.ensures.pass.0.3 c.list_new.ensures.listed c.give_turn.ensures.turn e.turn.taken.noted e.turn.taken.refused (failed_taken e.turn.taken.book.journal e.turn has e.turn.taken.turn) (alone_taken e.turn)

pub returns-clause-units : goal.returns-clause-units
returns-clause-units g c =
    units_listed c.see_all.new.pass.me.0 c.list_new.new.pass.me.0 c.give_turn.new.pass.me.0 c.args.lit c.see_all.new.seen.items c.list_new.new.seen.items (vec_capacity c.see_all.new.seen) (vec_capacity c.see_all.new.arrived) (vec_capacity c.list_new.new.seen) _ _ _ c.see_all.ensures.units c.list_new.ensures.listed c.list_new.ensures.room c.give_turn.ensures.turn
    c.take_turn-turn.ensures.turn.taken.noted

pub returns-clause-numbers : goal.returns-clause-numbers
returns-clause-numbers g c =
    let e = c.take_turn-turn.ensures in
    listed_numbers c.args.pass.now.me.0 c.take_turn-turn.new.pass.me.0 c.see_all.new.pass.me.0 c.list_new.new.pass.me.0 c.give_turn.new.pass.me.0 e.turn.taken.book.journal _ c.args.lit c.list_new.new.seen.items c.args.numbers.now.items c.see_all.new.numbers.items c.list_new.new.numbers.items _ _ _
    (turn_taken c.requires.ring.0.0 e.turn) c.see_all.ensures.numbers c.list_new.ensures.listed c.list_new.ensures.numbers c.give_turn.ensures.turn e.turn.taken.noted
