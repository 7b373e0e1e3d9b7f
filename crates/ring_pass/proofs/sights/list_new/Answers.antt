use Rattle.std.proofs.Common.{◌∙◌, length, sym, ap, arith}
use Rattle.ring_pass.proofs.NumbersSeen.{found_seen, lists_number}
use Rattle.ring_pass.proofs.ListsHere.{may_publish, listed_before, listed_place}
use Rattle.ring_pass.proofs.sights.list_new.Goals as goal

pub publish-requires-clause-unit : goal.publish-requires-clause-unit
publish-requires-clause-unit g c =
    let found = found_seen c.args.pass.now.me.0 c.args.lit c.number_of.result c.args.numbers.now.items c.as_slice.result.now c.requires.pass.3 c.requires.unit.writing.0 c.requires.numbers c.as_slice.ensures.value c.number_of.ensures in
    let len = c.len.ensures in
    let all = ap length c.requires.seen.0 in
    (may_publish c.requires.unit (sym found ∙ sym c.is_some.ensures ∙ c.if-is_some.false), omega arith)

pub push_reserved-requires : goal.push_reserved-requires
push_reserved-requires g c =
    let found = found_seen c.args.pass.now.me.0 c.args.lit c.number_of.result c.args.numbers.now.items c.as_slice.result.now c.requires.pass.3 c.requires.unit.writing.0 c.requires.numbers c.as_slice.ensures.value c.number_of.ensures in
    let place = listed_place c.args.pass.now.me.0 c.requires.pass.3 (may_publish c.requires.unit (sym found ∙ sym c.is_some.ensures ∙ c.if-is_some.false)) in
    let room = c.requires.seen.1 in
    let all = ap length c.requires.seen.0 in
    omega arith

pub returns-then-is_some-clause-listed : goal.returns-then-is_some-clause-listed
returns-then-is_some-clause-listed g c =
    let found = found_seen c.args.pass.now.me.0 c.args.lit c.number_of.result c.args.numbers.now.items c.as_slice.result.now c.requires.pass.3 c.requires.unit.writing.0 c.requires.numbers c.as_slice.ensures.value c.number_of.ensures in
    listed_before c.requires.unit c.requires.seen.0 (sym found ∙ sym c.is_some.ensures ∙ c.if-is_some.true)

pub returns-clause-numbers : goal.returns-clause-numbers
returns-clause-numbers g c =
    let found = found_seen c.args.pass.now.me.0 c.args.lit c.number_of.result c.args.numbers.now.items c.as_slice.result.now c.requires.pass.3 c.requires.unit.writing.0 c.requires.numbers c.as_slice.ensures.value c.number_of.ensures in
    let may = may_publish c.requires.unit (sym found ∙ sym c.is_some.ensures ∙ c.if-is_some.false) in
    lists_number c.args.pass.now.me.0 c.publish.new.pass.me.0 c.args.lit c.args.number c.args.numbers.now.items c.note_number.new.numbers.items c.requires.pass.3 may c.publish.ensures.part c.note_number.ensures
