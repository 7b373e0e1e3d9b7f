use Rattle.std.proofs.Common.{◌∷◌, [], sym, subst}
use Rattle.share_rule.specs.declared.Layout.{Layout}
use Rattle.share_rule.specs.Layout.{InVars}
use Rattle.test_units.proofs.Listing.{may_list, listed_one, read_one}
use Rattle.test_units.proofs.learners.list_first.Goals as goal

pub publish-requires-clause-unit : goal.publish-requires-clause-unit
publish-requires-clause-unit g c =
    let p = c.in-None.ensures.pass.0 in
    may_list g.S.Sink.written g.S.Sink.flushed g.S.Sink.target g.S.Sink.faults c.args.ring.now.pass.me.0 c.take_turn-turn.new.pass.me.0 c.next_unit.new.pass.me.0 c.take_turn-turn.result c.args.ring.now.ring c.args.number c.args.lit c.requires.ring.one c.take_turn-turn.ensures.turn c.in-None.ensures.unit.0 p.3
    c.requires.told c.requires.none (subst (λ (l : Layout). InVars l (c.args.lit ∷ [])) (sym p.2) c.requires.on)

pub returns-in-None-clause-listed : goal.returns-in-None-clause-listed
returns-in-None-clause-listed g c =
    listed_one g.S.Sink.written g.S.Sink.flushed g.S.Sink.target g.S.Sink.faults c.args.ring.now.pass.me.0 c.take_turn-turn.new.pass.me.0 c.next_unit.new.pass.me.0 c.publish.new.pass.me.0 c.give_turn-in-None.new.pass.me.0 c.take_turn-turn.result _ c.args.number c.args.lit
    c.requires.ring.one c.requires.none c.take_turn-turn.ensures.turn c.in-None.ensures.unit.0 c.publish.ensures.part c.give_turn-in-None.ensures.turn

pub returns-in-Some-clause-listed : goal.returns-in-Some-clause-listed
returns-in-Some-clause-listed g c =
    let u = c.in-Some.ensures.unit in
    read_one g.S.Sink.written g.S.Sink.flushed g.S.Sink.target g.S.Sink.faults c.args.ring.now.pass.me.0 c.take_turn-turn.new.pass.me.0 c.next_unit.new.pass.me.0 c.give_turn.new.pass.me.0 c.take_turn-turn.result _ u.0 _ _ _
    c.requires.ring.one c.requires.none c.take_turn-turn.ensures.turn u.1 u.2 c.give_turn.ensures.turn
