use Rattle.test_units.proofs.Giving.{gave_turn}
use Rattle.test_units.proofs.writers.write_unit.Goals as goal

pub returns-in-Ok-clause-gave : goal.returns-in-Ok-clause-gave
returns-in-Ok-clause-gave g c =
    let u = c.add_unit.new.self in
    gave_turn c.take_turn-turn.new.pass.me.0 c.give_turn.new.pass.me.0 u.noted.items u.refused u.book.log.lines.spent c.give_turn.ensures.turn

pub returns-in-Err-clause-gave : goal.returns-in-Err-clause-gave
returns-in-Err-clause-gave g c =
    let u = c.add_unit.new.self in
    gave_turn c.take_turn-turn.new.pass.me.0 c.give_turn-in-Err.new.pass.me.0 u.noted.items u.refused u.book.log.lines.spent c.give_turn-in-Err.ensures.turn
