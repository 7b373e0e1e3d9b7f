use Rattle.test_pass.proofs.Row.{spare_left, player_tidied}
use Rattle.test_pass.proofs.rows.give_spare_up.Goals as goal

pub returns-in-Ok-tidy-clause-player : goal.returns-in-Ok-tidy-clause-player
returns-in-Ok-tidy-clause-player g c =
    player_tidied (g.P.Port.state c.drop_clause.new.self) (g.P.Port.state c.tidy.new.self) _ c.in-Ok-tidy.ensures.tidied
    (spare_left (g.P.Port.state c.args.port.now) (g.P.Port.state c.drop_clause.new.self) c.args.c.address c.in-Ok.ensures.dropped c.requires.there c.requires.player)

pub returns-in-Ok-tidy-clause-gave : goal.returns-in-Ok-tidy-clause-gave
returns-in-Ok-tidy-clause-gave g c = record { middle = g.P.Port.state c.drop_clause.new.self; dropped = c.in-Ok.ensures.dropped; tidied = c.in-Ok-tidy.ensures.tidied }
