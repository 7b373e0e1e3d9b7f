use Rattle.unit_share.proofs.units.publish.Given as goal

abbrev pub ghosts-publish_as : goal.ghosts-publish_as
ghosts-publish_as g a = record { lit = a.lit; number = a.number }
