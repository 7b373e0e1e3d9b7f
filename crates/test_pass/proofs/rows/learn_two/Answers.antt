use Rattle.std.proofs.Common.{ap, [], ◌∷◌}
use Rattle.sat_words.specs.Literal.{Literal}
use Rattle.test_pass.proofs.Row.{two_follows}
use Rattle.test_pass.proofs.rows.learn_two.Goals as goal

pub learn-requires-clause-rup : goal.learn-requires-clause-rup
learn-requires-clause-rup g c = two_follows (g.P.Port.state c.args.port.now) _ c.requires.player (ap (λ (l : Literal). l ∷ []) c.new.ensures)
