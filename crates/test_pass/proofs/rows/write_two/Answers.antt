use Rattle.std.proofs.Common.{ap, [], ◌∷◌}
use Rattle.sat_words.specs.Literal.{Literal}
use Rattle.test_pass.proofs.Row.{two_follows}
use Rattle.test_pass.proofs.rows.write_two.Goals as goal

pub unit-requires-clause-rup : goal.unit-requires-clause-rup
unit-requires-clause-rup g c = two_follows (g.P.Port.state c.args.port.now) _ c.requires (ap (λ (l : Literal). l ∷ []) c.new.ensures)
