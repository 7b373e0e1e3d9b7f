use Rattle.std.proofs.Common.{List, subst}
use Rattle.sat_words.specs.Literal.{Literal}
use Rattle.ring_port.specs.Port.{LearnedClause}
use Rattle.test_pass.proofs.Row.{pair_follows, two_lits}
use Rattle.test_pass.proofs.rows.learn_pair.Goals as goal

pub learn-requires-clause-rup : goal.learn-requires-clause-rup
learn-requires-clause-rup g c = pair_follows (g.P.Port.state c.args.port.now) _ c.requires.player (two_lits c.new.result c.new-2.result _ _ c.new.ensures c.new-2.ensures)

pub returns-in-Ok-Some-clause-learned : goal.returns-in-Ok-Some-clause-learned
returns-in-Ok-Some-clause-learned g c =
    subst (λ (lits : List Literal). LearnedClause (g.P.Port.state c.args.port.now) (g.P.Port.state c.learn.new.self) lits 1 c.in-Ok-Some.c)
    (two_lits c.new.result c.new-2.result _ _ c.new.ensures c.new-2.ensures) (rw c.in-Ok-Some.field-0-is at c.in-Ok-Some.ensures.learned)
