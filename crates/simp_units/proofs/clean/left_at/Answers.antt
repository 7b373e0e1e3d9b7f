use Rattle.simp_units.proofs.Cleaning.{left_is}
use Rattle.simp_units.proofs.clean.left_at.Goals as goal

pub returns-in_default-clause-what : goal.returns-in_default-clause-what
returns-in_default-clause-what g c d h = absurd (c.in_default.ensures.none d h)

pub returns-in-Ok-clause-what : goal.returns-in-Ok-clause-what
returns-in-Ok-clause-what g c = left_is c.args.work.now c.args.values.now c.args.number c.in-Some.clause.now c.in-Some.ensures.work c.in-Some.ensures.some c.in-Ok.what c.in-Ok.ensures
