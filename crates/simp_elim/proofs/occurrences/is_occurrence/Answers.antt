use Rattle.simp_elim.proofs.Counting.{occurrence_told}
use Rattle.simp_elim.proofs.occurrences.is_occurrence.Goals as goal

pub returns-in-Some : goal.returns-in-Some
returns-in-Some g c = occurrence_told c.args.work.now c.args.lit c.args.number c.in-Some.clause.now c.in-Some.ensures.work c.in-Some.ensures.some c.occurs_in.ensures.ordered c.occurs_in.result c.occurs_in.ensures.is

pub returns-in-None : goal.returns-in-None
returns-in-None g c d h = absurd (c.in-None.ensures.none d h)
