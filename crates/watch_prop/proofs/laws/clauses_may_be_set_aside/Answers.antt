use Rattle.watch_prop.proofs.Asides.{but-clauses, parts, whole}
use Rattle.watch_prop.proofs.laws.clauses_may_be_set_aside.Goals as goal

pub returns-clause-others : goal.returns-clause-others
returns-clause-others c = but-clauses

pub returns-clause-parts : goal.returns-clause-parts
returns-clause-parts c = parts

pub returns-clause-whole : goal.returns-clause-whole
returns-clause-whole c = whole
