use Rattle.analyze.proofs.Freshness.{present_conflict}
use Rattle.analyze.proofs.laws.conflicts_are_at_the_present_level.Goals as goal

pub returns : goal.returns
returns c = λ t cs d shape closed there bad. present_conflict t cs d shape closed there bad
