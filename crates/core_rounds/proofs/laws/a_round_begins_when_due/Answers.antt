use Rattle.core_rounds.proofs.AllRounds.{rounds_due}
use Rattle.core_rounds.proofs.laws.a_round_begins_when_due.Goals as goal

pub returns : goal.returns
returns c = λ rings depth every most F xs J r. rounds_due rings depth every most F xs J r
