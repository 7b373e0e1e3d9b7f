use Rattle.core_rounds.proofs.AllRounds.{rounds_each, rounds_count}
use Rattle.core_rounds.proofs.laws.entries_are_of_rounds.Goals as goal

pub returns-clause-each : goal.returns-clause-each
returns-clause-each c = λ rings depth every most F xs J r. rounds_each rings depth every most F xs J r

pub returns-clause-count : goal.returns-clause-count
returns-clause-count c = λ rings depth every most F xs J r. rounds_count rings depth every most F xs J r
