use Rattle.core_rounds.proofs.Learned.{limit_some}
use Rattle.core_rounds.proofs.AllRounds.{rounds_more, rounds_few, rounds_one}
use Rattle.core_rounds.proofs.laws.rounds_come_to_an_end.Goals as goal

pub returns-clause-some : goal.returns-clause-some
returns-clause-some c = λ every most done some left. limit_some every most done some left

pub returns-clause-more : goal.returns-clause-more
returns-clause-more c = λ rings depth every most F before rest x some left o rulers spent. rounds_more rings depth every most F some before rest x left o rulers spent

pub returns-clause-few : goal.returns-clause-few
returns-clause-few c = λ rings depth every most F xs J some r. rounds_few rings depth every most F some xs J r

pub returns-clause-one : goal.returns-clause-one
returns-clause-one c = λ rings depth most F xs J r. rounds_one rings depth most F xs J r
