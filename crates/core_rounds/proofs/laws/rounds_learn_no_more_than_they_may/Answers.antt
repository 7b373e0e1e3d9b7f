use Rattle.core_rounds.specs.Rounds.{left_by}
use Rattle.core_rounds.proofs.OneRound.{sound, within, used_up}
use Rattle.core_rounds.proofs.AllRounds.{sum_after, rounds_within}
use Rattle.core_rounds.proofs.laws.rounds_learn_no_more_than_they_may.Goals as goal

pub returns-clause-round : goal.returns-clause-round
returns-clause-round c = λ rings depth limit F before x o. within o (c.tickets_are_counted.ensures.within (left_by x) (sound o))

pub returns-clause-spent : goal.returns-clause-spent
returns-clause-spent c = λ rings depth limit F before x o none. used_up o (c.tickets_are_counted.ensures.spent (left_by x) (sound o)) none

pub returns-clause-sum : goal.returns-clause-sum
returns-clause-sum c = λ rings depth limit F before rest x o rulers. sum_after before rest o rulers

pub returns-clause-all : goal.returns-clause-all
returns-clause-all c = λ rings depth every most F xs J r. rounds_within rings depth every most F c.tickets_are_counted.ensures.within xs J r
