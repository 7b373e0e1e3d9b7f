use Rattle.core_rounds.proofs.OneRound.{grows, alone, since, to, last, tells, read}
use Rattle.core_rounds.proofs.laws.a_round_tells_its_opening.Goals as goal

pub returns-clause-journal : goal.returns-clause-journal
returns-clause-journal c = λ rings depth limit F before x o. grows o

pub returns-clause-alone : goal.returns-clause-alone
returns-clause-alone c = λ rings depth limit F before x o. alone o

pub returns-clause-since : goal.returns-clause-since
returns-clause-since c = λ rings depth limit F before x o. since o

pub returns-clause-to : goal.returns-clause-to
returns-clause-to c = λ rings depth limit F before x o. to o

pub returns-clause-last : goal.returns-clause-last
returns-clause-last c = λ rings depth limit F before x o. last o

pub returns-clause-opening : goal.returns-clause-opening
returns-clause-opening c = λ rings depth limit F before x o. tells o

pub returns-clause-read : goal.returns-clause-read
returns-clause-read c = λ rings depth limit F before x o. read o
