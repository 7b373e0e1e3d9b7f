use Rattle.core_rounds.proofs.AllRounds.{rounds_fresh, rounds_spaced, rounds_new}
use Rattle.core_rounds.proofs.laws.what_is_learned_is_fresh_in_its_round.Goals as goal

pub returns-clause-fresh : goal.returns-clause-fresh
returns-clause-fresh c = λ rings depth every most F xs J r. rounds_fresh rings depth every most F xs J r

pub returns-clause-spaced : goal.returns-clause-spaced
returns-clause-spaced c = λ rings depth every most F xs J r. rounds_spaced rings depth every most F xs J r

pub returns-clause-new : goal.returns-clause-new
returns-clause-new c = λ rings depth every most F xs J r h. rounds_new rings depth every most F xs J r h
