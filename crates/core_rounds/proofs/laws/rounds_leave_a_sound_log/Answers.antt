use Rattle.core_rounds.proofs.AllRounds.{rounds_sound}
use Rattle.core_rounds.proofs.laws.rounds_leave_a_sound_log.Goals as goal

pub returns : goal.returns
returns c = λ rings depth every most F xs J r. rounds_sound rings depth every most F xs J r
