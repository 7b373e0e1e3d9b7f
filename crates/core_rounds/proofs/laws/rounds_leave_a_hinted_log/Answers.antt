use Rattle.core_rounds.proofs.HintedRounds.{rounds_hinted}
use Rattle.core_rounds.proofs.laws.rounds_leave_a_hinted_log.Goals as goal

pub returns : goal.returns
returns c = rounds_hinted
