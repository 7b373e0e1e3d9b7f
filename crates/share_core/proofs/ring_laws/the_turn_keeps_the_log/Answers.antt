use Rattle.share_core.proofs.Leaving.{enabled_states}
use Rattle.share_core.proofs.Others.{others_in}
use Rattle.share_core.proofs.Turning.{run_quiet}
use Rattle.share_core.proofs.ring_laws.the_turn_keeps_the_log.Goals as goal

pub returns-clause-journal : goal.returns-clause-journal
returns-clause-journal c = λ d r es t others h. (run_quiet r es d t (others_in r es others) (enabled_states d es h)).0

pub returns-clause-units : goal.returns-clause-units
returns-clause-units c = λ d r es t others h. (run_quiet r es d t (others_in r es others) (enabled_states d es h)).1

pub returns-clause-turn : goal.returns-clause-turn
returns-clause-turn c = λ d r es t others h. (run_quiet r es d t (others_in r es others) (enabled_states d es h)).3

pub returns-clause-numbers : goal.returns-clause-numbers
returns-clause-numbers c = λ d r es t others h. (run_quiet r es d t (others_in r es others) (enabled_states d es h)).2
