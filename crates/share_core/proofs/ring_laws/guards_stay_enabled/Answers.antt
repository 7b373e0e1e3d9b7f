use Rattle.share_core.specs.Left.{ring_of}
use Rattle.share_core.proofs.Leaving.{enabled_states}
use Rattle.share_core.proofs.Others.{others_in}
use Rattle.share_core.proofs.Turning.{run_stays}
use Rattle.share_core.proofs.ring_laws.guards_stay_enabled.Goals as goal

pub returns : goal.returns
returns c = λ d e es t others h enabled. run_stays e es d t (others_in (ring_of e) es others) (enabled_states d es h) enabled
