use Rattle.share_core.proofs.Opened.{opened_sound}
use Rattle.share_core.proofs.laws.openings_are_sound.Goals as goal

pub returns : goal.returns
returns c = opened_sound
