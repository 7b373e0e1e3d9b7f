use Rattle.share_core.proofs.Plainly.{sound_plain}
use Rattle.share_core.proofs.laws.sound_is_plain.Goals as goal

pub returns : goal.returns
returns c = sound_plain
