use Rattle.share_core.proofs.Opened.{events_sound}
use Rattle.share_core.proofs.Leaving.{fronts_sound}
use Rattle.share_core.proofs.laws.events_keep_sound.Goals as goal

pub returns-clause-fronts : goal.returns-clause-fronts
returns-clause-fronts c = fronts_sound

pub returns-clause-whole : goal.returns-clause-whole
returns-clause-whole c = events_sound
