use Rattle.share_core.proofs.Steps.{event_sound}
use Rattle.share_core.proofs.laws.enabled_events_keep_sound.Goals as goal

pub returns : goal.returns
returns c = event_sound
