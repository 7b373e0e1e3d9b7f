use Rattle.share_core.proofs.Leaving.{left_none, left_one, left_more, left_sound, left_opening}
use Rattle.share_core.proofs.laws.events_leave_states.Goals as goal

pub returns-clause-none : goal.returns-clause-none
returns-clause-none c = left_none

pub returns-clause-one : goal.returns-clause-one
returns-clause-one c = left_one

pub returns-clause-more : goal.returns-clause-more
returns-clause-more c = left_more

pub returns-clause-sound : goal.returns-clause-sound
returns-clause-sound c = left_sound

pub returns-clause-opening : goal.returns-clause-opening
returns-clause-opening c = left_opening
