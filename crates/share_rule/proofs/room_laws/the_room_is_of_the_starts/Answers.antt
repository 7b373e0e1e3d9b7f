use Rattle.share_rule.proofs.Tightness.{program_no_hole}
use Rattle.share_rule.proofs.room_laws.the_room_is_of_the_starts.Goals as goal

pub returns : goal.returns
returns c = program_no_hole
