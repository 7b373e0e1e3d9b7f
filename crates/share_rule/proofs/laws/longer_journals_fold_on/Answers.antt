use Rattle.share_rule.proofs.Rooms.{room_more}
use Rattle.share_rule.proofs.laws.longer_journals_fold_on.Goals as goal

pub returns : goal.returns
returns c l o J K long = room_more l o J K long
