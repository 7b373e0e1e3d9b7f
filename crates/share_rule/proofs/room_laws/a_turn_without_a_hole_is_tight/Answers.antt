use Rattle.share_rule.proofs.Refusing.{turn_tight}
use Rattle.share_rule.proofs.room_laws.a_turn_without_a_hole_is_tight.Goals as goal

pub returns : goal.returns
returns c = turn_tight
