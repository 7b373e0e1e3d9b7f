use Rattle.share_rule.specs.declared.view.Refusal.TheVariants.{NoHole}
use Rattle.share_rule.proofs.room_laws.a_noted_want_of_room_is_one.Goals as goal

pub returns : goal.returns
returns c v s i p need most there noted = (s.parts i p there).refused (NoHole need most) noted
