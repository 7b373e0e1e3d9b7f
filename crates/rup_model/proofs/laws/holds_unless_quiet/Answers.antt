use Rattle.rup_model.proofs.Quietly.{follows_unless}
use Rattle.rup_model.proofs.laws.holds_unless_quiet.Goals as goal

pub returns : goal.returns
returns c = follows_unless
