use Rattle.rup_model.proofs.Hinting.{follows}
use Rattle.rup_model.proofs.hint_laws.hinted_follows.Goals as goal

pub returns : goal.returns
returns c = follows
