use Rattle.share_rule.specs.Books.{StandsFor}
use Rattle.share_rule.proofs.Building.{open_next}
use Rattle.share_rule.proofs.laws.an_opening_is_its_event.Goals as goal

pub returns : goal.returns
returns g c = open_next (StandsFor g.B.Ledger.account g.B.Ledger.stands)
