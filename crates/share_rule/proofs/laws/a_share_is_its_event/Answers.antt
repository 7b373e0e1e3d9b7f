use Rattle.share_rule.specs.Books.{StandsFor}
use Rattle.share_rule.proofs.Steps.{share_next}
use Rattle.share_rule.proofs.laws.a_share_is_its_event.Goals as goal

pub returns : goal.returns
returns g c = share_next (StandsFor g.B.Ledger.account g.B.Ledger.stands)
