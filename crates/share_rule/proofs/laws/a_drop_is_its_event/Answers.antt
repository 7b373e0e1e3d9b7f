use Rattle.share_rule.specs.Books.{StandsFor}
use Rattle.share_rule.proofs.Steps.{drop_next}
use Rattle.share_rule.proofs.laws.a_drop_is_its_event.Goals as goal

pub returns : goal.returns
returns g c = drop_next (StandsFor g.B.Ledger.account g.B.Ledger.stands)
