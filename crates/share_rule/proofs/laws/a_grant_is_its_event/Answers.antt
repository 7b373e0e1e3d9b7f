use Rattle.share_rule.specs.Books.{StandsFor}
use Rattle.share_rule.proofs.Granting.{grant_next}
use Rattle.share_rule.proofs.laws.a_grant_is_its_event.Goals as goal

pub returns : goal.returns
returns g c = grant_next (StandsFor g.B.Ledger.account g.B.Ledger.stands)
