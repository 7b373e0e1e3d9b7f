use Rattle.share_rule.specs.Books.{StandsFor}
use Rattle.share_rule.proofs.Stopping.{set_next}
use Rattle.share_rule.proofs.exchange_laws.a_stop_is_its_event.Goals as goal

pub returns : goal.returns
returns g c = set_next (StandsFor g.B.Ledger.account g.B.Ledger.stands)
