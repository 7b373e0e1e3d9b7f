use Rattle.share_rule.specs.Books.{StandsFor}
use Rattle.share_rule.proofs.Stopping.{look_next}
use Rattle.share_rule.proofs.exchange_laws.a_look_at_the_stop_is_no_event.Goals as goal

pub returns : goal.returns
returns g c = look_next (StandsFor g.B.Ledger.account g.B.Ledger.stands)
