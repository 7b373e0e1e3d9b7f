use Rattle.share_rule.specs.Books.{StandsFor}
use Rattle.share_rule.proofs.Exchanging.{put_next}
use Rattle.share_rule.proofs.exchange_laws.a_put_is_its_event.Goals as goal

pub returns : goal.returns
returns g c = put_next (StandsFor g.B.Ledger.account g.B.Ledger.stands)
