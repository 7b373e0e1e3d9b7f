use Rattle.share_rule.specs.Books.{StandsFor}
use Rattle.share_rule.proofs.Seats.{join_next}
use Rattle.share_rule.proofs.laws.a_join_is_no_event.Goals as goal

pub returns : goal.returns
returns g c = join_next (StandsFor g.B.Ledger.account g.B.Ledger.stands)
