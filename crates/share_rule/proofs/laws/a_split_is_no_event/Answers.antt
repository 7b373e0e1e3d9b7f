use Rattle.share_rule.specs.Books.{StandsFor}
use Rattle.share_rule.proofs.Seats.{split_next}
use Rattle.share_rule.proofs.laws.a_split_is_no_event.Goals as goal

pub returns : goal.returns
returns g c = split_next (StandsFor g.B.Ledger.account g.B.Ledger.stands)
