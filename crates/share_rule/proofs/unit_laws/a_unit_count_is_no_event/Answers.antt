use Rattle.share_rule.specs.Books.{StandsFor}
use Rattle.share_rule.proofs.Listing.{count_next}
use Rattle.share_rule.proofs.unit_laws.a_unit_count_is_no_event.Goals as goal

pub returns : goal.returns
returns g c = count_next (StandsFor g.B.Ledger.account g.B.Ledger.stands)
