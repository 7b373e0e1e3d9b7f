use Rattle.share_rule.specs.Books.{StandsFor}
use Rattle.share_rule.proofs.Listing.{number_next}
use Rattle.share_rule.proofs.unit_laws.a_number_stored_is_no_event.Goals as goal

pub returns : goal.returns
returns g c = number_next (StandsFor g.B.Ledger.account g.B.Ledger.stands)
