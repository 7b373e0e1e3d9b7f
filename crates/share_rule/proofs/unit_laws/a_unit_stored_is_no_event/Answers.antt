use Rattle.share_rule.specs.Books.{StandsFor}
use Rattle.share_rule.proofs.Listing.{unit_next}
use Rattle.share_rule.proofs.unit_laws.a_unit_stored_is_no_event.Goals as goal

pub returns : goal.returns
returns g c = unit_next (StandsFor g.B.Ledger.account g.B.Ledger.stands)
