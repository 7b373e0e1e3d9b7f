use Rattle.share_rule.specs.Books.{StandsFor}
use Rattle.share_rule.proofs.Listing.{number_loaded}
use Rattle.share_rule.proofs.unit_laws.a_number_loaded_is_no_event.Goals as goal

pub returns : goal.returns
returns g c = number_loaded (StandsFor g.B.Ledger.account g.B.Ledger.stands)
