use Rattle.share_rule.specs.Books.{StandsFor}
use Rattle.share_rule.proofs.Listing.{see_next}
use Rattle.share_rule.proofs.unit_laws.a_unit_seen_is_its_event.Goals as goal

pub returns : goal.returns
returns g c = see_next (StandsFor g.B.Ledger.account g.B.Ledger.stands)
