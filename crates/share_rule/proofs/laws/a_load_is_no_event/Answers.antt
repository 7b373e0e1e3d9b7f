use Rattle.share_rule.specs.Books.{StandsFor}
use Rattle.share_rule.proofs.Loading.{load_next}
use Rattle.share_rule.proofs.laws.a_load_is_no_event.Goals as goal

pub returns : goal.returns
returns g c = load_next (StandsFor g.B.Ledger.account g.B.Ledger.stands)
