use Rattle.share_rule.specs.Books.{StandsFor}
use Rattle.share_rule.proofs.Turning.{give_next}
use Rattle.share_rule.proofs.turn_laws.a_turn_is_its_events.Goals as goal

pub returns : goal.returns
returns g c = give_next (StandsFor g.B.Ledger.account g.B.Ledger.stands)
