use Rattle.share_rule.specs.Books.{StandsFor}
use Rattle.share_rule.proofs.Turning.{take_next}
use Rattle.share_rule.proofs.turn_laws.a_turn_taken_is_its_event.Goals as goal

pub returns : goal.returns
returns g c = take_next (StandsFor g.B.Ledger.account g.B.Ledger.stands)
