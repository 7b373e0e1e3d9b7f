use Rattle.share_rule.specs.Books.{StandsFor}
use Rattle.share_rule.proofs.Turning.{miss_next}
use Rattle.share_rule.proofs.turn_laws.a_turn_missed_is_no_event.Goals as goal

pub returns : goal.returns
returns g c = miss_next (StandsFor g.B.Ledger.account g.B.Ledger.stands)
