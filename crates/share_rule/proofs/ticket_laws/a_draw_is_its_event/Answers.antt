use Rattle.share_rule.specs.Books.{StandsFor}
use Rattle.share_rule.proofs.Drawing.{draw_next}
use Rattle.share_rule.proofs.ticket_laws.a_draw_is_its_event.Goals as goal

pub returns : goal.returns
returns g c = draw_next (StandsFor g.B.Ledger.account g.B.Ledger.stands)
