use Rattle.share_rule.specs.Books.{StandsFor}
use Rattle.share_rule.proofs.Openings.{begin_next, open_next}
use Rattle.share_rule.proofs.laws.a_table_opens_with_no_event.Goals as goal

pub returns-clause-begins : goal.returns-clause-begins
returns-clause-begins g c = begin_next (StandsFor g.B.Ledger.account g.B.Ledger.stands)

pub returns-clause-opens : goal.returns-clause-opens
returns-clause-opens g c = open_next (StandsFor g.B.Ledger.account g.B.Ledger.stands)
