use Rattle.std.proofs.Common.{◌∙◌, ap, arith}
use Rattle.share_core.specs.declared.part.CoreOpening.{CoreOpening}
use Rattle.share_rule.specs.FirstWords.{starts_at}
use Rattle.share_rule.specs.Layout.{first_cell}
use Rattle.test_units.proofs.tests_units.two_rings_hand_over.Goals as goal

pub begin_over_three-one-requires-clause-starts : goal.begin_over_three-one-requires-clause-starts
begin_over_three-one-requires-clause-starts g c = (
  first_cell c.in_ok-table.table.layout,
  ap (λ (o : CoreOpening). o.starts) (c.begin_over_three-zero.ensures.same.0 ∙ c.in_ok-table.ensures.opening) ∙ ap (starts_at (first_cell c.in_ok-table.table.layout)) c.in_ok-problem.ensures.start,
)

pub close-book-requires-clause-whole : goal.close-book-requires-clause-whole
close-book-requires-clause-whole g c = λ r lt. c.gather-2.ensures.0.rings r (omega arith) lt
