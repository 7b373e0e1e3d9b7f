use Rattle.std.proofs.Common.{◌∙◌, ap, arith}
use Rattle.share_core.specs.declared.part.CoreOpening.{CoreOpening}
use Rattle.test_pass.proofs.Row.{all_begun}
use Rattle.test_pass.proofs.tests_passes.two_offers_lie_in_two_slots.Goals as goal

pub join_ring-requires-clause-home : goal.join_ring-requires-clause-home
join_ring-requires-clause-home g c = λ p pass. c.in_ok-taken.ensures.same.same.home ∙ c.in_ok-one.ensures.home p pass

pub join_ring-requires-2-clause-home : goal.join_ring-requires-2-clause-home
join_ring-requires-2-clause-home g c = λ p pass. c.in_ok-_later.ensures.same.same.home ∙ c.in_ok-zero.ensures.home p pass

pub close-requires-clause-whole : goal.close-requires-clause-whole
close-requires-clause-whole g c = λ r lt. c.join_ring-2.ensures.gathered.rings r (omega arith) lt

pub join_ring-requires-clause-first : goal.join_ring-requires-clause-first
join_ring-requires-clause-first g c =
    all_begun c.in_ok-table.table c.begin_port-2.new.first c.in_ok-one.ensures.first (ap (λ (o : CoreOpening). o.rings) (c.in_ok-one.ensures.same.0 ∙ c.in_ok-zero.ensures.same.0) ∙ c.in_ok-table.ensures.four.rings)
    (c.in_ok-one.ensures.same.1 ∙ c.in_ok-zero.ensures.same.1 ∙ c.in_ok-table.ensures.parts)
