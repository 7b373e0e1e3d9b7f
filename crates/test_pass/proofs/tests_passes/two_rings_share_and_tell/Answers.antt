use Rattle.std.proofs.Common.{◌∙◌, ap, arith}
use Rattle.share_core.specs.declared.part.CoreOpening.{CoreOpening}
use Rattle.test_pass.proofs.Row.{all_begun, home_left}
use Rattle.test_pass.proofs.tests_passes.two_rings_share_and_tell.Goals as goal

pub give_up_and_tell-requires-clause-zero_holds : goal.give_up_and_tell-requires-clause-zero_holds
give_up_and_tell-requires-clause-zero_holds g c = c.in_ok-heard.ensures.zero_same.spare c.in_ok-spare.spare.address (c.in_ok-zero.ensures.spare c.in_ok-spare.spare c.in_ok-spare.ensures)

pub give_up_and_tell-requires-clause-one_holds : goal.give_up_and_tell-requires-clause-one_holds
give_up_and_tell-requires-clause-one_holds g c = c.in_ok-heard.ensures.one_same.spare c.in_ok-spare.spare.address (c.in_ok-one.ensures.spare c.in_ok-spare.spare c.in_ok-spare.ensures)

pub join_ring-requires-clause-home : goal.join_ring-requires-clause-home
join_ring-requires-clause-home g c = home_left c.in_ok-table.table c.in_ok-one.one c.hand_over.new.one c.give_up_and_tell.new.one c.in_ok-one.ensures.home c.in_ok-heard.ensures.one_same.same c.in_ok-unit.ensures.one

pub join_ring-requires-2-clause-home : goal.join_ring-requires-2-clause-home
join_ring-requires-2-clause-home g c = home_left c.in_ok-table.table c.in_ok-zero.zero c.hand_over.new.zero c.give_up_and_tell.new.zero c.in_ok-zero.ensures.home c.in_ok-heard.ensures.zero_same.same c.in_ok-unit.ensures.zero

pub close_round-requires-clause-whole : goal.close_round-requires-clause-whole
close_round-requires-clause-whole g c = λ r lt. c.join_ring-2.ensures.gathered.rings r (omega arith) lt

pub join_ring-requires-clause-first : goal.join_ring-requires-clause-first
join_ring-requires-clause-first g c =
    all_begun c.in_ok-table.table c.begin_port-2.new.first c.in_ok-one.ensures.first (ap (λ (o : CoreOpening). o.rings) (c.in_ok-one.ensures.same.0 ∙ c.in_ok-zero.ensures.same.0) ∙ c.in_ok-table.ensures.four.rings)
    (c.in_ok-one.ensures.same.1 ∙ c.in_ok-zero.ensures.same.1 ∙ c.in_ok-table.ensures.parts)
