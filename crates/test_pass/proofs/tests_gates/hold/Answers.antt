use Rattle.std.proofs.Common.{◌∙◌, arith}
use Rattle.test_pass.proofs.tests_gates.hold.Goals as goal

pub join_ring-requires-clause-home : goal.join_ring-requires-clause-home
join_ring-requires-clause-home g c = λ p pass. (rw c.in_ok-one-2.was at c.play_both-zero.ensures.one).home ∙ c.in_ok-one.ensures.home p pass

pub join_ring-requires-2-clause-home : goal.join_ring-requires-2-clause-home
join_ring-requires-2-clause-home g c = λ p pass. (rw c.in_ok-zero-2.was at c.play_both-zero.ensures.zero).home ∙ c.in_ok-zero.ensures.home p pass

pub close-requires-clause-whole : goal.close-requires-clause-whole
close-requires-clause-whole g c = λ r lt. c.join_ring-2.ensures.gathered.rings r (omega arith) lt
