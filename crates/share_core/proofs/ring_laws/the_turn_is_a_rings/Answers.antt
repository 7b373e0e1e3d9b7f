use Rattle.share_core.proofs.ring_laws.the_turn_is_a_rings.Goals as goal

pub returns : goal.returns
returns c = λ d r s is. s.turns r is
