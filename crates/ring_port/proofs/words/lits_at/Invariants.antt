use Rattle.std.proofs.Common.{◌≡◌, map}
use Rattle.std.specs.List.{range_with_len}
use Rattle.ring_port.specs.Store.{lit_at}
use Rattle.ring_port.proofs.words.lits_at.Given as goal

-- the literals before this one
abbrev pub invariant-loop-i : goal.invariant-loop-i
invariant-loop-i l = l.lits.items ≡ map (λ k. lit_at l.words l.first k) (range_with_len 0 l.i)
