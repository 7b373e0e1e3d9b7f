use Rattle.std.proofs.Common.{◌≡◌, take}
use Rattle.ring_port.proofs.starts.Starts.of_clauses.Given as goal

-- the clauses before this place
abbrev pub invariant-loop-number : goal.invariant-loop-number
invariant-loop-number l = l.starts ≡ take l.number-index l.clauses
