use Rattle.std.proofs.Common.{◌≡◌, ◌-◌, drop}
use Rattle.simp_base.proofs.Neighbours.{neighbours}
use Rattle.simp_base.proofs.tautology.is_tautology.Given as goal

abbrev pub invariant-loop-i : goal.invariant-loop-i
invariant-loop-i l = neighbours l.lits ≡ neighbours (drop (l.i - 1) l.lits)
