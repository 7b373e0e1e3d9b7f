use Rattle.std.proofs.Common.{◌≡◌, map, replicate, []}
use Rattle.simp_base.proofs.occurrences.Occurrences.blank.Given as goal

abbrev pub invariant-loop-i : goal.invariant-loop-i
invariant-loop-i l = map (λ v. v.items) l.lists.items ≡ replicate l.i []
