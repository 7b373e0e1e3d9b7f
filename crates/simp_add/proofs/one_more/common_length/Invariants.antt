use Rattle.std.proofs.Common.{◌≡◌, drop}
use Rattle.simp_add.specs.Alike.{one_more}
use Rattle.simp_add.proofs.one_more.common_length.Given as goal

abbrev pub invariant-loop-i : goal.invariant-loop-i
invariant-loop-i l = one_more (drop l.i l.fewer) (drop l.i l.more) ≡ one_more l.fewer l.more
