use Rattle.std.proofs.Common.{take}
use Rattle.simp_add.specs.Counted.{IsBest}
use Rattle.simp_add.proofs.tally.Tally.best.Given as goal

abbrev pub invariant-loop-lit : goal.invariant-loop-lit
invariant-loop-lit l = IsBest l.self.counts.items (take l.lit-index l.self.touched.items) l.best
