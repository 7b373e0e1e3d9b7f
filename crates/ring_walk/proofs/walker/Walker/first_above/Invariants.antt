use Rattle.std.proofs.Common.{◌≡◌, ◌+◌, take}
use Rattle.ring_walk.specs.Walk.{whole_weight}
use Rattle.ring_walk.proofs.walker.Walker.first_above.Given as goal

abbrev pub invariant-loop-lit : goal.invariant-loop-lit
invariant-loop-lit l = l.left + whole_weight l.self.clauses l.self.fixed l.self.values (take l.lit-index l.lits) ≡ l.number
