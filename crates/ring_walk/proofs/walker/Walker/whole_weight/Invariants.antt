use Rattle.std.proofs.Common.{◌≡◌, ◌*◌, ◌≤◌, take}
use Rattle.std.specs.Prelude.{◌^◌}
use Rattle.ring_walk.specs.Walk.{whole_weight}
use Rattle.ring_walk.proofs.walker.Walker.whole_weight.Given as goal

abbrev pub invariant-loop-lit : goal.invariant-loop-lit
invariant-loop-lit l = record {
  sum : l.sum ≡ whole_weight l.self.clauses l.self.fixed l.self.values (take l.lit-index l.lits);
  small : l.sum ≤ l.lit-index * 2 ^ 16;
}
