use Rattle.std.proofs.Common.{◌≡◌, ◌++◌, length}
use Rattle.std.specs.Prelude.{reverse}
use Rattle.simp_base.proofs.hints.collection.Collection.put_reasons.Given as goal

abbrev pub decreases-loop-number : goal.decreases-loop-number
decreases-loop-number l = length l.self.reasons.items

abbrev pub invariant-loop-number : goal.invariant-loop-number
invariant-loop-number l = record {
  hints : l.self.hints.items ++ reverse l.self.reasons.items ≡ l.fn.self.hints.items ++ reverse l.fn.self.reasons.items;
  marks : l.self.marks ≡ l.fn.self.marks;
}
