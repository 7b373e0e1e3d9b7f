use Rattle.std.proofs.Common.{◌∙◌, ◌<◌, length}
use Rattle.std.proofs.lemmas.List.Sorted.{All-permutation, IsNonDecreasingBy-from_sort}
use Rattle.analyze.proofs.Sorting.{member_permutation}
use Rattle.analyze.proofs.marks.Marks.sort.Goals as goal

pub invariant_of-self : goal.invariant_of-self
invariant_of-self g c = record {
  room = rw c.sort_unstable.ensures.capacity c.self.invariant.room;
  in_range = All-permutation (λ x. x < length c.self.inside.values.items) _ _ c.sort_unstable.ensures.permutation c.self.invariant.in_range;
  others = λ p off. c.self.invariant.others p (member_permutation _ _ p c.sort_unstable.ensures.permutation ∙ off);
}

pub returns-clause-rising : goal.returns-clause-rising
returns-clause-rising g c = IsNonDecreasingBy-from_sort (λ x. x) c.sort_unstable.new.self.items c.sort_unstable.ensures.sorted
