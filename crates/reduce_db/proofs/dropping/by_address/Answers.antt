use Rattle.std.proofs.Common.{rules}
use Rattle.std.proofs.lemmas.List.Sorted.{answers_always, IsNonDecreasingBy-from_sort}
use Rattle.sat_words.specs.declared.shared.Cref.{Cref}
use Rattle.reduce_db.proofs.dropping.by_address.Goals as goal

pub returns-clause-order : goal.returns-clause-order
returns-clause-order c =
    IsNonDecreasingBy-from_sort (λ (d : Cref). d.address) c.sort_unstable_by_key.new.self.items
    (c.sort_unstable_by_key.ensures.sorted (λ (d : Cref). d.address) (answers_always _ _ _ (λ f a r g called. search rules)))
