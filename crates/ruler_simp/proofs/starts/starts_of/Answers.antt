use Rattle.std.proofs.Common.{ℕ, List, subst, rules}
use Rattle.std.specs.List.Sorted.{IsPermutation}
use Rattle.std.proofs.lemmas.List.Elements.{filter_from_retain}
use Rattle.std.proofs.lemmas.List.Sorted.{IsNonDecreasingBy-from_sort_by_key}
use Rattle.sat_words.specs.Literal.{Literal}
use Rattle.simp_base.specs.Parts.{takes_part}
use Rattle.ruler_simp.proofs.starts.starts_of.Goals as goal

abbrev Cell : Type 0
Cell = ℕ × List Literal

pub returns-clause-kept : goal.returns-clause-kept
returns-clause-kept c =
    subst (λ (xs : List Cell). IsPermutation xs c.sort_unstable_by_key.new.self.items)
    (filter_from_retain _ (λ (x : Cell). takes_part x.1) (λ p x b q r. search rules) _ c.args.clauses.items c.retain.new.self.items c.retain.ensures.filtered)
    c.sort_unstable_by_key.ensures.permutation

pub returns-clause-sorted : goal.returns-clause-sorted
returns-clause-sorted c =
    IsNonDecreasingBy-from_sort_by_key (λ (x : Cell). x.0) _ c.sort_unstable_by_key.ensures.sorted (λ a r q k. search rules)
