use Rattle.std.proofs.lemmas.List.Filters.{dedup_is}
use Rattle.std.proofs.lemmas.List.Kept.{Contains-dedup_nat}
use Rattle.std.proofs.lemmas.List.Sorted.{Contains-permutation}
use Rattle.std.proofs.lemmas.Map.Keys.{IsStrictlyIncreasing-dedup}
use Rattle.simp_add.proofs.numbers.ascending.Goals as goal

pub returns-clause-rising : goal.returns-clause-rising
returns-clause-rising c =
    rw (dedup_is _ _ _ c.dedup.ensures.filtered) (IsStrictlyIncreasing-dedup _ c.sort_unstable.ensures.sorted)

pub returns-clause-every : goal.returns-clause-every
returns-clause-every c n h =
    rw (dedup_is _ _ _ c.dedup.ensures.filtered)
    (Contains-dedup_nat _ n (Contains-permutation _ _ n c.sort_unstable.ensures.permutation (rw (← c.in_ok-all.ensures.items) at h)))
