-- The order of candidates.
use Rattle.std.proofs.Common.{◌≡◌, ℕ, true, false, Ordering, arith}
use Rattle.std.proofs.lemmas.Bool.Decides.{nat_tests}
use Rattle.std.proofs.lemmas.Cmp.{on_total, then_total, nat_cmp_total}
use Rattle.std.proofs.lemmas.List.Sorted.{ranks_by}
use Rattle.std.specs.Cmp.{IsTotalOrder, IsStrictWeakOrder}
use Rattle.std.specs.Ordering.{ordering_then, nat_cmp}
use Rattle.sat_words.specs.declared.shared.Head.{Head}
use Rattle.reduce_db.specs.declared.candidate.Candidate.{Candidate}
use Rattle.reduce_db.specs.Choice.{comes_before}
use Rattle.reduce_db.specs.Ranking.{ranks_before, candidate_with}

abbrev rank_cmp : Candidate → Candidate → Ordering
rank_cmp x y = ordering_then (nat_cmp x.glue y.glue) (ordering_then (nat_cmp x.size y.size) (ordering_then (nat_cmp x.number y.number) (nat_cmp x.address y.address)))

total : IsTotalOrder rank_cmp
total = then_total (on_total (λ (x : Candidate). x.glue) nat_cmp_total) (then_total (on_total (λ (x : Candidate). x.size) nat_cmp_total) (then_total (on_total (λ (x : Candidate). x.number) nat_cmp_total) (on_total (λ (x : Candidate). x.address) nat_cmp_total)))

pub ranks_in_order : IsStrictWeakOrder ranks_before
ranks_in_order = ranks_by total (λ (x : Candidate). x)

-- two that aren't before each other are at one address
pub alike : (x y : Candidate) → ranks_before x y ≡ false → ranks_before y x ≡ false → x.address ≡ y.address
alike x y e f = grind (arith, nat_tests)

-- one that comes before another ranks before it
pub comes_ranks : (h k : Head) (a b : ℕ) → comes_before h k ≡ true → ranks_before (candidate_with h a) (candidate_with k b) ≡ true
comes_ranks h k a b e = grind (arith, nat_tests)
