-- What the rings counted in a round and in those before it, added up.
use Rattle.std.proofs.Common.{◌≡◌, ◌+◌, ◌-◌, ◌*◌, ◌^◌, ◌<◌, ◌≤◌, ℕ, zero, suc, List, [], ◌∷◌, filter, length, replicate, get_or, All, refl, arith}
use Rattle.std.proofs.Math.Nat.{mul-add}
use Rattle.std.proofs.lemmas.Nat.{mul-le}
use Rattle.std.proofs.lemmas.List.Sums.{length-filter, count_by-le-length}
use Rattle.rup_model.specs.declared.journal.Entry.{Entry}
use Rattle.rup_model.specs.Journal.{learned}
use Rattle.share_core.specs.declared.event.Event.{Event}
use Rattle.ring_run.specs.declared.job.Counts.{Counts}
use Rattle.ring_run.specs.Ended.{is_long}
use Rattle.portfolio_run.specs.Held.{IsTallied, no_counts, add_counts, add_tallies}
use Rattle.portfolio_run.specs.Pauses.{IsSmall, CanAdd}

-- Of each ring

none_before : (n : ℕ) → 0 + n ≡ n
none_before n = omega arith

-- counts stay as they are where no ring counted anything
pub none_added : (rings : ℕ) (cs : List Counts) → length cs ≡ rings → add_tallies (replicate rings no_counts) cs ≡ cs
none_added zero [] e = refl
none_added zero (c ∷ cs) e = absurd (omega arith)
none_added (suc rings) [] e = refl
none_added (suc rings) (c ∷ cs) e = λ i.
    record { learned = none_before c.learned i; exported = none_before c.exported i; offered = none_before c.offered i; restarts = none_before c.restarts i } ∷ none_added rings cs (omega arith) i

pub added_many : (rings : ℕ) (cs ds : List Counts) → length cs ≡ rings → length ds ≡ rings → length (add_tallies cs ds) ≡ rings
added_many zero [] ds e f = refl
added_many zero (c ∷ cs) ds e f = absurd (omega arith)
added_many (suc rings) [] ds e f = absurd (omega arith)
added_many (suc rings) (c ∷ cs) [] e f = absurd (omega arith)
added_many (suc rings) (c ∷ cs) (d ∷ ds) e f = let rest = added_many rings cs ds (omega arith) (omega arith) in omega arith

-- How little it is

-- of a ring that learned no more than so many lemmas
pub small_of : (rings limit ring : ℕ) (events : List Event) (J : List Entry) (c : Counts) → IsTallied rings ring events J c → length (learned ring J) ≤ limit → IsSmall rings limit c
small_of rings limit ring events J c h few =
    let learned_is = h.learned_is in
    let lemmas = learned ring J in
    let longs : length (filter is_long lemmas) ≡ _ = length-filter is_long lemmas in
    let fewer = count_by-le-length is_long lemmas in
    let most = h.few in
    let exported : c.exported ≤ limit = omega (arith, longs, fewer, most, few) in
    let restarted = h.restarted.few in
    let product : (rings - 1) * c.exported ≤ rings * limit = mul-le (rings - 1) c.exported rings limit (omega arith) exported in
    let offered_is = h.offered_is in
    record {
      learned = omega (arith, learned_is, few);
      exported = exported;
      offered = omega (arith, product, offered_is);
      restarts = omega (arith, restarted, learned_is, few);
    }

pub small_none : (rings limit : ℕ) → IsSmall rings limit no_counts
small_none rings limit = record { learned = omega arith; exported = omega arith; offered = omega arith; restarts = omega arith }

small_sum : (rings limit done : ℕ) (c d : Counts) → IsSmall rings limit c → IsSmall rings done d → IsSmall rings (done + limit) (add_counts c d)
small_sum rings limit done c d h before =
    let sum : rings * (done + limit) ≡ rings * done + rings * limit = mul-add rings done limit in
    let cl = h.learned in
    let ce = h.exported in
    let co = h.offered in
    let cr = h.restarts in
    let dl = before.learned in
    let de = before.exported in
    let do_ = before.offered in
    let dr = before.restarts in
    record {
      learned = omega (arith, cl, dl);
      exported = omega (arith, ce, de);
      offered = omega (arith, co, do_, sum);
      restarts = omega (arith, cr, dr);
    }

pub all_small : (rings limit done : ℕ) (cs ds : List Counts) → ((r : ℕ) (e : Counts) → r < length cs → IsSmall rings limit (get_or cs r e)) → All (IsSmall rings done) ds → All (IsSmall rings (done + limit)) (add_tallies cs ds)
all_small rings limit done [] ds each before k e lt = absurd (omega arith)
all_small rings limit done (c ∷ cs) [] each before k e lt = absurd (omega arith)
all_small rings limit done (c ∷ cs) (d ∷ ds) each before zero e lt = small_sum rings limit done c d (each 0 c (omega arith)) (before 0 d (omega arith))
all_small rings limit done (c ∷ cs) (d ∷ ds) each before (suc k) e lt = all_small rings limit done cs ds (λ r f less. each (suc r) f (omega arith)) (λ r f less. before (suc r) f (omega arith)) k e (omega arith)

-- no sum of them is too great for a word
pub can_add : (rings limit done : ℕ) (c d : Counts) → rings ≤ 16 → done + limit ≤ 10 ^ 12 → IsSmall rings limit c → IsSmall rings done d → CanAdd c d
can_add rings limit done c d few_rings few h before =
    let sum : rings * (done + limit) ≡ rings * done + rings * limit = mul-add rings done limit in
    let most : rings * (done + limit) ≤ 16 * 10 ^ 12 = mul-le rings (done + limit) 16 (10 ^ 12) few_rings few in
    let cl = h.learned in
    let ce = h.exported in
    let co = h.offered in
    let cr = h.restarts in
    let dl = before.learned in
    let de = before.exported in
    let do_ = before.offered in
    let dr = before.restarts in
    record {
      learned = omega (arith, cl, dl, few);
      exported = omega (arith, ce, de, few);
      offered = omega (arith, co, do_, sum, most);
      restarts = omega (arith, cr, dr, few);
    }

-- Entry by entry

-- sums of them
pub sums_are : (ts cs ds : List Counts) → length ts ≡ length cs → length ds ≡ length cs → ((i : ℕ) (d : Counts) → i < length cs → get_or ts i d ≡ add_counts (get_or cs i d) (get_or ds i d)) → ts ≡ add_tallies cs ds
sums_are [] [] ds same more each = refl
sums_are [] (c ∷ cs) ds same more each = absurd (omega arith)
sums_are (t ∷ ts) [] ds same more each = absurd (omega arith)
sums_are (t ∷ ts) (c ∷ cs) [] same more each = absurd (omega arith)
sums_are (t ∷ ts) (c ∷ cs) (d ∷ ds) same more each = λ i. each 0 t (omega arith) i ∷ sums_are ts cs ds (omega arith) (omega arith) (λ j e lt. each (suc j) e (omega arith)) i

-- none at all
pub none_are : (ts : List Counts) (n : ℕ) → length ts ≡ n → ((i : ℕ) (d : Counts) → i < n → get_or ts i d ≡ no_counts) → ts ≡ replicate n no_counts
none_are [] zero same each = refl
none_are [] (suc n) same each = absurd (omega arith)
none_are (t ∷ ts) zero same each = absurd (omega arith)
none_are (t ∷ ts) (suc n) same each = λ i. each 0 t (omega arith) i ∷ none_are ts n (omega arith) (λ j e lt. each (suc j) e (omega arith)) i
