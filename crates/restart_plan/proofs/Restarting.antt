-- What is counted stays so if a restart is made.
use Rattle.std.proofs.Common.{◌≡◌, ℕ, ◌<◌, ◌≤◌, ◌+◌, ◌-◌, ◌*◌, ◌==◌, ◌&&◌, Bool, true, false, length, nat_le, nat_lt, refl, inl, inr, arith}
use Rattle.std.proofs.lemmas.Bool.{cases_Bool, cases_lt}
use Rattle.std.proofs.lemmas.Bool.Decides.{nat_tests}
use Rattle.std.specs.List.{sum}
use Rattle.restart_plan.specs.Luby.{luby, luby_sum}
use Rattle.restart_plan.specs.Plan.{Restarting, IsRestarting, IsExact, AreMost, begun, noted, asked, is_due, is_due_odd, is_due_even, restarted}
use Rattle.restart_plan.proofs.LubyLemmas.{luby_some, sum_next, sum_none, sums_grow}

le_of : (m n : ℕ) → nat_le m n ≡ true → m ≤ n
le_of m n h = grind (arith, nat_tests)

gt_of : (m n : ℕ) → nat_le m n ≡ false → n < m
gt_of m n h = grind (arith, nat_tests)

eq_of : (m n : ℕ) (b : Bool) → (m == n) && b ≡ true → m ≡ n
eq_of m n b h = elim (cases_Bool (m == n)) as (λ _. m ≡ n) [ inl e ↦ grind (arith, nat_tests) | inr e ↦ absurd (let z : false ≡ true = (rw e at h) in cc) ]

due_after : (r : Restarting) → IsRestarting r → is_due r ≡ true → 50 ≤ r.since
due_after r k due =
    elim (cases_Bool r.odd) as (λ _. 50 ≤ r.since) [
      | inl odd ↦ (let d : is_due_odd r ≡ true = (rw odd at due) in let l = le_of (64 * luby (r.made + 1)) r.since d in let s = luby_some (r.made + 1) in omega arith)
      | inr even ↦ (let d : is_due_even r ≡ true = (rw even at due) in let l = eq_of (length r.window) 50 (nat_lt (10 * 50 * r.sum) (8 * sum r.window * r.count)) d in let m = k.recent in omega arith)
    ]

pub IsRestarting-restarted : (r : Restarting) → IsRestarting r → is_due r ≡ true → IsRestarting (restarted r)
IsRestarting-restarted r k due =
    let a = due_after r k due in
    let f = k.few in
    record { few = omega arith; window = omega arith; recent = omega arith; low = k.low; fits = k.fits }

pub exact-none : IsExact (begun true)
exact-none = let s = sum_none in let n = luby_some 1 in record { odd = refl; all = omega arith; open_yet = omega arith }

pub exact-more : (r : Restarting) (glue : ℕ) → IsExact r → IsExact (asked (noted r glue))
exact-more r glue k =
    let a = k.all in
    let o = k.open_yet in
    let n : Restarting = noted r glue in
    elim (cases_Bool (is_due n)) as (λ _. IsExact (asked n)) [
      | inl due ↦ (
          let d : nat_le (64 * luby (r.made + 1)) (r.since + 1) ≡ true = (rw (k.odd) at due) in
          let l = le_of (64 * luby (r.made + 1)) (r.since + 1) d in
          let s = sum_next r.made in
          let p = luby_some (r.made + 1 + 1) in
          let e : asked n ≡ restarted n = rw due refl in
          let z : IsExact (restarted n) = record { odd = k.odd; all = omega arith; open_yet = omega arith } in rw due z)
      | inr not_due ↦ (
          let d : nat_le (64 * luby (r.made + 1)) (r.since + 1) ≡ false = (rw (k.odd) at not_due) in
          let l = gt_of (64 * luby (r.made + 1)) (r.since + 1) d in
          let z : IsExact n = record { odd = k.odd; all = omega arith; open_yet = omega arith } in rw not_due z)
    ]

sums_le : (j k : ℕ) → j ≤ k → luby_sum j ≤ luby_sum k
sums_le j k le = sums_grow (k - j) j k (omega arith)

pub exact-most : (r : Restarting) → IsExact r → AreMost r.made r.count
exact-most r k i = (fits, allowed)
  where
    fits : 64 * luby_sum i ≤ r.count → i ≤ r.made
    fits h =
        elim (cases_lt r.made i) as (λ _. i ≤ r.made) [
          | inl l ↦ absurd (let g = sums_le (r.made + 1) i (omega arith) in let s = sum_next r.made in let a = k.all in let o = k.open_yet in omega arith)
          | inr g ↦ g
        ]

    allowed : i ≤ r.made → 64 * luby_sum i ≤ r.count
    allowed h = let g = sums_le i r.made h in let a = k.all in omega arith
