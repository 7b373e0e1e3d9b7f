-- The last half of the candidates in order.
use Rattle.std.proofs.Common.{◌≡◌, ◌≢◌, ◌∙◌, ◌==◌, ℕ, ◌<◌, ◌≤◌, ◌+◌, ◌-◌, ◌/◌, Bool, true, false, not, List, [], ◌∷◌, ◌++◌, length, take, get_or, append-nil, Option, Some, None, sym, refl, ap, subst, inl, inr, arith}
use Rattle.std.specs.List.{filter, slice_get}
use Rattle.std.specs.List.Sorted.{IsPermutation, IsSortedBy}
use Rattle.std.proofs.lemmas.Bool.{cases_Bool, cases_lt}
use Rattle.std.proofs.lemmas.Option.{get_or_from_slice_get, slice_get-get_or, slice_get_within}
use Rattle.std.proofs.lemmas.Bool.Decides.{nat_tests}
use Rattle.std.proofs.lemmas.List.{take_more}
use Rattle.std.proofs.lemmas.List.Elements.{filter_map-append}
use Rattle.std.proofs.lemmas.List.Sorted.{sorted_far, length_permutation}
use Rattle.reduce_db.specs.declared.candidate.Candidate.{Candidate}
use Rattle.reduce_db.specs.Ranking.{ranks_before, is_dropped, AreSpread, IsHalf, only_some}
use Rattle.reduce_db.proofs.Ranks.{ranks_in_order, alike}
use Rattle.reduce_db.proofs.Counting.{passes_alike, from_place, two_pass, none_pass, filter_yes, filter_no}

is_at : ℕ → Candidate → Bool
is_at a x = x.address == a

not_at : (a b : ℕ) → a ≢ b → (a == b) ≡ false
not_at a b ne = grind (arith, nat_tests)

at_it : (a b : ℕ) → a ≡ b → (a == b) ≡ true
at_it a b e = grind (arith, nat_tests)

then_at : (a b : ℕ) → (a == b) ≡ true → a ≡ b
then_at a b e = grind (arith, nat_tests)

-- at most one is at an address
spread_one : (xs : List Candidate) (a : ℕ) → AreSpread xs → length (filter (λ (x : Candidate). x.address == a) xs) ≤ 1
spread_one [] a s = omega arith
spread_one (x ∷ xs) a s = by (x.address == a) refl (spread_one xs a s.1)
  where
    by : (b : Bool) → (x.address == a) ≡ b → length (filter (λ (y : Candidate). y.address == a) xs) ≤ 1 → length (filter (λ (y : Candidate). y.address == a) (x ∷ xs)) ≤ 1
    by true e r =
        let f = ap (λ (ys : List Candidate). length ys) (filter_yes (λ (y : Candidate). y.address == a) x xs e) in
        let n = ap (λ (ys : List Candidate). length ys) (none_pass (λ (y : Candidate). y.address == a) xs (λ j d lt. not_at (get_or xs j d).address a (λ q. s.0 j d lt (q ∙ sym (then_at x.address a e))))) in
        omega arith
    by false e r =
        let f = ap (λ (ys : List Candidate). length ys) (filter_no (λ (y : Candidate). y.address == a) x xs e) in
        omega arith

not_true : (b : Bool) → b ≡ true → not b ≡ false
not_true b e = ap not e

not_false : (b : Bool) → b ≡ false → not b ≡ true
not_false b e = ap not e

-- in order, those from a place on are the ones that aren't before the one there
pub from_first : (cs xs : List Candidate) (k : ℕ) (t : Candidate) → AreSpread cs → IsPermutation cs xs → IsSortedBy ranks_before xs → k < length xs → t ≡ get_or xs k t
    → length (filter (λ c. is_dropped (Some t) (Some c)) cs) ≡ length xs - k
from_first cs xs k t spread moved up lt is =
    sym (passes_alike (λ c. is_dropped (Some t) (Some c)) cs xs moved)
    ∙ from_place (λ c. is_dropped (Some t) (Some c)) xs k before after
  where
    there : (d : Candidate) → get_or xs k d ≡ t
    there d = Rattle.std.proofs.lemmas.List.get_or_default xs k d t lt ∙ sym is

    after : (j : ℕ) (d : Candidate) → k ≤ j → j < length xs → is_dropped (Some t) (Some (get_or xs j d)) ≡ true
    after j d le in' = not_false (ranks_before (get_or xs j d) t) (subst (λ (x : Candidate). ranks_before (get_or xs j d) x ≡ false) (there d) (sorted_far ranks_before ranks_in_order xs up k j d le in'))

    before : (j : ℕ) (d : Candidate) → j < k → j < length xs → is_dropped (Some t) (Some (get_or xs j d)) ≡ false
    before j d low in' = elim (cases_Bool (ranks_before (get_or xs j d) t)) as (λ _. is_dropped (Some t) (Some (get_or xs j d)) ≡ false) [
      | inl is' ↦ not_true (ranks_before (get_or xs j d) t) is'
      | inr isnt ↦ absurd (
          let back = subst (λ (x : Candidate). ranks_before x (get_or xs j d) ≡ false) (there d) (sorted_far ranks_before ranks_in_order xs up j k d (omega arith) lt) in
          let same = alike (get_or xs j d) t isnt back in
          let two = two_pass (λ (x : Candidate). x.address == t.address) xs j k d low lt (at_it (get_or xs j d).address t.address same) (at_it (get_or xs k d).address t.address (ap (λ (x : Candidate). x.address) (there d))) in
          let one = spread_one cs t.address spread in
          let alike' = passes_alike (λ (x : Candidate). x.address == t.address) cs xs moved in
          omega arith)
    ]

no_candidate : Candidate
no_candidate = record { glue = 0; size = 0; number = 0; address = 0 }

half_is : (n m : ℕ) → n ≡ m → n - (n - n / 2) ≡ m / 2
half_is n m e = omega arith

none_half : (n m : ℕ) → n ≡ m → n ≤ n - n / 2 → 0 ≡ m / 2
none_half n m e le = omega arith

-- the last half in order goes from its first on
pub half_of : (cs xs : List Candidate) (first : Option Candidate) → AreSpread cs → IsPermutation cs xs → IsSortedBy ranks_before xs → first ≡ slice_get xs (length xs - length xs / 2) → IsHalf cs first
half_of cs xs first spread moved up is = by first is
  where
    n : length xs ≡ length cs
    n = length_permutation cs xs moved

    by : (o : Option Candidate) → o ≡ slice_get xs (length xs - length xs / 2) → IsHalf cs o
    by None e =
        ap (λ (ys : List Candidate). length ys) (none_pass (λ (c : Candidate). false) cs (λ j d lt. refl))
        ∙ none_half (length xs) (length cs) n (elim (cases_lt (length xs - length xs / 2) (length xs)) as (λ _. length xs ≤ length xs - length xs / 2) [
          | inl lt ↦ absurd (let q = e ∙ slice_get-get_or xs (length xs - length xs / 2) no_candidate lt in cc)
          | inr le ↦ le
        ])
    by (Some t) e = from_first cs xs (length xs - length xs / 2) t spread moved up (slice_get_within xs (length xs - length xs / 2) t (sym e)) (sym (get_or_from_slice_get xs (length xs - length xs / 2) t t (sym e))) ∙ half_is (length xs) (length cs) n

pub some_more : (cs : List (Option Candidate)) (i : ℕ) (d : Option Candidate) (x : Candidate) → i < length cs → get_or cs i d ≡ Some x → only_some (take (i + 1) cs) ≡ only_some (take i cs) ++ x ∷ []
some_more cs i d x lt e =
    ap only_some (take_more cs i d lt) ∙ filter_map-append (λ (c : Option Candidate). c) (take i cs) (get_or cs i d ∷ [])
    ∙ ap (λ (c : Option Candidate). only_some (take i cs) ++ only_some (c ∷ [])) e

pub none_more : (cs : List (Option Candidate)) (i : ℕ) (d : Option Candidate) → i < length cs → get_or cs i d ≡ None → only_some (take (i + 1) cs) ≡ only_some (take i cs)
none_more cs i d lt e =
    ap only_some (take_more cs i d lt) ∙ filter_map-append (λ (c : Option Candidate). c) (take i cs) (get_or cs i d ∷ [])
    ∙ ap (λ (c : Option Candidate). only_some (take i cs) ++ only_some (c ∷ [])) e
    ∙ append-nil (only_some (take i cs))
