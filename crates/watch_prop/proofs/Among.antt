-- Looking an address up among clauses that are in the order of their addresses.
use Rattle.std.proofs.Common.{◌≡◌, ℕ, ◌≤◌, ◌==◌, true, false, List, length, get_or, Result, Ok, Err, is_ok, Less, Equal, Greater, sym, inl, inr, arith, tests}
use Rattle.std.specs.List.Sorted.{IsNonDecreasingBy, IsBinarySearchResult, IsSearchInRange}
use Rattle.std.specs.Ordering.{nat_cmp, ordering_index}
use Rattle.std.proofs.lemmas.Bool.{cases_lt}
use Rattle.std.proofs.lemmas.List.Folds.{list_any_at, list_any_none}
use Rattle.sat_words.specs.declared.shared.Cref.{Cref}
use Rattle.watch_prop.specs.WatchData.{is_among}

alike : (x y : ℕ) → nat_cmp x y ≡ Equal → (x == y) ≡ true
alike x y e = grind (arith, tests)

below : (x y : ℕ) → nat_cmp x y ≡ Less → (x == y) ≡ false
below x y e = grind (arith, tests)

above : (x y : ℕ) → nat_cmp x y ≡ Greater → (x == y) ≡ false
above x y e = grind (arith, tests)

rises : (x y a : ℕ) → x ≤ y → ordering_index (nat_cmp x a) ≤ ordering_index (nat_cmp y a)
rises x y a le = grind (arith, tests)

pub among_found : (xs : List Cref) (a : ℕ) (r : Result ℕ ℕ) → IsNonDecreasingBy (λ (c : Cref). c.address) xs → IsSearchInRange r (length xs) → IsBinarySearchResult (λ (c : Cref). nat_cmp c.address a) xs r → is_ok r ≡ is_among xs a
among_found xs a (Ok i) order lt h =
    let none : Cref = record { address = 0 } in
    sym (list_any_at (λ (c : Cref). c.address == a) xs i none lt (alike (get_or xs i none).address a (h none)))
among_found xs a (Err i) order le h =
    let parts = h (λ j k d before inside. rises (get_or xs j d).address (get_or xs k d).address a (order j k d before inside)) in
    sym (list_any_none (λ (c : Cref). c.address == a) xs (λ k d lt.
    elim (cases_lt k i) as (λ _. ((get_or xs k d).address == a) ≡ false) [
      | inl low ↦ below (get_or xs k d).address a (parts.0 k d (omega arith) low)
      | inr high ↦ above (get_or xs k d).address a (parts.1 k d high lt)
    ]))
