-- The addresses of reasons.
use Rattle.std.proofs.Common.{◌≡◌, ◌∙◌, ◌||◌, ◌==◌, ℕ, zero, suc, ◌<◌, ◌≤◌, ◌+◌, Bool, true, false, List, [], ◌∷◌, ◌++◌, length, take, get_or, Option, Some, None, Result, Ok, Err, is_ok, sym, refl, ap, subst, inl, inr, arith}
use Rattle.std.specs.Prelude.{MatchResult}
use Rattle.std.specs.List.{list_any, filter_map}
use Rattle.std.specs.List.Sorted.{IsNonDecreasing, IsPermutation, IsBinarySearchResult}
use Rattle.std.specs.Option.{option_map}
use Rattle.std.specs.Ordering.{nat_cmp}
use Rattle.std.proofs.lemmas.List.{take_more}
use Rattle.std.proofs.lemmas.List.Elements.{filter_map-append}
use Rattle.std.proofs.lemmas.List.Folds.{list_any_at, list_any_none}
use Rattle.std.proofs.lemmas.List.Sorted.{searched, list_any-IsPermutation}
use Rattle.std.proofs.lemmas.Bool.{cases_lt}
use Rattle.std.proofs.lemmas.Bool.Decides.{nat_tests}
use Rattle.sat_words.specs.declared.shared.Cref.{Cref}
use Rattle.ring_trail.specs.declared.step.TrailStep.{TrailStep}
use Rattle.ring_trail.specs.TrailData.{no_step, reason_at}
use Rattle.reduce_db.specs.Choice.{is_reason}
use Rattle.reduce_db.specs.Ranking.{AreReasons}

-- the address of a step's reason
abbrev pub mark : TrailStep → Option ℕ
mark s = option_map (λ (c : Cref). c.address) s.reason

-- the addresses of the reasons, in the order of the steps
abbrev pub marks : List TrailStep → List ℕ
marks steps = filter_map mark steps

pub marks_all : (steps : List TrailStep) (a : ℕ) → list_any (λ x. x == a) (marks steps) ≡ is_reason steps a
marks_all [] a = refl
marks_all (s ∷ steps) a = by s.reason refl (marks_all steps a)
  where
    by : (r : Option Cref) → s.reason ≡ r → list_any (λ x. x == a) (marks steps) ≡ is_reason steps a → list_any (λ x. x == a) (marks (s ∷ steps)) ≡ is_reason (s ∷ steps) a
    by None e h = rw e h
    by (Some c) e h = rw e (ap (λ (b : Bool). (c.address == a) || b) h)

pub marks_none : (steps : List TrailStep) (i : ℕ) → i < length steps → reason_at steps i ≡ None → marks (take (i + 1) steps) ≡ marks (take i steps)
marks_none steps i lt e =
    ap marks (take_more steps i no_step lt) ∙ filter_map-append mark (take i steps) (get_or steps i no_step ∷ [])
    ∙ (rw e (Rattle.std.proofs.Common.append-nil (marks (take i steps))))

pub marks_some : (steps : List TrailStep) (i : ℕ) (c : Cref) → i < length steps → reason_at steps i ≡ Some c → marks (take (i + 1) steps) ≡ marks (take i steps) ++ c.address ∷ []
marks_some steps i c lt e =
    ap marks (take_more steps i no_step lt) ∙ filter_map-append mark (take i steps) (get_or steps i no_step ∷ [])
    ∙ (rw e refl)

none_there : (y x : ℕ) → (y < x) → (y == x) ≡ false
none_there y x lt = grind (arith, nat_tests)

none_above : (y x : ℕ) → (x < y) → (y == x) ≡ false
none_above y x lt = grind (arith, nat_tests)

here : (y x : ℕ) → y ≡ x → (y == x) ≡ true
here y x e = grind (arith, nat_tests)

found_is : (xs : List ℕ) (x : ℕ) (r : Result ℕ ℕ) → MatchResult r (λ i. (i < length xs) × (get_or xs i 0 ≡ x)) (λ i. (i ≤ length xs) × ((k : ℕ) → k < i → get_or xs k 0 < x) × ((k : ℕ) → i ≤ k → k < length xs → x < get_or xs k 0))
    → is_ok r ≡ list_any (λ y. y == x) xs
found_is xs x (Ok i) h = sym (list_any_at (λ y. y == x) xs i 0 h.0 (here (get_or xs i 0) x h.1))
found_is xs x (Err i) h = sym (list_any_none (λ y. y == x) xs (λ k d lt.
    subst (λ (y : ℕ). (y == x) ≡ false) (Rattle.std.proofs.lemmas.List.get_or_default xs k 0 d lt)
    (elim (cases_lt k i) as (λ _. (get_or xs k 0 == x) ≡ false) [
      | inl low ↦ none_there (get_or xs k 0) x (h.1 k low)
      | inr high ↦ none_above (get_or xs k 0) x (h.2 k high lt)
    ])))

pub search_tells : (xs : List ℕ) (x : ℕ) (r : Result ℕ ℕ) → IsNonDecreasing xs → IsBinarySearchResult (λ y. nat_cmp y x) xs r → is_ok r ≡ list_any (λ y. y == x) xs
search_tells xs x r rising h = found_is xs x r (searched xs x r h (λ i j le lt. rising i j 0 le lt))

pub reasons_are : (steps : List TrailStep) (sorted : List ℕ) → IsPermutation (marks steps) sorted → IsNonDecreasing sorted → AreReasons steps sorted
reasons_are steps sorted p rising = record {
  rising = rising;
  all = λ a. sym (list_any-IsPermutation (λ x. x == a) (marks steps) sorted p) ∙ marks_all steps a;
}
