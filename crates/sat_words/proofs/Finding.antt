-- The first element that passes a test, place by place.
use Rattle.std.proofs.Common.{◌≡◌, ℕ, zero, suc, ◌+◌, ◌<◌, Bool, true, false, List, [], ◌∷◌, length, get_or, refl, ap, ◌∙◌, arith, None, Some, cond}
use Rattle.std.specs.List.{find}
use mathlib.Core.Logic.{dite}
use native.Mathlib.Decide.{ℕ_discrete}

-- none before the place passes, and the one there does
pub found : {X : Type 0} (p : X → Bool) (xs : List X) (n : ℕ) (d : X) → ((i : ℕ) → i < n → p (get_or xs i d) ≡ false) → n < length xs → p (get_or xs n d) ≡ true → find p xs ≡ Some (get_or xs n d)
found p [] n d none lt here = absurd (omega arith)
found p (x ∷ xs) zero d none lt here = ap (λ b. cond b (Some x) (find p xs)) here
found p (x ∷ xs) (suc n) d none lt here = ap (λ b. cond b (Some x) (find p xs)) (none 0 (omega arith)) ∙ found p xs n d (λ i l. none (suc i) (omega arith)) (omega arith) here

-- none passes
pub none_found : {X : Type 0} (p : X → Bool) (xs : List X) (d : X) → ((i : ℕ) → i < length xs → p (get_or xs i d) ≡ false) → find p xs ≡ None
none_found p [] d none = refl
none_found p (x ∷ xs) d none = ap (λ b. cond b (Some x) (find p xs)) (none 0 (omega arith)) ∙ none_found p xs d (λ i l. none (suc i) (omega arith))

-- none before the place passes, nor the one there
pub none_more : {X : Type 0} (p : X → Bool) (xs : List X) (d : X) (n : ℕ) → ((i : ℕ) → i < n → p (get_or xs i d) ≡ false) → p (get_or xs n d) ≡ false → (i : ℕ) → i < n + 1 → p (get_or xs i d) ≡ false
none_more p xs d n none here i lt = dite (ℕ_discrete i n) (λ e. ap (λ (k : ℕ). p (get_or xs k d)) e ∙ here) (λ ne. none i (omega arith))
