-- Lists read from the front, functions with one value changed, and sums.
use Rattle.std.specs.Prelude.{ℕ, zero, suc, ◌+◌, Bool, ◌==◌, List, [], ◌∷◌, ◌++◌, ⊤, if◌then◌else◌}

-- each entry of the second list stands well after those before it; the first list stands before all of them
abbrev pub EachAfter : {E : Type 0} → (List E → E → Type 0) → List E → List E → Type 0
EachAfter P before [] = ⊤
EachAfter P before (e ∷ es) = P before e × EachAfter P (before ++ e ∷ []) es

-- the function with this value at k
abbrev pub put : {A : Type 0} → (ℕ → A) → ℕ → A → ℕ → A
put f k v j = if j == k then v else f j

-- the sum of f over the numbers below n
abbrev pub below : ℕ → (ℕ → ℕ) → ℕ
below zero f = 0
below (suc n) f = f n + below n f

-- 1 if the test holds, else 0
abbrev pub one_if : Bool → ℕ
one_if b = if b then 1 else 0
