-- Digits that are written three at a time.
use Rattle.std.specs.Prelude.{ℕ, ◌+◌, ◌/◌, ◌%◌, ◌==◌, List, [], ◌∷◌, if◌then◌else◌}

-- the digit at a place of a list that has three digits of each number from 0 on
abbrev pub digit_at : ℕ → ℕ
digit_at place = if place % 3 == 0 then place / 3 / 100 else if place % 3 == 1 then place / 3 / 10 % 10 else place / 3 % 10

-- the bytes of three digits from a place on
abbrev pub window : ℕ → List ℕ
window place = (48 + digit_at place) ∷ (48 + digit_at (place + 1)) ∷ (48 + digit_at (place + 2)) ∷ []

-- the three digits of a number below 1000
abbrev pub three : ℕ → List ℕ
three number = (48 + number / 100) ∷ (48 + number / 10 % 10) ∷ (48 + number % 10) ∷ []
