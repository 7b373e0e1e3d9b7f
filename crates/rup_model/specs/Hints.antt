-- Hints: numbers of clauses that show one after another, by unit propagation, that a clause follows. A set of literals is here its test.
use Rattle.std.specs.Prelude.{◌≡◌, ℕ, Bool, true, false, not, ◌&&◌, ◌||◌, ◌==◌, List, [], ◌∷◌, map, Option, Some, None, if◌then◌else◌}
use Rattle.std.specs.List.{find, list_all}
use Rattle.std.specs.Option.{option_map, option_and_then, option_map_or}
use Rattle.sat_words.specs.Literal.{Literal, opposite, same}
use Rattle.sat_words.specs.Clause.{has}
use Rattle.rup_model.specs.Rounds.{falsifies}

-- clauses by their numbers
abbrev pub Numbered : Type 0
Numbered = ℕ → Option (List Literal)

-- those of a list: of two with one number the first
abbrev pub numbered : List (ℕ × List Literal) → Numbered
numbered cs n = option_map (λ p. p.1) (find (λ p. p.0 == n) cs)

-- the set with one literal more
abbrev pub with_lit : Literal → (Literal → Bool) → Literal → Bool
with_lit l A k = same k l || A k

-- the literal, if it isn't true and the negations of all others of the clause are in the set
abbrev pub if_forced : (Literal → Bool) → List Literal → Literal → Option Literal
if_forced A c l = if not (A l) && list_all (λ k. same l k || A (opposite k)) c then Some l else None

-- the only literal of the clause that isn't false, if there is just one and it isn't true
abbrev pub forced : (Literal → Bool) → List Literal → Option Literal
forced A c = option_and_then (if_forced A c) (find (λ l. not (A (opposite l))) c)

-- from a set of literals: each number but the last names a clause with exactly one literal that isn't false, which isn't true yet and
-- becomes true; the last names a clause whose literals are all false
unfoldable pub hinted_from : Numbered → (Literal → Bool) → List ℕ → Bool
hinted_from at A [] = false
hinted_from at A (n ∷ []) = option_map_or (falsifies A) (at n) false
hinted_from at A (n ∷ m ∷ ns) = option_map_or (λ l. hinted_from at (with_lit l A) (m ∷ ns)) (option_and_then (forced A) (at n)) false

-- so the numbers show that the clause follows
abbrev pub hinted : Numbered → List Literal → List ℕ → Bool
hinted at c ns = hinted_from at (has (map opposite c)) ns

-- what hints have to show: in a log with hints, that the clause follows; in other logs there are none
abbrev pub HintsFit : Bool → Numbered → List Literal → List ℕ → Type 0
HintsFit true at c ns = hinted at c ns ≡ true
HintsFit false at c ns = ns ≡ []
