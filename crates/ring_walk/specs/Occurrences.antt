-- Which clauses have which literal, by the literals' codes: the clauses of a code stand next to each other.
use Rattle.std.specs.Prelude.{◌≡◌, ℕ, ◌<◌, ◌≤◌, ◌+◌, ◌*◌, ◌==◌, List, length, take, slice_index}
use Rattle.std.specs.List.{count_by, sum_by}
use Rattle.sat_words.specs.Literal.{Literal, code_of}

-- how many codes the literals on the variables up to this one have, with those of no variable
abbrev pub codes_of : ℕ → ℕ
codes_of vars = 2 * (vars + 1)

-- how often a clause has the literal of a code
abbrev pub times : ℕ → List Literal → ℕ
times x c = count_by (λ l. code_of l == x) c

-- how often the clauses before a place have the literal of a code
abbrev pub rank : List (List Literal) → ℕ → ℕ → ℕ
rank G x j = sum_by (times x) (take j G)

-- each code below the bound has room from where it starts up to where the next starts
pub record AreStarts (codes : ℕ) (starts : List ℕ) (sizes : ℕ → ℕ) : Type 0 where
  pub wide : length starts ≡ codes + 1
  pub next : (x : ℕ) → x < codes → slice_index starts (x + 1) ≡ slice_index starts x + sizes x

-- each clause before a place is named in the room of the literals that it has, after those before it
abbrev pub AreNamed : List (List Literal) → ℕ → List ℕ → List ℕ → ℕ → Type 0
AreNamed G codes starts named i = (x j r : ℕ) → x < codes → j < i → rank G x j ≤ r → r < rank G x (j + 1) → slice_index named (slice_index starts x + r) ≡ j

-- the clauses of each code, one code after another
pub record AreOccurrences (vars : ℕ) (G : List (List Literal)) (starts named : List ℕ) : Type 0 where
  pub spaced : AreStarts (codes_of vars) starts (λ x. rank G x (length G))
  pub ends : slice_index starts (codes_of vars) ≤ length named
  pub each : AreNamed G (codes_of vars) starts named (length G)
