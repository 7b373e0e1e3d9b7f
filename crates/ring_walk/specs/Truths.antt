-- What a tally has to do with the literals that are true. A set of literals is here its test.
use Rattle.std.specs.Prelude.{◌≡◌, ◌≢◌, ℕ, ◌<◌, ◌≤◌, Bool, true, false, not, ◌&&◌, ◌||◌, ◌==◌, List, [], ◌∷◌, length, map, slice_index_or, if◌then◌else◌}
use Rattle.std.specs.List.{count_by, sum_by, list_any, All}
use Rattle.sat_words.specs.Literal.{Literal, IsOn, opposite, same}
use Rattle.sat_words.specs.Clause.{has, distinct_lits}
use Rattle.ring_walk.specs.declared.tally.Count.{Count}
use Rattle.ring_walk.specs.Tally.{TallyData}

-- what a true literal adds to the sum
abbrev pub share : (Literal → Bool) → Literal → ℕ
share T l = if T l then l.var else 0

-- how many of the clause's literals are in the set, and the sum of their variables
abbrev pub count_of : (Literal → Bool) → List Literal → Count
count_of T c = record { trues = count_by T c; sum = sum_by (share T) c }

-- the counts of all clauses
abbrev pub counts_of : (Literal → Bool) → List (List Literal) → List Count
counts_of T G = map (count_of T) G

-- the set with one literal more
abbrev pub with_lit : Literal → (Literal → Bool) → Literal → Bool
with_lit l T k = same k l || T k

-- the set without one literal
abbrev pub without_lit : Literal → (Literal → Bool) → Literal → Bool
without_lit l T k = T k && not (same k l)

-- just one of the clause's literals is in the set, and it is the variable's
abbrev pub is_sole : (Literal → Bool) → ℕ → List Literal → Bool
is_sole T v c = (count_by T c == 1) && list_any (λ l. T l && (l.var == v)) c

-- the number is in the list
abbrev pub is_in : List ℕ → ℕ → Bool
is_in [] i = false
is_in (x ∷ xs) i = (x == i) || is_in xs i

-- no number stands twice
abbrev pub IsOnce : List ℕ → Type 0
IsOnce xs = (j k : ℕ) → j < k → k < length xs → slice_index_or xs j 0 ≢ slice_index_or xs k 0

-- the list names the clauses that have the literal
abbrev pub Names : List (List Literal) → Literal → List ℕ → Type 0
Names G l xs = (i : ℕ) → i < length G → is_in xs i ≡ has (slice_index_or G i []) l

-- the set once the literal is in it and its negation is not
abbrev pub flipped : Literal → (Literal → Bool) → Literal → Bool
flipped l T = without_lit (opposite l) (with_lit l T)

-- the tally is of these clauses and true literals, and the literal, of this variable, is false and its negation true
pub record IsFlip (t : TallyData) (up down : List ℕ) (var : ℕ) (G : List (List Literal)) (T : Literal → Bool) (l : Literal) : Type 0 where
  pub counts : t.counts ≡ counts_of T G
  pub var_is : l.var ≡ var
  pub on : All (All (IsOn t.vars)) G
  pub in_range : var ≤ t.vars
  pub distinct : (i : ℕ) → i < length G → distinct_lits (slice_index_or G i []) ≡ true
  pub up_low : (k : ℕ) → k < length up → slice_index_or up k 0 < length G
  pub down_low : (k : ℕ) → k < length down → slice_index_or down k 0 < length G
  pub up_once : IsOnce up
  pub down_once : IsOnce down
  pub up_names : Names G l up
  pub down_names : Names G (opposite l) down
  pub was_false : T l ≡ false
  pub was_true : T (opposite l) ≡ true
