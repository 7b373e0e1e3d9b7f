-- How many literals of each clause are true.
use Rattle.std.specs.Prelude.{◌≡◌, ℕ, ◌+◌, ◌-◌, ◌≤◌, ◌<◌, ◌^◌, Bool, ◌&&◌, ◌==◌, List, length, slice_index_or}
use Rattle.std.specs.List.{count_by}
use Rattle.ring_walk.specs.declared.tally.Count.{Count}
use Rattle.ring_walk.specs.Listed.{AreListed}

-- no literal is true
abbrev pub is_false : Count → Bool
is_false c = c.trues == 0

-- one literal is true, and it is the variable's
abbrev pub is_by : ℕ → Count → Bool
is_by v c = (c.trues == 1) && (c.sum == v)

-- what contracts see of a tally: up to which variable it is, the count of each clause, and the false clauses in the order of the list
pub record TallyData : Type 0 where
  pub vars : ℕ
  pub counts : List Count
  pub order : List ℕ

-- the count of a clause of which no literal is true
abbrev pub nothing : Count
nothing = record { trues = 0; sum = 0 }

-- the count of the clause at a place
abbrev pub count_at : List Count → ℕ → Count
count_at cs i = slice_index_or cs i nothing

-- the count once a literal of the variable became true
abbrev pub raised : Count → ℕ → Count
raised c v = record { trues = c.trues + 1; sum = c.sum + v }

-- the count once a literal of the variable became false
abbrev pub lowered : Count → ℕ → Count
lowered c v = record { trues = c.trues - 1; sum = c.sum - v }

-- how many clauses are false
abbrev pub falses : TallyData → ℕ
falses t = count_by is_false t.counts

-- how many clauses are true by a literal of the variable alone
abbrev pub broken : TallyData → ℕ → ℕ
broken t v = count_by (is_by v) t.counts

-- a clause without true literals has no sum, and the only true literal of a clause is of a variable
pub record IsCount (vars : ℕ) (c : Count) : Type 0 where
  pub none : c.trues ≡ 0 → c.sum ≡ 0
  pub alone : c.trues ≡ 1 → c.sum ≤ vars

-- the tables are those of the counts: the false clauses with their places, and for each variable the clauses that are true by it alone
pub record AreTables (vars : ℕ) (counts : List Count) (list places broken : List ℕ) : Type 0 where
  pub few : length counts < 2 ^ 32 - 1
  pub wide : length broken ≡ vars + 1
  pub each : (i : ℕ) → i < length counts → IsCount vars (count_at counts i)
  pub listed : AreListed (λ i. is_false (count_at counts i)) (length counts) list places
  pub many : length list ≡ count_by is_false counts
  pub by_one : (v : ℕ) → v ≤ vars → slice_index_or broken v 0 ≡ count_by (is_by v) counts

-- a literal of the variable is among the clause's true ones: alone, or with another one, or with more
pub record CanLower (vars : ℕ) (c : Count) (v : ℕ) : Type 0 where
  pub some : 1 ≤ c.trues
  pub within : v ≤ c.sum
  pub alone : c.trues ≡ 1 → c.sum ≡ v
  pub two : c.trues ≡ 2 → c.sum ≤ v + vars
