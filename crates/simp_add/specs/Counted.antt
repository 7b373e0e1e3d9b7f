-- In how many common sets each literal is the second one.
use Rattle.std.specs.Prelude.{◌≡◌, ℕ, ◌+◌, ◌<◌, ◌≤◌, ◌==◌, ◌^◌, Bool, not, ◌&&◌, nat_lt, List, [], ◌∷◌, ◌++◌, length, Contains, Option, Some, None, if◌then◌else◌}
use Rattle.std.specs.List.{list_any, filter_map, slice_index_or}
use Rattle.sat_words.specs.Literal.{Literal, opposite, same, code_of}
use Rattle.sat_words.specs.Clause.{has}
use Rattle.simp_base.specs.WorkState.{WorkState}
use Rattle.simp_add.specs.Common.{common_at}
use Rattle.simp_add.specs.declared.alike.Alike.{Alike}
use Rattle.simp_add.specs.declared.tally.Count.{Count}

-- no set was counted
abbrev pub nothing : Count
nothing = record { sets = 0; stamp = 0 }

-- the count of a literal
abbrev pub count_of : List Count → Literal → Count
count_of cs l = slice_index_or cs (code_of l) nothing

-- one set more, unless the one with this stamp was counted before
abbrev pub raised : Count → ℕ → Count
raised c stamp = if c.stamp == stamp then c else record { sets = c.sets + 1; stamp = stamp }

-- nothing is counted
abbrev pub IsClear : List Count → Type 0
IsClear cs = (j : Literal) → count_of cs j ≡ nothing

-- the literal is of greater code than the first one, and its negation is not in the set
abbrev pub may_pair : Literal → List Literal → Literal → Bool
may_pair l C j = nat_lt (code_of l) (code_of j) && not (has C (opposite j))

-- it is one of those by which the clauses go beyond the set
abbrev pub is_paired : Literal → List Literal → List Alike → Literal → Bool
is_paired l C found j = may_pair l C j && list_any (λ a. same a.lit j) found

-- the literals that such clauses have are counted once more, and no others
abbrev pub Raised : Literal → List Literal → ℕ → List Alike → List Count → List Count → Type 0
Raised l C stamp found old new = (j : Literal) → count_of new j ≡ (if is_paired l C found j then raised (count_of old j) stamp else count_of old j)

-- each literal that was counted is listed; those listed are of greater code than the first one
pub record AreTouched (l : Literal) (cs : List Count) (touched : List Literal) : Type 0 where
  pub every : (j : Literal) → 1 ≤ (count_of cs j).sets → Contains touched j
  pub clear : (j : Literal) → (count_of cs j).sets ≡ 0 → count_of cs j ≡ nothing
  pub after : (j : Literal) → Contains touched j → code_of l < code_of j
  pub within : (j : Literal) → Contains touched j → code_of j < length cs

-- each count can be raised
abbrev pub HasRoom : List Count → Type 0
HasRoom cs = (j : Literal) → (count_of cs j).sets + 1 < 2 ^ 64

-- the clauses with these numbers were counted: each literal of greater code has the common sets that count at them
abbrev pub AreCounted : WorkState → Literal → List ℕ → List Count → Type 0
AreCounted w l ns cs = (j : Literal) → code_of l < code_of j → (count_of cs j).sets ≡ length (filter_map (common_at w.clauses l j) ns)

-- the clause of this number was counted, unless it has nothing in common: stamps are of numbers up to it
pub record CountedOne (w : WorkState) (l : Literal) (n : ℕ) (old new : List Count) : Type 0 where
  pub sets : (j : Literal) → code_of l < code_of j → (count_of new j).sets ≡ (count_of old j).sets + length (filter_map (common_at w.clauses l j) (n ∷ []))
  pub stamps : (j : Literal) → (bound : ℕ) → (count_of old j).stamp ≤ bound → n + 1 ≤ bound → (count_of new j).stamp ≤ bound
  pub few : (j : Literal) → (count_of new j).sets ≤ (count_of old j).sets + 1
  pub wide : length new ≡ length old

-- the best of the literals counted: with the most sets, at least three, and among these of least code; or none has three
abbrev pub IsBest : List Count → List Literal → Option Literal → Type 0
IsBest cs touched (Some k) = Contains touched k × (3 ≤ (count_of cs k).sets)
    × ((j : Literal) → Contains touched j → (count_of cs j).sets ≤ (count_of cs k).sets)
    × ((j : Literal) → Contains touched j → code_of j < code_of k → (count_of cs j).sets < (count_of cs k).sets)
IsBest cs touched None = (j : Literal) → Contains touched j → (count_of cs j).sets < 3

-- of the best one so far and one more literal the better one: that with more sets, at least three; among equals that of less code
abbrev pub IsBetter : List Count → Option Literal → Literal → Option Literal → Type 0
IsBetter cs best j result = (touched : List Literal) → IsBest cs touched best → IsBest cs (touched ++ j ∷ []) result
