-- A walk: its steps, and the best of the assignments that it meets.
use Rattle.std.specs.Prelude.{◌≡◌, ℕ, ◌<◌, ◌≤◌, ◌+◌, ◌-◌, ◌^◌, ◌%◌, min, Bool, false, List, [], ◌∷◌, ◌++◌, length, slice_index, slice_index_or, if◌then◌else◌}
use Rattle.std.specs.List.{sum_by}
use Rattle.rand_pcg.specs.Lcg.{Lcg}
use Rattle.random_bits.specs.Bits.{word_of, rest_of}
use Rattle.sat_words.specs.Literal.{Literal}
use Rattle.sat_words.specs.Truth.{value_of, clause_true}
use Rattle.ring_walk.specs.KeptData.{turned}
use Rattle.ring_walk.specs.WalkData.{WalkData, false_under, broken_under}

-- where a walk stands: its assignment, the false clauses in the walker's own order, and the generator
pub record Stand : Type 0 where
  pub values : List Bool
  pub order : List ℕ
  pub generator : Lcg

-- where a walker stands with a generator
abbrev pub stand_of : WalkData → Lcg → Stand
stand_of w g = record { values = w.values; order = w.order; generator = g }

-- the weight of a literal: none if its variable has a unit, else 2^16, halved for each clause that is true by it alone, up to 16 times
abbrev pub weight_of : List (List Literal) → List Bool → List Bool → Literal → ℕ
weight_of G fixed a l = if value_of fixed l.var then 0 else 2 ^ (16 - min (broken_under G a l.var) 16)

-- the sum of the weights of a clause's literals
abbrev pub whole_weight : List (List Literal) → List Bool → List Bool → List Literal → ℕ
whole_weight G fixed a c = sum_by (weight_of G fixed a) c

-- the clause that a word draws: that at the place of the word, modulo the number of false clauses, in the walker's own order
abbrev pub drawn : List (List Literal) → List ℕ → ℕ → List Literal
drawn G order word = slice_index_or G (slice_index order (word % length order)) []

-- the clause that the next word draws
abbrev pub next_drawn : List (List Literal) → Stand → List Literal
next_drawn G s = drawn G s.order (word_of s.generator)

-- the literal is the first of the clause whose running sum of weights is above a number
pub record IsFirstAbove (f : Literal → ℕ) (c : List Literal) (n : ℕ) (l : Literal) : Type 0 where
  pub before : List Literal
  pub after : List Literal
  pub parts : c ≡ before ++ l ∷ after
  pub passed : sum_by f before ≤ n
  pub reached : n < sum_by f before + f l

-- a variable of the clause without a unit is flipped: that of the literal that the word after the next one draws by the weights
pub record FlipsOne (G : List (List Literal)) (fixed : List Bool) (c : List Literal) (from to : Stand) : Type 0 where
  pub lit : Literal
  pub chosen : IsFirstAbove (weight_of G fixed from.values) c (word_of (rest_of from.generator) % whole_weight G fixed from.values c) lit
  pub free : value_of fixed lit.var ≡ false
  pub values : to.values ≡ turned from.values lit.var
  pub generator : to.generator ≡ rest_of (rest_of from.generator)

-- a step: some clause is false, a false one is drawn, and one of its variables is flipped, or nothing if each of them has a unit
pub record IsStep (G : List (List Literal)) (fixed : List Bool) (from to : Stand) : Type 0 where
  pub some : 0 < length from.order
  pub is_false : clause_true from.values (next_drawn G from) ≡ false
  pub stays : whole_weight G fixed from.values (next_drawn G from) ≡ 0 → to ≡ record from { generator = rest_of from.generator }
  pub flips : 0 < whole_weight G fixed from.values (next_drawn G from) → FlipsOne G fixed (next_drawn G from) from to

-- so many steps one after another, with the count of the best assignment that was met: no other that was met has fewer false clauses
pub record MakesSteps (old : WalkData) (g : Lcg) (made count : ℕ) (new : WalkData) (h : Lcg) : Type 0 where
  pub met : ℕ → Stand
  pub first : met 0 ≡ stand_of old g
  pub last : met made ≡ stand_of new h
  pub each : (k : ℕ) → k < made → IsStep old.clauses old.fixed (met k) (met (k + 1))
  pub same : new ≡ record old { values = new.values; best = new.best; order = new.order }
  pub counted : count ≡ false_under old.clauses new.best
  pub best : (k : ℕ) × (k ≤ made) × (new.best ≡ (met k).values)
  pub least : (k : ℕ) → k ≤ made → count ≤ false_under old.clauses (met k).values

-- a walk of so many steps: all of them are made unless nothing is false before
pub record HasWalked (old : WalkData) (g : Lcg) (steps count : ℕ) (new : WalkData) (h : Lcg) : Type 0 where
  pub made : ℕ
  pub walk : MakesSteps old g made count new h
  pub within : made ≤ steps
  pub early : made < steps → false_under new.clauses new.values ≡ 0
