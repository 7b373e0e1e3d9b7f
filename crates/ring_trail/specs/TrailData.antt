-- A trail: the literals that are true, in the order in which they became so. A place is an index among its steps.
use Rattle.std.specs.Prelude.{◌≡◌, ℕ, ◌+◌, ◌<◌, ◌≤◌, ◌^◌, ◌++◌, min, Bool, true, false, not, nat_eq, nat_le, nat_lt, List, [], ◌∷◌, Option, None, length, filter, All}
use Rattle.std.specs.List.{find, slice_index_or}
use Rattle.std.specs.Option.{option_map, option_and_then}
use Rattle.sat_words.specs.Literal.{Literal, opposite}
use Rattle.sat_words.specs.Clause.{has}
use Rattle.sat_words.specs.declared.shared.Cref.{Cref}
use Rattle.ring_trail.specs.declared.step.TrailStep.{TrailStep}

-- for the variables from 1 to `vars`: the present level, the steps, and how many of the first of them were propagated
pub record TrailData : Type 0 where
  pub vars : ℕ
  pub level : ℕ
  pub steps : List TrailStep
  pub done : ℕ

-- the step at a place beyond the end
abbrev pub no_step : TrailStep
no_step = record { lit = record { var = 0; neg = false }; level = 0; reason = None }

-- the step at a place
abbrev pub step_at : List TrailStep → ℕ → TrailStep
step_at steps p = slice_index_or steps p no_step

-- the literal at a place
abbrev pub lit_at : List TrailStep → ℕ → Literal
lit_at steps p = (step_at steps p).lit

-- the variable of the literal at a place
abbrev pub var_at : List TrailStep → ℕ → ℕ
var_at steps p = (step_at steps p).lit.var

-- the level of the literal at a place
abbrev pub level_at : List TrailStep → ℕ → ℕ
level_at steps p = (step_at steps p).level

-- the clause that forced the literal at a place
abbrev pub reason_at : List TrailStep → ℕ → Option Cref
reason_at steps p = (step_at steps p).reason

-- the variable's literal stands there
pub record IsPlaceOf (steps : List TrailStep) (v p : ℕ) : Type 0 where
  pub in_range : p < length steps
  pub var : var_at steps p ≡ v

-- no literal of the variable is true
abbrev pub HasNoPlace : List TrailStep → ℕ → Type 0
HasNoPlace steps v = (p : ℕ) → p < length steps → var_at steps p ≡ v → ⊥

-- the step of a variable
abbrev pub step_of : List TrailStep → ℕ → Option TrailStep
step_of steps v = find (λ s. nat_eq s.lit.var v) steps

-- the value of a variable
abbrev pub value_of : List TrailStep → ℕ → Option Bool
value_of steps v = option_map (λ s. not s.lit.neg) (step_of steps v)

-- the level of a variable
abbrev pub level_of : List TrailStep → ℕ → Option ℕ
level_of steps v = option_map (λ s. s.level) (step_of steps v)

-- the clause that forced a variable
abbrev pub reason_of : List TrailStep → ℕ → Option Cref
reason_of steps v = option_and_then (λ s. s.reason) (step_of steps v)

-- the literal is true, and became so before this place
pub record TrueBefore (steps : List TrailStep) (n : ℕ) (l : Literal) : Type 0 where
  pub place : ℕ
  pub before : place < n
  pub true_there : lit_at steps place ≡ l

-- the literal is false, and became so before this place
pub record FalseBefore (steps : List TrailStep) (n : ℕ) (l : Literal) : Type 0 where
  pub place : ℕ
  pub before : place < n
  pub false_there : lit_at steps place ≡ opposite l

-- the literal is true on the trail
abbrev pub IsTrueOn : List TrailStep → Literal → Type 0
IsTrueOn steps l = TrueBefore steps (length steps) l

-- the literal is false on the trail
abbrev pub IsFalseOn : List TrailStep → Literal → Type 0
IsFalseOn steps l = FalseBefore steps (length steps) l

-- each literal of the clause is false on the trail
abbrev pub IsFalseClause : List TrailStep → List Literal → Type 0
IsFalseClause steps c = (l : Literal) → has c l ≡ true → IsFalseOn steps l

-- the steps up to a level
abbrev pub up_to : ℕ → List TrailStep → List TrailStep
up_to k steps = filter (λ s. nat_le s.level k) steps

-- where a level starts: after the steps of lower levels
abbrev pub start_of : List TrailStep → ℕ → ℕ
start_of steps k = length (filter (λ s. nat_lt s.level k) steps)

-- the trail with one more step, whose level is the present one from then on
abbrev pub grown : TrailData → TrailStep → TrailData
grown t s = record t { level = s.level; steps = t.steps ++ s ∷ [] }

-- the trail with a literal at a level of its own
abbrev pub decided : TrailData → Literal → TrailData
decided t l = grown t (record { lit = l; level = t.level + 1; reason = None })

-- the trail with a literal at the present level
abbrev pub assigned : TrailData → Literal → Option Cref → TrailData
assigned t l r = grown t (record { lit = l; level = t.level; reason = r })

-- the trail with exactly the levels up to k
abbrev pub cut_back : TrailData → ℕ → TrailData
cut_back t k = record t { level = k; steps = up_to k t.steps; done = min t.done (length (up_to k t.steps)) }

-- what holds of every trail
pub record IsTrail (t : TrailData) : Type 0 where
  -- levels do not fall, and none is above the present one
  pub rising : (p q : ℕ) → p ≤ q → q < length t.steps → level_at t.steps p ≤ level_at t.steps q
  pub within : (p : ℕ) → p < length t.steps → level_at t.steps p ≤ t.level
  -- each level from 1 to the present one has a step
  pub opened : (k : ℕ) → k < t.level → (p : ℕ) × (p < length t.steps) × (level_at t.steps p ≡ k + 1)
  -- so a level is at most one more than the place
  pub shallow : (p : ℕ) → p < length t.steps → level_at t.steps p ≤ p + 1
  pub levels : t.level ≤ length t.steps
  -- no variable stands twice, and each is one of the trail's
  pub distinct : (p q : ℕ) → p < length t.steps → q < length t.steps → var_at t.steps p ≡ var_at t.steps q → p ≡ q
  pub low : (p : ℕ) → p < length t.steps → 1 ≤ var_at t.steps p
  pub high : (p : ℕ) → p < length t.steps → var_at t.steps p ≤ t.vars
  pub short : length t.steps ≤ t.vars
  pub small : t.vars ≤ 2 ^ 30
  pub done : t.done ≤ length t.steps

-- the first step that wasn't propagated has this literal
pub record IsNext (t : TrailData) (l : Literal) : Type 0 where
  pub open_yet : t.done < length t.steps
  pub lit : lit_at t.steps t.done ≡ l

-- the trail has grown, if at all, by literals at its present level; more of it may be propagated
pub record HasGrown (t u : TrailData) : Type 0 where
  pub vars : u.vars ≡ t.vars
  pub level : u.level ≡ t.level
  pub more : List TrailStep
  pub steps : u.steps ≡ t.steps ++ more
  pub at_level : All (λ (s : TrailStep). s.level ≡ t.level) more
