-- What a trail has to do with plain rounds of unit propagation over some clauses, from some literals.
use Rattle.std.specs.Prelude.{◌≡◌, ℕ, ◌<◌, ◌&&◌, true, ◌⊎◌, nat_lt, is_none, List, [], ◌∷◌, ◌++◌, map, filter, length, Contains, Some}
use Rattle.sat_words.specs.Literal.{Literal}
use Rattle.sat_words.specs.Clause.{has}
use Rattle.ring_trail.specs.declared.step.TrailStep.{TrailStep}
use Rattle.ring_trail.specs.TrailData.{IsTrueOn, IsFalseClause, HasNoPlace, lit_at, up_to}
use Rattle.ring_trail.specs.Reasoned.{Held, ForcesAt, WasUnit}

-- the literals that were decided, in order: those above level 0 without a reason
abbrev pub decisions_of : List TrailStep → List Literal
decisions_of steps = map (λ s. s.lit) (filter (λ s. is_none s.reason && nat_lt 0 s.level) steps)

-- the literals that are true at level 0, in order
abbrev pub fixed_of : List TrailStep → List Literal
fixed_of steps = map (λ s. s.lit) (up_to 0 steps)

-- the clauses, and each of the literals as a clause of its own
abbrev pub with_units : List (List Literal) → List Literal → List (List Literal)
with_units cs units = cs ++ map (λ l. l ∷ []) units

-- each clause that is held is one of these
abbrev pub HeldAmong : Held → List (List Literal) → Type 0
HeldAmong held cs = (a : ℕ) (c : List Literal) → held a ≡ Some c → Contains cs c

-- each of the literals is true on the trail
abbrev pub AllTrueOn : List TrailStep → List Literal → Type 0
AllTrueOn steps A = (l : Literal) → has A l ≡ true → IsTrueOn steps l

-- a clause of G was unit when the literal at this place became true
pub record IsImplied (G : List (List Literal)) (steps : List TrailStep) (p : ℕ) : Type 0 where
  pub clause : List Literal
  pub member : Contains G clause
  pub unit : WasUnit steps p clause

-- each literal of the trail is one of A, or a clause of G was unit when it became true
abbrev pub IsDerived : List (List Literal) → List Literal → List TrailStep → Type 0
IsDerived G A steps = (p : ℕ) → p < length steps → (has A (lit_at steps p) ≡ true) ⊎ IsImplied G steps p

-- a literal of the clause has no value, and its others are false
pub record IsUnitNow (steps : List TrailStep) (c : List Literal) : Type 0 where
  pub lit : Literal
  pub free : HasNoPlace steps lit.var
  pub forces : ForcesAt steps (length steps) lit c

-- propagation isn't at its end: a clause of G is false on the trail, or is unit on it
pub record IsUnfinished (G : List (List Literal)) (steps : List TrailStep) : Type 0 where
  pub clause : List Literal
  pub member : Contains G clause
  pub false_or_unit : IsFalseClause steps clause ⊎ IsUnitNow steps clause
