-- What a clause asks for.
use Rattle.std.specs.Prelude.{◌≡◌, ℕ, Bool, true, List, Option, Contains}
use Rattle.sat_words.specs.Literal.{Literal}
use Rattle.sat_words.specs.Values.{is_true}
use Rattle.rup_model.specs.Rounds.{falsifies}
use Rattle.rup_model.specs.Status.{IsSettled, IsUnit}
use Rattle.simp_base.specs.WorkState.{WorkState}
use Rattle.simp_units.specs.declared.look.Demand.{Demand}
use Rattle.simp_units.specs.declared.look.Demand.TheVariants.{Falsified, Forced, Settled}

-- what the clause asks for is this
abbrev pub IsLook : List (Option Bool) → List Literal → Demand → Type 0
IsLook a c Falsified = falsifies (is_true a) c ≡ true
IsLook a c (Forced l) = IsUnit a c l
IsLook a c Settled = IsSettled a c

-- the clause with this number is alive and falsified
pub record IsFalsifiedAt (w : WorkState) (a : List (Option Bool)) (number : ℕ) : Type 0 where
  pub clause : List Literal
  pub alive : Contains w.clauses (number, clause)
  pub falsified : falsifies (is_true a) clause ≡ true

-- the clause with this number is alive and forces the literal
pub record IsForcedAt (w : WorkState) (a : List (Option Bool)) (number : ℕ) (l : Literal) : Type 0 where
  pub clause : List Literal
  pub alive : Contains w.clauses (number, clause)
  pub unit : IsUnit a clause l

-- the clause with this number, if it is alive, asks for nothing
abbrev pub IsSettledAt : WorkState → List (Option Bool) → ℕ → Type 0
IsSettledAt w a number = (c : List Literal) → Contains w.clauses (number, c) → IsSettled a c

-- what the clause with this number asks for is this
abbrev pub IsLookAt : WorkState → List (Option Bool) → ℕ → Demand → Type 0
IsLookAt w a number Falsified = IsFalsifiedAt w a number
IsLookAt w a number (Forced l) = IsForcedAt w a number l
IsLookAt w a number Settled = IsSettledAt w a number
