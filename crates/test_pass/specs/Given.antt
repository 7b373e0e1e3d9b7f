-- What the rings of the tests do if they give a clause up.
use Rattle.std.specs.Prelude.{ℕ, length, Option}
use Rattle.sat_words.specs.Literal.{Literal}
use Rattle.rup_model.specs.declared.journal.Kind.TheVariants.{UnitLine}
use Rattle.ring_port.specs.PortState.{PortState}
use Rattle.ring_port.specs.Port.{WroteUnit, Took}
use Rattle.ring_port.specs.Deleting.{DroppedOnce, TidiedUpTo}
use Rattle.test_pass.specs.Samples.{plus}

-- the clause was given up, and then all that waited was deleted
pub record GaveUp (old new : PortState) (a : ℕ) : Type 0 where
  pub middle : PortState
  pub dropped : DroppedOnce old middle a
  pub tidied : TidiedUpTo middle new (length middle.waiting)

-- and then the unit 2 was written
pub record GaveAndWrote (old new : PortState) (a : ℕ) : Type 0 where
  pub middle : PortState
  pub gave : GaveUp old middle a
  pub wrote : WroteUnit middle new (plus 2) UnitLine middle.last

-- and then the ring was asked twice for a unit
pub record GaveAndTook (old new : PortState) (a : ℕ) (first second : Option Literal) : Type 0 where
  pub middle : PortState
  pub between : PortState
  pub gave : GaveUp old middle a
  pub took_first : Took middle between first
  pub took_second : Took between new second
