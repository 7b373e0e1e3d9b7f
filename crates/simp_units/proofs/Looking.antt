-- What a look at the clause with a number shows.
use Rattle.std.proofs.Common.{ℕ, List, subst, Option, Bool, Contains}
use Rattle.sat_words.specs.Literal.{Literal}
use Rattle.rup_model.specs.Status.{IsSettled}
use Rattle.simp_base.specs.WorkState.{WorkState, IsWork}
use Rattle.simp_base.proofs.Removal.{same_number}
use Rattle.simp_units.specs.declared.look.Demand.{Demand}
use Rattle.simp_units.specs.declared.look.Demand.TheVariants.{Falsified, Forced, Settled}
use Rattle.simp_units.specs.Demand.{IsLook, IsLookAt}

pub look_is : (w : WorkState) (a : List (Option Bool)) (number : ℕ) (c : List Literal) → IsWork w → Contains w.clauses (number, c) → (r : Demand) → IsLook a c r → IsLookAt w a number r
look_is w a number c kept alive Falsified h = record { clause = c; alive = alive; falsified = h }
look_is w a number c kept alive (Forced l) h = record { clause = c; alive = alive; unit = h }
look_is w a number c kept alive Settled h = λ d i. subst (IsSettled a) (same_number w.clauses kept.numbers number c d alive i) h
