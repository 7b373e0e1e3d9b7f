-- What propagation asks for, and what it comes to.
use Rattle.std.specs.Prelude.{◌≡◌, ℕ, ◌<◌, ◌==◌, if◌then◌else◌, List, Contains, Option, None, length}
use Rattle.std.specs.List.{list_any}
use Rattle.sat_words.specs.Literal.{Literal}
use Rattle.sat_words.specs.declared.shared.Cref.{Cref}
use Rattle.ring_port.specs.PortState.{PortState, clause_at}
use Rattle.ring_trail.specs.declared.step.TrailStep.{TrailStep}
use Rattle.ring_trail.specs.TrailData.{TrailData, IsFalseClause}
use Rattle.ring_trail.specs.Reasoned.{IsReasoned}
use Rattle.ring_trail.specs.Closed.{IsClosed}
use Rattle.watch_prop.specs.declared.propagated.Propagated.{Propagated}
use Rattle.watch_prop.specs.declared.propagated.Propagated.TheVariants.{Quiet, Conflict}
use Rattle.watch_prop.specs.WatchData.{WatchData, Lits, attached, clauses_of}

-- the clause at an address, if one is attached and held there
abbrev pub attached_at : List Cref → PortState → ℕ → Option (List Literal)
attached_at cs s a = if list_any (λ (c : Cref). c.address == a) cs then clause_at s a else None

-- each literal that wasn't decided has a reason that is attached, held and was unit, or is at level 0 with its unit seen
abbrev pub HasReasons : List Cref → PortState → List TrailStep → Type 0
HasReasons cs s steps = IsReasoned (attached_at cs s) s.seen steps

-- each attached clause is closed at each level below the present one
abbrev pub IsClosedBelow : WatchData → Lits → TrailData → Type 0
IsClosedBelow w lits t = (k : ℕ) → k < t.level → IsClosed (clauses_of w lits) t.steps k

-- an attached clause is false
pub record IsConflict (w : WatchData) (lits : Lits) (t : TrailData) (c : Cref) : Type 0 where
  pub member : Contains (attached w) c
  pub false_all : IsFalseClause t.steps (lits c.address)

-- all steps are propagated, and each attached clause is closed at each level
pub record IsQuiet (w : WatchData) (lits : Lits) (t : TrailData) : Type 0 where
  pub done : t.done ≡ length t.steps
  pub closed : (k : ℕ) → IsClosed (clauses_of w lits) t.steps k

-- no clause waits for its watches to be chosen
abbrev pub NoneWaits : WatchData → Type 0
NoneWaits w = w.settled ≡ length w.slots

-- what propagation came to
abbrev pub IsPropagated : WatchData → Lits → TrailData → Propagated → Type 0
IsPropagated w lits t Quiet = IsQuiet w lits t
IsPropagated w lits t (Conflict c) = IsConflict w lits t c
