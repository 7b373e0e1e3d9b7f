-- Lemmas that may be dropped, in the order in which they are kept.
use Rattle.std.specs.Prelude.{◌≡◌, ◌≢◌, ℕ, ◌/◌, ◌==◌, not, Bool, false, if◌then◌else◌, List, [], ◌∷◌, length, All, Option, Some, None, ⊤}
use Rattle.std.specs.List.{filter_map, list_any, filter}
use Rattle.std.specs.List.Sorted.{IsNonDecreasing}
use Rattle.std.specs.Ordering.{is_lt, ordering_then, nat_cmp}
use Rattle.sat_words.specs.declared.shared.Cref.{Cref}
use Rattle.sat_words.specs.declared.shared.Head.{Head}
use Rattle.ring_port.specs.PortState.{PortState}
use Rattle.ring_trail.specs.declared.step.TrailStep.{TrailStep}
use Rattle.reduce_db.specs.Choice.{head_at, is_reason, is_droppable}
use Rattle.reduce_db.specs.declared.candidate.Candidate.{Candidate}

-- by glue, size and number, and then by address, so that no two are alike
abbrev pub ranks_before : Candidate → Candidate → Bool
ranks_before x y = is_lt (ordering_then (nat_cmp x.glue y.glue) (ordering_then (nat_cmp x.size y.size) (ordering_then (nat_cmp x.number y.number) (nat_cmp x.address y.address))))

-- a clause with this head at this address
abbrev pub candidate_with : Head → ℕ → Candidate
candidate_with h a = record { glue = h.glue; size = h.size; number = h.number; address = a }

-- the lemma as a candidate, if it may be dropped
abbrev pub candidate_of : PortState → List TrailStep → Cref → Option Candidate
candidate_of s steps c = if is_droppable s steps c then Some (candidate_with (head_at s c.address) c.address) else None

-- those that are candidates
abbrev pub only_some : List (Option Candidate) → List Candidate
only_some cs = filter_map (λ c. c) cs

-- no two are at the same address
abbrev pub AreSpread : List Candidate → Type 0
AreSpread [] = ⊤
AreSpread (x ∷ xs) = All (λ (y : Candidate). y.address ≢ x.address) xs × AreSpread xs

-- a candidate is dropped if it isn't before the first that is; if there is no first none is
abbrev pub is_dropped : Option Candidate → Option Candidate → Bool
is_dropped None c = false
is_dropped (Some first) None = false
is_dropped (Some first) (Some c) = not (ranks_before c first)

-- from the first on it is half of the candidates, rounded down
abbrev pub IsHalf : List Candidate → Option Candidate → Type 0
IsHalf cs first = length (filter (λ c. is_dropped first (Some c)) cs) ≡ length cs / 2

-- the addresses in order, each a reason's, and each reason's among them
pub record AreReasons (steps : List TrailStep) (addresses : List ℕ) : Type 0 where
  pub rising : IsNonDecreasing addresses
  pub all : (a : ℕ) → list_any (λ x. x == a) addresses ≡ is_reason steps a
