-- Passes of rings, before they run and after them.
use Rattle.std.specs.Prelude.{◌≡◌, ℕ, ◌<◌, ◌≤◌, false, List, [], ◌∷◌, ◌++◌, length, slice_index_or, Option, None}
use Rattle.atomic_table.specs.declared.shared.Seat.{Seat}
use Rattle.share_rule.specs.declared.Shared.{Shared}
use Rattle.share_rule.specs.declared.view.RingPart.{RingPart}
use Rattle.share_rule.specs.declared.view.View.{View}
use Rattle.share_rule.specs.Passes.{IsPassOf}
use Rattle.share_rule.specs.Steps.{new_part}
use Rattle.share_core.specs.declared.event.Stop.{Stop}
use Rattle.share_rule.specs.Views.{times_in, only, first_of}
use Rattle.ring_pass.specs.RingState.{HasListed}

-- what the table was opened with is the same
pub record IsSameTable (old new : View) : Type 0 where
  pub layout : new.layout ≡ old.layout
  pub opening : new.opening ≡ old.opening
  pub origin : new.origin ≡ old.origin

-- the pass has no ring, and the rights to the grants of all rings from this one on
pub record HasRightsFrom {B : Type 0} (t : Shared B) (p : Seat (Option B) View) (ring : ℕ) : Type 0 where
  pub pass : IsPassOf t p
  pub slots : p.me.1 ≡ []
  pub none : p.me.0.parts ≡ []
  pub rights : (r : ℕ) → ring ≤ r → r < p.me.0.opening.rings → 0 < times_in r p.me.0.rights

-- a pass of the table, with nothing in hand
abbrev pub IsAtRest : {B : Type 0} → Shared B → Seat (Option B) View → Type 0
IsAtRest t p = IsPassOf t p × (p.me.1 ≡ [])

-- the pass has this ring alone, whose grant it has taken, and which has done nothing else
pub record IsBegun {B : Type 0} (t : Shared B) (v : View) (ring : ℕ) (p : Seat (Option B) View) : Type 0 where
  pub pass : IsAtRest t p
  pub ring_is : p.me.0.parts ≡ new_part v.opening ring ∷ []
  pub same : IsSameTable v p.me.0
  pub unstopped : p.me.0.stop ≡ None
  pub unlooked : p.me.0.looks ≡ 0

-- each of them has the ring of its place
abbrev pub AreBegun : {B : Type 0} → Shared B → View → List (Seat (Option B) View) → Type 0
AreBegun {B} t v ps = (i : ℕ) (d : Seat (Option B) View) → i < length ps → IsBegun t v i (slice_index_or ps i d)

-- the parts of all rings that the passes have, in order
abbrev pub all_parts : {B : Type 0} → List (Seat (Option B) View) → List RingPart
all_parts [] = []
all_parts (p ∷ ps) = p.me.0.parts ++ all_parts ps

-- the first stop that is known, beginning with this one
abbrev pub stop_among : {B : Type 0} → Option Stop → List (Seat (Option B) View) → Option Stop
stop_among s [] = s
stop_among s (p ∷ ps) = stop_among (first_of s p.me.0.stop) ps

-- the ring builds no cell, and each unit that it wrote is listed
abbrev pub IsSettled : RingPart → Type 0
IsSettled p = (p.core.making ≡ []) × HasListed p

-- the pass has this ring alone, which has not the turn and is settled, and nothing in hand
pub record HasRing {B : Type 0} (t : Shared B) (ring : ℕ) (p : Seat (Option B) View) : Type 0 where
  pub pass : IsAtRest t p
  pub one : p.me.0.parts ≡ only p.me.0 ∷ []
  pub ring_is : (only p.me.0).core.ring ≡ ring
  pub free : (only p.me.0).turn ≡ None
  pub settled : IsSettled (only p.me.0)

-- and which has written nothing, and alone was told of no failed write
pub record HasIdle {B : Type 0} (t : Shared B) (ring : ℕ) (p : Seat (Option B) View) : Type 0 where
  pub has : HasRing t ring p
  pub idle : (only p.me.0).core.wrote ≡ []
  pub calm : t.layout.rings ≡ 1 → (only p.me.0).failed ≡ false

-- each of them has the ring of its place
abbrev pub AreIdle : {B : Type 0} → Shared B → List (Seat (Option B) View) → Type 0
AreIdle {B} t ps = (i : ℕ) (d : Seat (Option B) View) → i < length ps → HasIdle t i (slice_index_or ps i d)
