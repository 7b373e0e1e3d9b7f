-- Rings at a table.
use Rattle.std.specs.Prelude.{◌≡◌, ◌<◌, ◌≤◌, ℕ, [], ◌∷◌, map, Option, None}
use Rattle.share_core.specs.State.{times_at}
use Rattle.atomic_table.specs.declared.shared.Seat.{Seat}
use Rattle.share_rule.specs.declared.Shared.{Shared}
use Rattle.share_rule.specs.declared.view.View.{View}
use Rattle.share_rule.specs.Views.{times_in, only}
use Rattle.share_rule.specs.Passes.{IsPassOf, NoTurns}
use Rattle.share_rule.specs.Shown.{ring_of}

-- a pass of this table with rights to the rings from one on, and no ring
pub record IsFirst {B : Type 0} (t : Shared B) (p : Seat (Option B) View) (from : ℕ) : Type 0 where
  pub pass : IsPassOf t p
  pub slots : p.me.1 ≡ []
  pub rights : (r : ℕ) → from ≤ r → r < p.me.0.opening.rings → 0 < times_in r p.me.0.rights

-- the pass has one ring, which has not the turn
pub record IsRing {B : Type 0} (t : Shared B) (p : Seat (Option B) View) (ring : ℕ) : Type 0 where
  pub pass : IsPassOf t p
  pub slots : p.me.1 ≡ []
  pub one : p.me.0.parts ≡ only p.me.0 ∷ []
  pub ring_is : (only p.me.0).core.ring ≡ ring
  pub free : (only p.me.0).turn ≡ None

-- it holds the cell, and has shared this often
pub record IsHolder {B : Type 0} (t : Shared B) (p : Seat (Option B) View) (ring cell shared : ℕ) : Type 0 where
  pub is_ring : IsRing t p ring
  pub holds : 0 < times_at cell (only p.me.0).core.held
  pub shared_is : (only p.me.0).core.shared ≡ shared

-- the pass has the parts of the rings from one on, none of which has the turn
pub record IsGathered {B : Type 0} (t : Shared B) (p : Seat (Option B) View) (from : ℕ) : Type 0 where
  pub pass : IsPassOf t p
  pub slots : p.me.1 ≡ []
  pub rings : (r : ℕ) → from ≤ r → r < p.me.0.opening.rings → 0 < times_in r (map ring_of p.me.0.parts)
  pub free : NoTurns p.me.0.parts
