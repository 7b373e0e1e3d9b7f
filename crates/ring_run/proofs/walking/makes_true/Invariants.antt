use Rattle.std.proofs.Common.{◌≡◌, ℕ, ◌<◌, true}
use Rattle.sat_words.specs.Truth.{lit_true}
use Rattle.ring_trail.specs.TrailData.{lit_at}
use Rattle.ring_run.proofs.walking.makes_true.Given as goal

abbrev pub invariant-loop-place : goal.invariant-loop-place
invariant-loop-place l = (p : ℕ) → p < l.place → lit_true l.model (lit_at l.trail.steps p) ≡ true
