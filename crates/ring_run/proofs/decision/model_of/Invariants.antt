use Rattle.std.proofs.Common.{◌≡◌, ℕ, ◌<◌, length, true}
use Rattle.sat_words.specs.Truth.{lit_true}
use Rattle.ring_trail.specs.TrailData.{lit_at}
use Rattle.ring_run.proofs.Models.{OnlyTrue}
use Rattle.ring_run.proofs.decision.model_of.Given as goal

abbrev pub invariant-loop-place : goal.invariant-loop-place
invariant-loop-place l = record {
  long : length l.model ≡ l.trail.vars;
  true_so_far : (p : ℕ) → p < l.place → lit_true l.model (lit_at l.trail.steps p) ≡ true;
  only : OnlyTrue l.model l.trail.steps l.place;
}
