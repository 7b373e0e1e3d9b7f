use Rattle.std.proofs.Common.{◌≡◌, ℕ, ◌<◌, false, length, get_or}
use Rattle.ring_run.proofs.walking.copy_of.Given as goal

abbrev pub invariant-loop-i : goal.invariant-loop-i
invariant-loop-i l = record {
  len : length l.copy ≡ length l.model;
  each : (k : ℕ) → k < l.i → get_or l.copy k false ≡ get_or l.model k false;
}
