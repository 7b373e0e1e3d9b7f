use Rattle.std.proofs.Common.{◌≡◌, ℕ, ◌≤◌, length}
use Rattle.sat_words.specs.Truth.{value_of}
use Rattle.ring_walk.proofs.starting.copy_of.Given as goal

abbrev pub invariant-loop-i : goal.invariant-loop-i
invariant-loop-i l = record {
  len : length l.copy ≡ l.vars;
  each : (v : ℕ) → v ≤ l.i → value_of l.copy v ≡ value_of l.from v;
}
