use Rattle.std.proofs.Common.{◌≡◌, ℕ, ◌<◌, false, length, get_or}
use Rattle.ring_decide.proofs.decider.write_values.Given as goal

abbrev pub invariant-loop-i : goal.invariant-loop-i
invariant-loop-i l = record {
  len : length l.over.items ≡ length l.values;
  each : (k : ℕ) → k < l.i → get_or l.over.items k false ≡ get_or l.values k false;
}
