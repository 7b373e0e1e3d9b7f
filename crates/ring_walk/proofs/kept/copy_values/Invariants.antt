use Rattle.std.proofs.Common.{◌≡◌, ℕ, length, take}
use Rattle.std.specs.Prelude.{if◌then◌else◌}
use Rattle.sat_words.specs.Truth.{value_of}
use Rattle.ring_walk.specs.Truths.{is_in}
use Rattle.ring_walk.proofs.kept.copy_values.Given as goal

abbrev pub invariant-loop-var : goal.invariant-loop-var
invariant-loop-var l = record {
  len : length l.to ≡ length l.fn.to;
  each : (v : ℕ) → value_of l.to v ≡ (if is_in (take l.var-index l.vars) v then value_of l.from v else value_of l.fn.to v);
}
