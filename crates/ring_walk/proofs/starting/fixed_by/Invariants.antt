use Rattle.std.proofs.Common.{◌≡◌, ℕ, length, take}
use Rattle.sat_words.specs.Truth.{value_of}
use Rattle.ring_walk.specs.WalkData.{is_unit_of}
use Rattle.ring_walk.proofs.starting.fixed_by.Given as goal

abbrev pub invariant-loop-unit : goal.invariant-loop-unit
invariant-loop-unit l = record {
  len : length l.fixed ≡ l.vars;
  each : (v : ℕ) → value_of l.fixed v ≡ is_unit_of (take l.unit-index l.units) v;
}
