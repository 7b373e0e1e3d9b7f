use Rattle.std.proofs.Common.{◌≡◌, ℕ, ◌<◌, true, false, length, take, get_or}
use Rattle.sat_words.specs.Literal.{Literal}
use Rattle.sat_words.specs.Truth.{value_of, lit_true}
use Rattle.ring_walk.specs.WalkData.{is_unit_of}
use Rattle.ring_walk.proofs.starting.make_true.Given as goal

abbrev pub invariant-loop-unit : goal.invariant-loop-unit
invariant-loop-unit l = record {
  len : length l.values ≡ length l.fn.values;
  units : (k : ℕ) (d : Literal) → k < l.unit-index → lit_true l.values (get_or l.units k d) ≡ true;
  others : (v : ℕ) → is_unit_of (take l.unit-index l.units) v ≡ false → value_of l.values v ≡ value_of l.fn.values v;
}
