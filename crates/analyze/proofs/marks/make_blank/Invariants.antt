use Rattle.std.proofs.Common.{◌≡◌, ℕ, false, nat_eq, length, drop}
use Rattle.std.specs.List.{slice_index_or}
use Rattle.std.specs.Set.{is_member}
use Rattle.analyze.proofs.marks.make_blank.Given as goal

abbrev pub invariant-loop-place : goal.invariant-loop-place
invariant-loop-place g l = record {
  size : length l.values.items ≡ length l.fn.values.items;
  others : (p : ℕ) → is_member nat_eq (drop l.place-index l.touched) p ≡ false → slice_index_or l.values.items p l.blank ≡ l.blank;
}
