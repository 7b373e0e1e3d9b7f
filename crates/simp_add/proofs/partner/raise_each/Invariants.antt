use Rattle.std.proofs.Common.{◌≡◌, length, take}
use Rattle.simp_add.specs.Counted.{Raised, AreTouched}
use Rattle.simp_add.proofs.partner.raise_each.Given as goal

abbrev pub invariant-loop-alike : goal.invariant-loop-alike
invariant-loop-alike l = record {
  raised : Raised l.first l.rest l.stamp (take l.alike-index l.found) l.initial.tally.counts.items l.tally.counts.items;
  touched : AreTouched l.first l.tally.counts.items l.tally.touched.items;
  wide : length l.tally.counts.items ≡ length l.initial.tally.counts.items;
}
