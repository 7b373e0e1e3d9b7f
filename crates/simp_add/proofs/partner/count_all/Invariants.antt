use Rattle.std.proofs.Common.{◌≡◌, ◌≤◌, ◌<◌, ℕ, length, take, get_or}
use Rattle.sat_words.specs.Literal.{Literal}
use Rattle.simp_add.specs.Counted.{count_of, AreCounted, AreTouched}
use Rattle.simp_add.proofs.partner.count_all.Given as goal

abbrev pub invariant-loop-number : goal.invariant-loop-number
invariant-loop-number g l = record {
  counted : AreCounted l.work l.lit (take l.number-index l.numbers) l.tally.counts.items;
  touched : AreTouched l.lit l.tally.counts.items l.tally.touched.items;
  stamps : (j : Literal) (i : ℕ) → l.number-index ≤ i → i < length l.numbers → (count_of l.tally.counts.items j).stamp ≤ get_or l.numbers i 0;
  all_sets : (j : Literal) → (count_of l.tally.counts.items j).sets ≤ l.number-index;
  wide : length l.tally.counts.items ≡ length l.initial.tally.counts.items;
}
