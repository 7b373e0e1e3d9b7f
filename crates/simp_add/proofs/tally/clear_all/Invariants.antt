use Rattle.std.proofs.Common.{◌≡◌, length, take}
use Rattle.std.specs.List.{Contains}
use Rattle.sat_words.specs.Literal.{Literal}
use Rattle.simp_add.specs.Counted.{count_of, nothing}
use Rattle.simp_add.proofs.tally.clear_all.Given as goal

abbrev pub invariant-loop-lit : goal.invariant-loop-lit
invariant-loop-lit l = record {
  wide : length l.counts.items ≡ length l.initial.counts.items;
  there : (j : Literal) → Contains (take l.lit-index l.lits) j → count_of l.counts.items j ≡ nothing;
  others : (j : Literal) → count_of l.initial.counts.items j ≡ nothing → count_of l.counts.items j ≡ nothing;
}
