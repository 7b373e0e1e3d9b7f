use Rattle.std.proofs.Common.{◌≡◌, ℕ, ◌<◌, List, take}
use Rattle.std.specs.List.{slice_index_or}
use Rattle.sat_words.specs.Literal.{Literal}
use Rattle.sat_words.specs.Clause.{InOrder}
use Rattle.simp_equiv.specs.Tables.{stand_in}
use Rattle.simp_equiv.specs.Replacements.{to_replace}
use Rattle.simp_equiv.proofs.additions.numbers_of.Given as goal

abbrev pub invariant-loop-cell : goal.invariant-loop-cell
invariant-loop-cell g l = record {
  numbers : l.numbers.items ≡ to_replace (stand_in l.table) (take l.cell-index l.work.clauses);
  ordered : (k : ℕ) (d : ℕ × List Literal) → k < l.cell-index → InOrder (slice_index_or l.work.clauses k d).1;
}
