use Rattle.std.proofs.Common.{◌≡◌, map, take, ℕ, List}
use Rattle.sat_words.specs.Literal.{Literal}
use Rattle.simp_units.proofs.start.numbers_of.Given as goal

abbrev pub invariant-loop-cell : goal.invariant-loop-cell
invariant-loop-cell g l = l.all.items ≡ map (λ (x : ℕ × List Literal). x.0) (take l.cell-index l.work.clauses)
