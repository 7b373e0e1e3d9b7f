use Rattle.std.proofs.Common.{◌≡◌, ℕ, List, map, take}
use Rattle.sat_words.specs.Literal.{Literal}
use Rattle.test_ruler.proofs.left.numbers_of.Given as goal

abbrev pub invariant-loop-cell : goal.invariant-loop-cell
invariant-loop-cell l = l.numbers.items ≡ map (λ (c : ℕ × List Literal). c.0) (take l.cell-index l.left.start.items)
