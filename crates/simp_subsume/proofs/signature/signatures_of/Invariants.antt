use Rattle.std.proofs.Common.{◌≡◌, ℕ, ◌+◌, ◌<◌, List, length, get_or}
use Rattle.sat_words.specs.Literal.{Literal}
use Rattle.simp_subsume.specs.Signed.{signature_of}
use Rattle.simp_subsume.proofs.signature.signatures_of.Given as goal

abbrev pub invariant-loop-cell : goal.invariant-loop-cell
invariant-loop-cell g l =
    (length l.words.items ≡ l.work.output.last + 1)
    × ((k : ℕ) (d : ℕ × List Literal) → k < l.cell-index → get_or l.words.items (get_or l.work.clauses k d).0 0 ≡ signature_of (get_or l.work.clauses k d).1)
