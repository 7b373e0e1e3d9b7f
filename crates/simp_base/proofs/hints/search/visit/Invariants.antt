use Rattle.std.proofs.Common.{◌≡◌}
use Rattle.simp_base.proofs.Seeing.{Seen}
use Rattle.simp_base.proofs.hints.search.visit.Given as goal

abbrev pub invariant-loop-number : goal.invariant-loop-number
invariant-loop-number l = record {
  seen : Seen l.clauses.clauses l.initial.trail.steps l.trail.steps l.numbers l.number-index;
  codes : l.trail.codes ≡ l.initial.trail.codes;
}
