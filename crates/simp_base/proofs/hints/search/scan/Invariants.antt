use Rattle.std.proofs.Common.{◌≡◌, map}
use Rattle.simp_base.proofs.Seeing.{Seen}
use Rattle.simp_base.proofs.hints.search.scan.Given as goal

abbrev pub invariant-loop-pair : goal.invariant-loop-pair
invariant-loop-pair l = record {
  seen : Seen l.clauses.clauses l.initial.trail.steps l.trail.steps (map (λ p. p.0) l.clauses.clauses) l.pair-index;
  codes : l.trail.codes ≡ l.initial.trail.codes;
}
