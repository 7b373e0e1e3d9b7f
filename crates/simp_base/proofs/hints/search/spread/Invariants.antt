use Rattle.std.proofs.Common.{◌≡◌}
use Rattle.simp_base.proofs.Seeing.{Spread}
use Rattle.simp_base.proofs.hints.search.spread.Given as goal

abbrev pub invariant-loop-next : goal.invariant-loop-next
invariant-loop-next l = record {
  spread : Spread l.clauses.clauses l.initial.trail.steps l.trail.steps l.from l.next;
  codes : l.trail.codes ≡ l.initial.trail.codes;
}
