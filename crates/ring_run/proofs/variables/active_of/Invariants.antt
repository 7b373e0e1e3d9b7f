use Rattle.std.proofs.Common.{◌≡◌, ◌<◌, ℕ, map, length}
use Rattle.std.specs.List.{slice_index_or}
use Rattle.sat_words.specs.declared.shared.Cref.{Cref}
use Rattle.ring_port.specs.PortState.{lits_at}
use Rattle.ring_run.specs.Strategy.{AreMarked, OccurMarked}
use Rattle.ring_run.proofs.variables.active_of.Given as goal

abbrev pub invariant-loop-clause : goal.invariant-loop-clause
invariant-loop-clause g l = record {
  same : g.P.Port.state l.port ≡ g.P.Port.state l.fn.port;
  len : length l.marks.items ≡ l.vars;
  only : OccurMarked l.marks.items (map (λ (c : Cref). lits_at (g.P.Port.state l.fn.port) c.address) l.clauses);
  first : (p : ℕ) (c : Cref) → p < l.clause-index → p < length l.clauses → AreMarked l.marks.items (lits_at (g.P.Port.state l.fn.port) (slice_index_or l.clauses p c).address);
}
