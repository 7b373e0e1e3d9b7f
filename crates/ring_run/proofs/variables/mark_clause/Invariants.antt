use Rattle.std.proofs.Common.{◌≡◌, ◌<◌, ◌-◌, ℕ, length, Some, true, false}
use Rattle.std.specs.Prelude.{slice_get}
use Rattle.std.specs.List.{slice_index_or}
use Rattle.sat_words.specs.Literal.{Literal}
use Rattle.ring_port.specs.PortState.{lits_at}
use Rattle.ring_run.specs.Strategy.{AreMore, AreMarkedBy}
use Rattle.ring_run.proofs.variables.mark_clause.Given as goal

abbrev pub invariant-loop-i : goal.invariant-loop-i
invariant-loop-i g l = record {
  same : g.P.Port.state l.port ≡ g.P.Port.state l.fn.port;
  size : l.size ≡ length (lits_at (g.P.Port.state l.fn.port) l.clause.address);
  len : length l.marks.items ≡ length l.fn.marks.items;
  more : AreMore l.fn.marks.items l.marks.items;
  only : AreMarkedBy l.fn.marks.items l.marks.items (lits_at (g.P.Port.state l.fn.port) l.clause.address);
  first : (p : ℕ) (k : Literal) → p < l.i → slice_get (lits_at (g.P.Port.state l.fn.port) l.clause.address) p ≡ Some k → slice_index_or l.marks.items (k.var - 1) false ≡ true;
}
