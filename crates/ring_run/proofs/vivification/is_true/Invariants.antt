use Rattle.std.proofs.Common.{◌≡◌, ℕ, ◌<◌, Some, length}
use Rattle.std.specs.List.{slice_get}
use Rattle.sat_words.specs.Literal.{Literal}
use Rattle.ring_port.specs.PortState.{lits_at}
use Rattle.ring_trail.specs.TrailData.{IsTrueOn}
use Rattle.ring_run.proofs.vivification.is_true.Given as goal

abbrev pub invariant-loop-i : goal.invariant-loop-i
invariant-loop-i g l = record {
  same : g.P.Port.state l.port ≡ g.P.Port.state l.fn.port;
  size : l.size ≡ length (lits_at (g.P.Port.state l.fn.port) l.c.address);
  none_yet : (j : ℕ) (k : Literal) → j < l.i → slice_get (lits_at (g.P.Port.state l.fn.port) l.c.address) j ≡ Some k → IsTrueOn l.trail.steps k → ⊥;
}
