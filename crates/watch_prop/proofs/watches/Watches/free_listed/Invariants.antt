use Rattle.std.proofs.Common.{◌≡◌, ◌<◌, ℕ, length, Some}
use Rattle.std.specs.Prelude.{slice_get}
use Rattle.sat_words.specs.Literal.{Literal}
use Rattle.ring_port.specs.PortState.{lits_at}
use Rattle.watch_prop.specs.Detaching.{Freed, IsGoneFrom}
use Rattle.watch_prop.proofs.watches.Watches.free_listed.Given as goal

abbrev pub invariant-loop-i : goal.invariant-loop-i
invariant-loop-i g l = record {
  same : g.P.Port.state l.port ≡ g.P.Port.state l.fn.port;
  size : l.size ≡ length (lits_at (g.P.Port.state l.fn.port) l.c.address);
  freed : Freed l.fn.self l.self l.c.address;
  gone : (p : ℕ) (k : Literal) → p < l.i → slice_get (lits_at (g.P.Port.state l.fn.port) l.c.address) p ≡ Some k → IsGoneFrom l.fn.self l.self l.c.address k;
}
