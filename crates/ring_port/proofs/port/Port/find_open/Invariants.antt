use Rattle.std.proofs.Common.{◌≡◌, ℕ, ◌<◌, false, get_or}
use Rattle.sat_words.specs.Values.{is_open}
use Rattle.ring_port.specs.PortState.{lits_at, IsPort}
use Rattle.ring_port.proofs.port.Port.find_open.Given as goal

abbrev pub invariant-loop-i : goal.invariant-loop-i
invariant-loop-i g l = record {
  same : g.Self.Port.state l.self ≡ g.Self.Port.state l.fn.self;
  port : IsPort (g.Self.Port.state l.self);
  none : (k : ℕ) → k < l.i → is_open l.values l.other (get_or (lits_at (g.Self.Port.state l.fn.self) l.c.address) k (record { var = 0; neg = false })) ≡ false;
}
