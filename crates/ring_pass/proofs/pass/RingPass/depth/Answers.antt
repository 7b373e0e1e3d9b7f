use Rattle.std.proofs.Common.{ap, sym, ◌∙◌, subst}
use Rattle.ring_port.specs.PortState.{PortState, IsPort}
use Rattle.ring_pass.proofs.OfferedHere.{depth_same}
use Rattle.ring_pass.proofs.Stays.{ring_port}
use Rattle.ring_pass.proofs.pass.RingPass.depth.Goals as goal

pub returns-clause-value : goal.returns-clause-value
returns-clause-value g c = sym (depth_same c.self.inside.pass.me.0 c.self.invariant.0.pass.3 c.self.inside.table.now.layout c.self.invariant.0.pass.2) ∙ ap (λ (s : PortState). s.depth) c.self.view_is

pub returns-clause-port : goal.returns-clause-port
returns-clause-port g c = subst IsPort c.self.view_is (ring_port c.self.invariant.0)
