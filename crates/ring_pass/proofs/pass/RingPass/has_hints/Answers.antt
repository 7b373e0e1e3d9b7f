use Rattle.std.proofs.Common.{ap, ◌∙◌, subst}
use Rattle.ring_port.specs.PortState.{PortState, IsPort}
use Rattle.ring_pass.proofs.Stays.{ring_port}
use Rattle.ring_pass.proofs.pass.RingPass.has_hints.Goals as goal

pub returns-clause-value : goal.returns-clause-value
returns-clause-value g c = c.self.invariant.0.hinted ∙ ap (λ (s : PortState). s.hinted) c.self.view_is

pub returns-clause-port : goal.returns-clause-port
returns-clause-port g c = subst IsPort c.self.view_is (ring_port c.self.invariant.0)
