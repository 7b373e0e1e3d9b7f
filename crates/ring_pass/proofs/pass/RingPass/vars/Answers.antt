use Rattle.std.proofs.Common.{ap, sym, ◌∙◌, subst}
use Rattle.share_rule.specs.declared.Layout.{Layout}
use Rattle.ring_port.specs.PortState.{PortState, IsPort}
use Rattle.ring_pass.proofs.Stays.{ring_port}
use Rattle.ring_pass.proofs.pass.RingPass.vars.Goals as goal

pub returns-clause-value : goal.returns-clause-value
returns-clause-value g c = ap (λ (l : Layout). l.vars) (sym c.self.invariant.0.pass.2) ∙ ap (λ (s : PortState). s.vars) c.self.view_is

pub returns-clause-port : goal.returns-clause-port
returns-clause-port g c = subst IsPort c.self.view_is (ring_port c.self.invariant.0)
