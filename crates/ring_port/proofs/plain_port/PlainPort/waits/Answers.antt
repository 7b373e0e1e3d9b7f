use Rattle.std.proofs.Common.{length, ap, subst, ◌∙◌}
use Rattle.ring_port.specs.PortState.{IsPort}
use Rattle.ring_port.proofs.PlainLemmas.{state_is, plain_port}
use Rattle.ring_port.proofs.plain_port.PlainPort.waits.Goals as goal

pub returns-clause-many : goal.returns-clause-many
returns-clause-many g c = c.waits.ensures ∙ ap (λ s. length s.waiting) (state_is c.self.view_is)

pub returns-clause-port : goal.returns-clause-port
returns-clause-port g c = subst IsPort (state_is c.self.view_is) (plain_port _ c.self.invariant)
