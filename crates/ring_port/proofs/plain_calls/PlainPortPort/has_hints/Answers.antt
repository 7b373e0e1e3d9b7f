use Rattle.std.proofs.Common.{subst}
use Rattle.ring_port.specs.PortState.{IsPort}
use Rattle.ring_port.proofs.PlainLemmas.{state_is, plain_port}
use Rattle.ring_port.proofs.plain_calls.PlainPortPort.has_hints.Goals as goal

pub returns-clause-port : goal.returns-clause-port
returns-clause-port g c = subst IsPort (state_is c.self.view_is) (plain_port _ c.self.invariant)
