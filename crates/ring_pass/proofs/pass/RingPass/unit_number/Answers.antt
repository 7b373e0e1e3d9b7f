use Rattle.std.proofs.Common.{subst}
use Rattle.ring_port.specs.PortState.{IsPort}
use Rattle.ring_pass.proofs.NumbersSeen.{unit_told}
use Rattle.ring_pass.proofs.Stays.{ring_port}
use Rattle.ring_pass.proofs.pass.RingPass.unit_number.Goals as goal

pub returns-clause-told : goal.returns-clause-told
returns-clause-told g c =
    unit_told c.args.self.now c.args.lit c.number_of.result c.as_slice.result.now c.self.invariant.0 c.self.view_is c.as_slice.ensures.value c.number_of.ensures

pub returns-clause-port : goal.returns-clause-port
returns-clause-port g c = subst IsPort c.self.view_is (ring_port c.self.invariant.0)
