use Rattle.std.proofs.Common.{◌+◌, ◌*◌}
use Rattle.ring_pass.proofs.Stays.{port_steps}
use Rattle.ring_pass.proofs.StopsHere.{ring_sets, set_parts}
use Rattle.ring_pass.proofs.pass.RingPass.stop.Goals as goal

pub returns-clause-set : goal.returns-clause-set
returns-clause-set g c =
    let e = c.set.ensures in
    ring_sets c.set.new.pass c.args.self.now c.args.kind e.part.0 c.set.result c.self.invariant.0 e.pass.0 c.self.view_is e.part.1 e.part.2 e.part.3 e.seen

pub returns-clause-port : goal.returns-clause-port
returns-clause-port g c =
    let e = c.set.ensures in
    let x = set_parts c.self.inside.pass.me.0 c.set.new.pass.me.0 (c.args.kind + 8 * c.self.inside.ring) e.part.0 c.self.invariant.0.one e.part.1 in
    port_steps c.set.new.pass x.0 c.self.invariant.0 e.pass.0 x.1 x.2 x.3 x.4 x.5
