use Rattle.test_ports.proofs.Sample.{sample_port}
use Rattle.test_ports.proofs.port.SamplePortPort.unit_number.Goals as goal

pub returns-then-eq-clause-port : goal.returns-then-eq-clause-port
returns-then-eq-clause-port c = sample_port c.args.self.now.stage c.args.self.now.drawn

pub returns-then-eq-2-clause-port : goal.returns-then-eq-2-clause-port
returns-then-eq-2-clause-port c = sample_port c.args.self.now.stage c.args.self.now.drawn

pub returns-else-eq-2-clause-port : goal.returns-else-eq-2-clause-port
returns-else-eq-2-clause-port c = sample_port c.args.self.now.stage c.args.self.now.drawn
