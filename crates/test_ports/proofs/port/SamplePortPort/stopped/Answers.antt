use Rattle.test_ports.proofs.Sample.{sample_port}
use Rattle.test_ports.proofs.port.SamplePortPort.stopped.Goals as goal

pub returns-clause-port : goal.returns-clause-port
returns-clause-port c = sample_port c.args.self.now.stage c.args.self.now.drawn
