use Rattle.test_ports.proofs.Sample.{sample_port, offered}
use Rattle.test_ports.proofs.port.SamplePortPort.offer.Goals as goal

pub returns-clause-offered : goal.returns-clause-offered
returns-clause-offered c = offered c.args.self.now.stage c.args.self.now.drawn c.args._c.address c.requires.last

pub returns-clause-port : goal.returns-clause-port
returns-clause-port c = sample_port 2 c.args.self.now.drawn
