use Rattle.std.proofs.Common.{ap}
use Rattle.sat_words.specs.declared.shared.Head.{Head}
use Rattle.test_ports.proofs.Sample.{sample_port, at_first, at_second, at_third}
use Rattle.test_ports.proofs.port.SamplePortPort.head.Goals as goal

pub returns-then-at-eq1-clause-value : goal.returns-then-at-eq1-clause-value
returns-then-at-eq1-clause-value c = rw (at_first c.args.self.now.stage c.args.self.now.drawn c.args.c.address c.if-at-eq1.true) c.sample_head.ensures

pub returns-then-at-eq1-clause-size : goal.returns-then-at-eq1-clause-size
returns-then-at-eq1-clause-size c = rw (at_first c.args.self.now.stage c.args.self.now.drawn c.args.c.address c.if-at-eq1.true) (ap (λ (h : Head). h.size) c.sample_head.ensures)

pub returns-then-at-eq2-clause-value : goal.returns-then-at-eq2-clause-value
returns-then-at-eq2-clause-value c = rw (at_second c.args.self.now.stage c.args.self.now.drawn c.args.c.address c.if-at-eq2.true) c.sample_head-then-at-eq2.ensures

pub returns-then-at-eq2-clause-size : goal.returns-then-at-eq2-clause-size
returns-then-at-eq2-clause-size c = rw (at_second c.args.self.now.stage c.args.self.now.drawn c.args.c.address c.if-at-eq2.true) (ap (λ (h : Head). h.size) c.sample_head-then-at-eq2.ensures)

pub returns-else-at-eq2-clause-value : goal.returns-else-at-eq2-clause-value
returns-else-at-eq2-clause-value c = rw (at_third c.args.self.now.stage c.args.self.now.drawn c.args.c.address c.if-at-eq1.false c.if-at-eq2.false c.requires) c.sample_head-else-at-eq2.ensures

pub returns-else-at-eq2-clause-size : goal.returns-else-at-eq2-clause-size
returns-else-at-eq2-clause-size c = rw (at_third c.args.self.now.stage c.args.self.now.drawn c.args.c.address c.if-at-eq1.false c.if-at-eq2.false c.requires) (ap (λ (h : Head). h.size) c.sample_head-else-at-eq2.ensures)

pub returns-then-at-eq1-clause-port : goal.returns-then-at-eq1-clause-port
returns-then-at-eq1-clause-port c = sample_port c.args.self.now.stage c.args.self.now.drawn

pub returns-then-at-eq2-clause-port : goal.returns-then-at-eq2-clause-port
returns-then-at-eq2-clause-port c = sample_port c.args.self.now.stage c.args.self.now.drawn

pub returns-else-at-eq2-clause-port : goal.returns-else-at-eq2-clause-port
returns-else-at-eq2-clause-port c = sample_port c.args.self.now.stage c.args.self.now.drawn
