use Rattle.test_ports.proofs.Sample.{sample_port, at_first, at_second, at_third, read_same, same_two, same_three}
use Rattle.test_ports.proofs.port.SamplePortPort.read_lit.Goals as goal

pub pick-requires : goal.pick-requires
pick-requires c = rw (at_first c.args.self.now.stage c.args.self.now.drawn c.args.c.address c.if-at-eq1.true) at c.requires.inside

pub pick-requires-then-at-eq2 : goal.pick-requires-then-at-eq2
pick-requires-then-at-eq2 c = rw (at_second c.args.self.now.stage c.args.self.now.drawn c.args.c.address c.if-at-eq2.true) at c.requires.inside

pub pick-requires-else-at-eq2 : goal.pick-requires-else-at-eq2
pick-requires-else-at-eq2 c = rw (at_third c.args.self.now.stage c.args.self.now.drawn c.args.c.address c.if-at-eq1.false c.if-at-eq2.false c.requires.held) at c.requires.inside

pub returns-then-at-eq1-clause-value : goal.returns-then-at-eq1-clause-value
returns-then-at-eq1-clause-value c = rw (at_first c.args.self.now.stage c.args.self.now.drawn c.args.c.address c.if-at-eq1.true) (read_same _ _ _ _ (same_two _ _ _ _ c.new.ensures c.new-then-at-eq1.ensures) c.pick.ensures)

pub returns-then-at-eq2-clause-value : goal.returns-then-at-eq2-clause-value
returns-then-at-eq2-clause-value c = rw (at_second c.args.self.now.stage c.args.self.now.drawn c.args.c.address c.if-at-eq2.true) (read_same _ _ _ _ (same_three _ _ _ _ _ _ c.new-then-at-eq2.ensures c.new-then-at-eq2-2.ensures c.new-then-at-eq2-3.ensures) c.pick-then-at-eq2.ensures)

pub returns-else-at-eq2-clause-value : goal.returns-else-at-eq2-clause-value
returns-else-at-eq2-clause-value c = rw (at_third c.args.self.now.stage c.args.self.now.drawn c.args.c.address c.if-at-eq1.false c.if-at-eq2.false c.requires.held) (read_same _ _ _ _ (same_three _ _ _ _ _ _ c.new-else-at-eq2.ensures c.new-else-at-eq2-2.ensures c.new-else-at-eq2-3.ensures) c.pick-else-at-eq2.ensures)

pub returns-then-at-eq1-clause-port : goal.returns-then-at-eq1-clause-port
returns-then-at-eq1-clause-port c = sample_port c.args.self.now.stage c.args.self.now.drawn

pub returns-then-at-eq2-clause-port : goal.returns-then-at-eq2-clause-port
returns-then-at-eq2-clause-port c = sample_port c.args.self.now.stage c.args.self.now.drawn

pub returns-else-at-eq2-clause-port : goal.returns-else-at-eq2-clause-port
returns-else-at-eq2-clause-port c = sample_port c.args.self.now.stage c.args.self.now.drawn
