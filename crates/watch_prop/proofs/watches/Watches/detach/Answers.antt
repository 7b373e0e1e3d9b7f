use Rattle.ring_port.specs.PortState.{lits_at}
use Rattle.watch_prop.specs.Detaching.{Freed}
use Rattle.watch_prop.proofs.Detaching.{Freed-trans, Watched-thinned, none_left, detached}
use Rattle.watch_prop.proofs.watches.Watches.detach.Given.{Over}
use Rattle.watch_prop.proofs.watches.Watches.detach.Goals as goal

freed : (g : Over) (c : goal.After-free_listed g) → Freed c.args.self.now c.free_listed.new.self c.args.c.address
freed g c = Freed-trans c.args.self.now c.free_waiting.new.self c.free_listed.new.self c.args.c.address c.free_waiting.ensures.freed c.free_listed.ensures.freed

pub returns-clause-attached : goal.returns-clause-attached
returns-clause-attached g c t k =
    detached c.args.self.now c.free_listed.new.self c.args.c.address (freed g c)
    (none_left c.args.self.now c.free_waiting.new.self c.free_listed.new.self (lits_at (g.P.Port.state c.args.port.now)) t c.args.c.address k c.free_waiting.ensures.freed c.free_waiting.ensures.gone c.free_listed.ensures.freed c.free_listed.ensures.gone)

pub returns-clause-watched : goal.returns-clause-watched
returns-clause-watched g c t k = Watched-thinned c.args.self.now c.free_listed.new.self (lits_at (g.P.Port.state c.args.port.now)) t (freed g c).thinned k
