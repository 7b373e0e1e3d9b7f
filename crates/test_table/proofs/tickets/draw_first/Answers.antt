use Rattle.test_table.proofs.Drawing.{new_draws}
use Rattle.test_table.proofs.tickets.draw_first.Goals as goal

pub draw-requires-clause-may : goal.draw-requires-clause-may
draw-requires-clause-may g c = let n = c.requires.new in new_draws c.args.ring.now.pass.me.0 n.0 n.1 n.2
