use Rattle.test_units.proofs.Drawing.{drew_ticket, ring_drew}
use Rattle.test_units.proofs.learners.draw_ticket.Goals as goal

pub returns-in-Ticket-clause-ring : goal.returns-in-Ticket-clause-ring
returns-in-Ticket-clause-ring g c =
    let e = c.draw.ensures in
    ring_drew c.args.table.now c.args.ring.now.pass c.draw.new.pass c.args.ring.now.ring e.part.0 c.requires.ring e.pass.0 e.pass.1 e.part.1

pub returns-in-Gone-clause-ring : goal.returns-in-Gone-clause-ring
returns-in-Gone-clause-ring g c =
    let e = c.draw.ensures in
    ring_drew c.args.table.now c.args.ring.now.pass c.draw.new.pass c.args.ring.now.ring e.part.0 c.requires.ring e.pass.0 e.pass.1 e.part.1

pub returns-in-Ticket-clause-drew : goal.returns-in-Ticket-clause-drew
returns-in-Ticket-clause-drew g c =
    let e = c.draw.ensures in
    λ _. drew_ticket c.args.ring.now.pass.me.0 c.draw.new.pass.me.0 e.part.0 c.requires.ring.one e.part.1 (rw c.in-Ticket.is at e.part.3)
