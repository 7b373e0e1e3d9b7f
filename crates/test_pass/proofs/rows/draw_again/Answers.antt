use Rattle.test_pass.proofs.Row.{drew_again, drew_keeps}
use Rattle.test_pass.proofs.rows.draw_again.Goals as goal

pub returns-in-Ticket-clause-ready : goal.returns-in-Ticket-clause-ready
returns-in-Ticket-clause-ready g c =
    let did = rw c.in-Ticket.is at c.draw.ensures.drawn in
    drew_again (g.P.Port.state c.args.port.now) (g.P.Port.state c.draw.new.self) did.0 did.1 c.requires

pub returns-in-Ticket-clause-same : goal.returns-in-Ticket-clause-same
returns-in-Ticket-clause-same g c =
    let did = rw c.in-Ticket.is at c.draw.ensures.drawn in
    drew_keeps (g.P.Port.state c.args.port.now) (g.P.Port.state c.draw.new.self) did.0
