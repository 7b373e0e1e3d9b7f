use Rattle.std.proofs.Common.{◌-◌, ap, subst, vec_len}
use Rattle.std.specs.Vec.{vec_capacity}
use Rattle.ring_port.specs.Log.{KeepsLog}
use Rattle.ring_port.specs.declared.draw.Tickets.{Tickets}
use Rattle.ring_port.specs.PlainPort.{PlainData, state_of}
use Rattle.ring_port.proofs.PlainLemmas.{state_is, plain_port, plain_tickets}
use Rattle.ring_port.proofs.PlainSteps.{tickets_keep}
use Rattle.ring_port.proofs.plain_calls.PlainPortPort.draw.Goals as goal

pub returns-clause-log : goal.returns-clause-log
returns-clause-log g c =
    let i = c.self.inside in
    let p : PlainData = record { vars = i.vars; start = i.store.start; held = i.store.held; waiting = i.store.waiting; opening = i.opening.items; passed = i.passed; given = i.given.items; given_room = vec_capacity i.given - vec_len i.given; written = i.written.items; hinted = i.hinted; told = i.told.items; log = i.log; last = i.last; tickets = i.tickets; stop = i.stop; looks = i.looks; caught_up = i.caught_up } in
    subst (λ s. KeepsLog s (state_of (record p { tickets = c.draw.new.self }))) (state_is c.self.view_is) (tickets_keep p c.draw.new.self)

pub returns-clause-port : goal.returns-clause-port
returns-clause-port g c =
    let i = c.self.inside in
    let p : PlainData = record { vars = i.vars; start = i.store.start; held = i.store.held; waiting = i.store.waiting; opening = i.opening.items; passed = i.passed; given = i.given.items; given_room = vec_capacity i.given - vec_len i.given; written = i.written.items; hinted = i.hinted; told = i.told.items; log = i.log; last = i.last; tickets = i.tickets; stop = i.stop; looks = i.looks; caught_up = i.caught_up } in
    plain_port _ (plain_tickets p c.self.invariant c.draw.new.self (ap (λ (k : Tickets). k.limit) c.draw.ensures.state))
