use Rattle.std.proofs.Common.{◌-◌, subst, vec_len}
use Rattle.std.specs.Vec.{vec_capacity}
use Rattle.ring_port.specs.PortState.{IsPort}
use Rattle.ring_port.specs.Log.{KeepsLog}
use Rattle.ring_port.specs.PlainPort.{PlainData, state_of}
use Rattle.ring_port.proofs.PlainLemmas.{state_is, plain_port, plain_looked}
use Rattle.ring_port.proofs.PlainSteps.{looked_keeps}
use Rattle.ring_port.proofs.plain_calls.PlainPortPort.stopped.Goals as goal

pub returns-in-None-clause-log : goal.returns-in-None-clause-log
returns-in-None-clause-log g c =
    let i = c.self.inside in
    let p : PlainData = record { vars = i.vars; start = i.store.start; held = i.store.held; waiting = i.store.waiting; opening = i.opening.items; passed = i.passed; given = i.given.items; given_room = vec_capacity i.given - vec_len i.given; written = i.written.items; hinted = i.hinted; told = i.told.items; log = i.log; last = i.last; tickets = i.tickets; stop = i.stop; looks = i.looks; caught_up = i.caught_up } in
    subst (λ s. KeepsLog s (state_of (record p { looks = c.saturating_add-self-inside.result }))) (state_is c.self.view_is) (looked_keeps p i.stop c.saturating_add-self-inside.result)

pub returns-in-None-clause-port : goal.returns-in-None-clause-port
returns-in-None-clause-port g c =
    let i = c.self.inside in
    let p : PlainData = record { vars = i.vars; start = i.store.start; held = i.store.held; waiting = i.store.waiting; opening = i.opening.items; passed = i.passed; given = i.given.items; given_room = vec_capacity i.given - vec_len i.given; written = i.written.items; hinted = i.hinted; told = i.told.items; log = i.log; last = i.last; tickets = i.tickets; stop = i.stop; looks = i.looks; caught_up = i.caught_up } in
    plain_port _ (plain_looked p c.self.invariant c.saturating_add-self-inside.result)

pub returns-in-Some-clause-port : goal.returns-in-Some-clause-port
returns-in-Some-clause-port g c = subst IsPort (state_is c.self.view_is) (plain_port _ c.self.invariant)
