use Rattle.std.proofs.Common.{◌-◌, arith, subst, sym, None, IsSome, vec_len}
use Rattle.std.specs.Vec.{vec_capacity}
use Rattle.ring_port.specs.PortState.{PortState}
use Rattle.ring_port.specs.Log.{KeepsLog}
use Rattle.ring_port.specs.Exchange.{class_at, OfferedAs}
use Rattle.ring_port.specs.PlainPort.{PlainData, state_of}
use Rattle.ring_port.proofs.PlainLemmas.{state_is, plain_port, plain_log}
use Rattle.ring_port.proofs.PlainSteps.{last_keeps, offer_did}
use Rattle.ring_port.proofs.plain_calls.PlainPortPort.offer.Goals as goal

pub returns-clause-log : goal.returns-clause-log
returns-clause-log g c =
    let i = c.self.inside in
    let p : PlainData = record { vars = i.vars; start = i.store.start; held = i.store.held; waiting = i.store.waiting; opening = i.opening.items; passed = i.passed; given = i.given.items; given_room = vec_capacity i.given - vec_len i.given; written = i.written.items; hinted = i.hinted; told = i.told.items; log = i.log; last = i.last; tickets = i.tickets; stop = i.stop; looks = i.looks; caught_up = i.caught_up } in
    subst (λ s. KeepsLog s (state_of (record p { last = None }))) (state_is c.self.view_is) (last_keeps p None)

pub returns-clause-port : goal.returns-clause-port
returns-clause-port g c =
    let i = c.self.inside in
    let p : PlainData = record { vars = i.vars; start = i.store.start; held = i.store.held; waiting = i.store.waiting; opening = i.opening.items; passed = i.passed; given = i.given.items; given_room = vec_capacity i.given - vec_len i.given; written = i.written.items; hinted = i.hinted; told = i.told.items; log = i.log; last = i.last; tickets = i.tickets; stop = i.stop; looks = i.looks; caught_up = i.caught_up } in
    plain_port _ (plain_log p c.self.invariant i.log None (omega arith))

pub returns-clause-offered : goal.returns-clause-offered
returns-clause-offered g c =
    let i = c.self.inside in
    let p : PlainData = record { vars = i.vars; start = i.store.start; held = i.store.held; waiting = i.store.waiting; opening = i.opening.items; passed = i.passed; given = i.given.items; given_room = vec_capacity i.given - vec_len i.given; written = i.written.items; hinted = i.hinted; told = i.told.items; log = i.log; last = i.last; tickets = i.tickets; stop = i.stop; looks = i.looks; caught_up = i.caught_up } in
    let a = c.args._c.address in
    let v = state_of (record p { last = None }) in
    subst (λ (s : PortState). OfferedAs s v (class_at s a) a) (state_is c.self.view_is)
    (offer_did p (class_at (state_of p) a) a (subst (λ (s : PortState). IsSome (class_at s a)) (sym (state_is c.self.view_is)) c.requires.class))
