use Rattle.std.proofs.Common.{◌≡◌, ◌∙◌, ap, sym, subst, true, ◌-◌, vec_len}
use Rattle.std.specs.Vec.{vec_capacity}
use Rattle.ring_port.specs.Port.{is_usable}
use Rattle.ring_port.specs.Log.{KeepsLog}
use Rattle.ring_port.specs.OwnLog.{LogData, WasReduced}
use Rattle.ring_port.specs.PlainPort.{PlainData, state_of}
use Rattle.ring_port.proofs.PlainLemmas.{state_is, plain_port, plain_log, same_last, reduced_last}
use Rattle.ring_port.proofs.PlainSteps.{reduce_keeps}
use Rattle.ring_port.proofs.plain_calls.PlainPortPort.note_reduce.Goals as goal

pub returns-clause-log : goal.returns-clause-log
returns-clause-log g c =
    let i = c.self.inside in
    let p : PlainData = record { vars = i.vars; start = i.store.start; held = i.store.held; waiting = i.store.waiting; opening = i.opening.items; passed = i.passed; given = i.given.items; given_room = vec_capacity i.given - vec_len i.given; written = i.written.items; hinted = i.hinted; told = i.told.items; log = i.log; last = i.last; tickets = i.tickets; stop = i.stop; looks = i.looks; caught_up = i.caught_up } in
    let usable : is_usable i.log.refused ≡ true = subst (λ s. is_usable s.refused ≡ true) (sym (state_is c.self.view_is)) c.requires.usable in
    subst (λ s. KeepsLog s (state_of (record p { log = c.reduce.new.self }))) (state_is c.self.view_is)
    (reduce_keeps p c.make_room.new.self.room c.reduce.new.self c.reduce.result usable
    (subst (λ k. WasReduced k c.reduce.new.self c.reduce.result) c.make_room.ensures.same c.reduce.ensures))

pub returns-in_err-make_room-clause-port : goal.returns-in_err-make_room-clause-port
returns-in_err-make_room-clause-port g c = plain_port _ (plain_log _ c.self.invariant c.make_room.new.self c.self.inside.last (same_last (ap (λ (k : LogData). k.output.last) c.make_room.ensures.same)))

pub returns-clause-port : goal.returns-clause-port
returns-clause-port g c = plain_port _ (plain_log _ c.self.invariant c.reduce.new.self c.self.inside.last
    (same_last (reduced_last c.make_room.new.self c.reduce.new.self c.reduce.result c.reduce.ensures ∙ ap (λ (k : LogData). k.output.last) c.make_room.ensures.same)))
