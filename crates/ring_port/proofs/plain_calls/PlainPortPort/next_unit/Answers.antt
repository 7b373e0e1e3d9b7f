use Rattle.std.proofs.Common.{◌≡◌, ◌+◌, ◌-◌, ◌++◌, ◌∷◌, [], sym, subst, ◌∙◌, not, Some, None, drop, vec_len, arith}
use Rattle.std.specs.Vec.{vec_capacity}
use Rattle.std.specs.List.{position}
use Rattle.sat_words.specs.Clause.{has}
use Rattle.ring_port.specs.Port.{TookUnit, TookNone}
use Rattle.ring_port.specs.Log.{KeepsLog}
use Rattle.ring_port.specs.PlainPort.{PlainData, state_of, IsPlain}
use Rattle.ring_port.proofs.PlainLemmas.{state_is, plain_port, plain_given, plain_caught}
use Rattle.ring_port.proofs.PlainSteps.{given_keeps, caught_keeps}
use Rattle.ring_port.proofs.Units.{in_range, took_unit, took_none, took_front}
use Rattle.ring_port.proofs.plain_calls.PlainPortPort.next_unit.Goals as goal

pub invariant_of-self-2 : goal.invariant_of-self-2
invariant_of-self-2 g c =
    let i = c.self.inside in
    let p : PlainData = record { vars = i.vars; start = i.store.start; held = i.store.held; waiting = i.store.waiting; opening = i.opening.items; passed = i.passed; given = i.given.items; given_room = vec_capacity i.given - vec_len i.given; written = i.written.items; hinted = i.hinted; told = i.told.items; log = i.log; last = i.last; tickets = i.tickets; stop = i.stop; looks = i.looks; caught_up = i.caught_up } in
    let some : position (λ j. not (has i.written.items j)) (drop i.passed i.opening.items) ≡ Some c.in-Some.skipped =
    (λ x. position (λ j. not (has (sym c.deref-2.ensures.value x) j)) (drop i.passed (sym c.deref.ensures.value x))) ∙ sym c.first_new_from.ensures ∙ c.in-Some.is in
    let lt = in_range i.passed c.in-Some.skipped i.opening.items i.written.items c.index-unit.result.now some c.index-unit.ensures in
    let room = vec_capacity c.push_reserved.new.self - vec_len c.push_reserved.new.self in
    let before = c.self.invariant.given_room in
    let size = c.push_reserved.ensures.len in
    let capacity = c.push_reserved.ensures.capacity in
    subst (λ ls. IsPlain (record p { passed = i.passed + c.in-Some.skipped + 1; given = ls; given_room = room })) (sym c.push_reserved.ensures.items)
    (plain_given p c.self.invariant (i.passed + c.in-Some.skipped + 1) (i.given.items ++ c.index-unit.result.now ∷ []) room (omega arith)
    (took_front p c.self.invariant c.in-Some.skipped c.index-unit.result.now some c.index-unit.ensures) (omega arith))

pub returns-clause-port : goal.returns-clause-port
returns-clause-port g c = plain_port _ (invariant_of-self-2 g c)

pub returns-clause-took : goal.returns-clause-took
returns-clause-took g c =
    let i = c.self.inside in
    let p : PlainData = record { vars = i.vars; start = i.store.start; held = i.store.held; waiting = i.store.waiting; opening = i.opening.items; passed = i.passed; given = i.given.items; given_room = vec_capacity i.given - vec_len i.given; written = i.written.items; hinted = i.hinted; told = i.told.items; log = i.log; last = i.last; tickets = i.tickets; stop = i.stop; looks = i.looks; caught_up = i.caught_up } in
    let some : position (λ j. not (has i.written.items j)) (drop i.passed i.opening.items) ≡ Some c.in-Some.skipped =
    (λ x. position (λ j. not (has (sym c.deref-2.ensures.value x) j)) (drop i.passed (sym c.deref.ensures.value x))) ∙ sym c.first_new_from.ensures ∙ c.in-Some.is in
    let room = vec_capacity c.push_reserved.new.self - vec_len c.push_reserved.new.self in
    subst (λ s. TookUnit s (state_of (record p { passed = i.passed + c.in-Some.skipped + 1; given = c.push_reserved.new.self.items; given_room = room })) c.index-unit.result.now) (state_is c.self.view_is)
    (subst (λ ls. TookUnit (state_of p) (state_of (record p { passed = i.passed + c.in-Some.skipped + 1; given = ls; given_room = room })) c.index-unit.result.now) (sym c.push_reserved.ensures.items)
    (took_unit p c.self.invariant c.in-Some.skipped room c.index-unit.result.now some c.index-unit.ensures))

pub returns-clause-log : goal.returns-clause-log
returns-clause-log g c =
    let i = c.self.inside in
    let p : PlainData = record { vars = i.vars; start = i.store.start; held = i.store.held; waiting = i.store.waiting; opening = i.opening.items; passed = i.passed; given = i.given.items; given_room = vec_capacity i.given - vec_len i.given; written = i.written.items; hinted = i.hinted; told = i.told.items; log = i.log; last = i.last; tickets = i.tickets; stop = i.stop; looks = i.looks; caught_up = i.caught_up } in
    let room = vec_capacity c.push_reserved.new.self - vec_len c.push_reserved.new.self in
    subst (λ s. KeepsLog s (state_of (record p { passed = i.passed + c.in-Some.skipped + 1; given = c.push_reserved.new.self.items; given_room = room }))) (state_is c.self.view_is)
    (given_keeps p (i.passed + c.in-Some.skipped + 1) c.push_reserved.new.self.items room)

pub returns-in_default-clause-took : goal.returns-in_default-clause-took
returns-in_default-clause-took g c =
    let i = c.self.inside in
    let p : PlainData = record { vars = i.vars; start = i.store.start; held = i.store.held; waiting = i.store.waiting; opening = i.opening.items; passed = i.passed; given = i.given.items; given_room = vec_capacity i.given - vec_len i.given; written = i.written.items; hinted = i.hinted; told = i.told.items; log = i.log; last = i.last; tickets = i.tickets; stop = i.stop; looks = i.looks; caught_up = i.caught_up } in
    let none : position (λ j. not (has i.written.items j)) (drop i.passed i.opening.items) ≡ None =
    (λ x. position (λ j. not (has (sym c.deref-2.ensures.value x) j)) (drop i.passed (sym c.deref.ensures.value x))) ∙ sym c.first_new_from.ensures ∙ c.in_default.is in
    subst (λ s. TookNone s (state_of (record p { caught_up = c.saturating_add-self-inside.result }))) (state_is c.self.view_is)
    (took_none p none c.saturating_add-self-inside.result c.saturating_add-self-inside.ensures)

pub returns-in_default-clause-log : goal.returns-in_default-clause-log
returns-in_default-clause-log g c =
    let i = c.self.inside in
    let p : PlainData = record { vars = i.vars; start = i.store.start; held = i.store.held; waiting = i.store.waiting; opening = i.opening.items; passed = i.passed; given = i.given.items; given_room = vec_capacity i.given - vec_len i.given; written = i.written.items; hinted = i.hinted; told = i.told.items; log = i.log; last = i.last; tickets = i.tickets; stop = i.stop; looks = i.looks; caught_up = i.caught_up } in
    subst (λ s. KeepsLog s (state_of (record p { caught_up = c.saturating_add-self-inside.result }))) (state_is c.self.view_is) (caught_keeps p c.saturating_add-self-inside.result)

pub returns-in_default-clause-port : goal.returns-in_default-clause-port
returns-in_default-clause-port g c =
    let i = c.self.inside in
    let p : PlainData = record { vars = i.vars; start = i.store.start; held = i.store.held; waiting = i.store.waiting; opening = i.opening.items; passed = i.passed; given = i.given.items; given_room = vec_capacity i.given - vec_len i.given; written = i.written.items; hinted = i.hinted; told = i.told.items; log = i.log; last = i.last; tickets = i.tickets; stop = i.stop; looks = i.looks; caught_up = i.caught_up } in
    plain_port _ (plain_caught p c.self.invariant c.saturating_add-self-inside.result)
