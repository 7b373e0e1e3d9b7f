use Rattle.std.proofs.Common.{◌≡◌, sym, ap, subst, ◌∙◌, true, List, [], ℕ, arith, ◌-◌, vec_len}
use Rattle.std.specs.Vec.{vec_capacity}
use Rattle.std.specs.List.{All}
use Rattle.sat_words.specs.Literal.{Literal}
use Rattle.drat_text.specs.LineOut.{added_line}
use Rattle.rup_model.specs.declared.journal.Kind.TheVariants.{Derive}
use Rattle.rup_model.specs.Rup.{rup}
use Rattle.ring_port.specs.PortState.{IsOn, known}
use Rattle.ring_port.specs.Port.{is_usable, AreHints}
use Rattle.ring_port.specs.Log.{KeepsLog}
use Rattle.ring_port.specs.OwnLog.{LogData, AddedEntry, NotPut}
use Rattle.ring_port.specs.PlainPort.{PlainData, state_of}
use Rattle.ring_port.proofs.PlainLemmas.{state_is, plain_port, plain_log, same_last, last_kept, next_given}
use Rattle.ring_port.proofs.PlainSteps.{empty_keeps, refused_keeps, ends_with}
use Rattle.ring_port.proofs.plain_calls.PlainPortPort.empty.Goals as goal

pub invariant_of-self-2 : goal.invariant_of-self-2
invariant_of-self-2 g c =
    let i = c.self.inside in
    let p : PlainData = record { vars = i.vars; start = i.store.start; held = i.store.held; waiting = i.store.waiting; opening = i.opening.items; passed = i.passed; given = i.given.items; given_room = vec_capacity i.given - vec_len i.given; written = i.written.items; hinted = i.hinted; told = i.told.items; log = i.log; last = i.last; tickets = i.tickets; stop = i.stop; looks = i.looks; caught_up = i.caught_up } in
    let added : AddedEntry (record i.log { room = c.make_room.new.self.room }) c.add.new.self [] Derive c.args.hints.now c.in_ok-add.field-0 =
    subst (λ k. AddedEntry k c.add.new.self [] Derive c.args.hints.now c.in_ok-add.field-0) c.make_room.ensures.same
    (subst (λ (z : List Literal × List ℕ). AddedEntry c.make_room.new.self c.add.new.self z.0 Derive z.1 c.in_ok-add.field-0) (λ j. ((c.from_vec-none.ensures ∙ c.new.ensures.items) j, c.in-Ok.ensures j)) c.in_ok-add.ensures) in
    let next = (next_given (record i.log { room = c.make_room.new.self.room }) c.add.new.self [] Derive c.args.hints.now c.in_ok-add.field-0 added).1 in
    let ends = ap (λ (k : LogData). k.output.last) c.end.ensures in
    plain_log p c.self.invariant c.end.new.self i.last (omega arith)

pub returns-clause-port : goal.returns-clause-port
returns-clause-port g c = plain_port _ (invariant_of-self-2 g c)

pub returns-clause-log : goal.returns-clause-log
returns-clause-log g c =
    let i = c.self.inside in
    let p : PlainData = record { vars = i.vars; start = i.store.start; held = i.store.held; waiting = i.store.waiting; opening = i.opening.items; passed = i.passed; given = i.given.items; given_room = vec_capacity i.given - vec_len i.given; written = i.written.items; hinted = i.hinted; told = i.told.items; log = i.log; last = i.last; tickets = i.tickets; stop = i.stop; looks = i.looks; caught_up = i.caught_up } in
    let usable : is_usable i.log.refused ≡ true = subst (λ s. is_usable s.refused ≡ true) (sym (state_is c.self.view_is)) c.requires.usable in
    let follows : rup (known (state_of p)) [] ≡ true = subst (λ s. rup (known s) [] ≡ true) (sym (state_is c.self.view_is)) c.requires.rup in
    let fit : AreHints (state_of p) [] c.args.hints.now = subst (λ s. AreHints s [] c.args.hints.now) (sym (state_is c.self.view_is)) c.requires.hints in
    let added : AddedEntry (record i.log { room = c.make_room.new.self.room }) c.add.new.self [] Derive c.args.hints.now c.in_ok-add.field-0 =
    subst (λ k. AddedEntry k c.add.new.self [] Derive c.args.hints.now c.in_ok-add.field-0) c.make_room.ensures.same
    (subst (λ (z : List Literal × List ℕ). AddedEntry c.make_room.new.self c.add.new.self z.0 Derive z.1 c.in_ok-add.field-0) (λ j. ((c.from_vec-none.ensures ∙ c.new.ensures.items) j, c.in-Ok.ensures j)) c.in_ok-add.ensures) in
    subst (λ s. KeepsLog s (state_of (record p { log = c.end.new.self }))) (state_is c.self.view_is)
    (subst (λ k. KeepsLog (state_of p) (state_of (record p { log = k }))) (sym c.end.ensures)
    (empty_keeps p c.make_room.new.self.room c.add.new.self Derive c.in_ok-add.field-0 c.args.hints.now usable follows fit added))

pub returns-in_err-add-clause-port : goal.returns-in_err-add-clause-port
returns-in_err-add-clause-port g c =
    let i = c.self.inside in
    let p : PlainData = record { vars = i.vars; start = i.store.start; held = i.store.held; waiting = i.store.waiting; opening = i.opening.items; passed = i.passed; given = i.given.items; given_room = vec_capacity i.given - vec_len i.given; written = i.written.items; hinted = i.hinted; told = i.told.items; log = i.log; last = i.last; tickets = i.tickets; stop = i.stop; looks = i.looks; caught_up = i.caught_up } in
    plain_port _ (plain_log p c.self.invariant c.add.new.self i.last
    (same_last (last_kept c.make_room.new.self c.add.new.self (added_line c.make_room.new.self.output c.from_vec-none.result c.in-Ok.copy) c.in_err-add.field-0.0 c.in_err-add.ensures ∙ ap (λ (k : LogData). k.output.last) c.make_room.ensures.same)))

pub returns-in_err-add-clause-log : goal.returns-in_err-add-clause-log
returns-in_err-add-clause-log g c =
    let i = c.self.inside in
    let p : PlainData = record { vars = i.vars; start = i.store.start; held = i.store.held; waiting = i.store.waiting; opening = i.opening.items; passed = i.passed; given = i.given.items; given_room = vec_capacity i.given - vec_len i.given; written = i.written.items; hinted = i.hinted; told = i.told.items; log = i.log; last = i.last; tickets = i.tickets; stop = i.stop; looks = i.looks; caught_up = i.caught_up } in
    let usable : is_usable i.log.refused ≡ true = subst (λ s. is_usable s.refused ≡ true) (sym (state_is c.self.view_is)) c.requires.usable in
    let fit : AreHints (state_of p) [] c.args.hints.now = subst (λ s. AreHints s [] c.args.hints.now) (sym (state_is c.self.view_is)) c.requires.hints in
    let follows : rup (known (state_of p)) [] ≡ true = subst (λ s. rup (known s) [] ≡ true) (sym (state_is c.self.view_is)) c.requires.rup in
    let none : All (IsOn i.vars) [] = λ k d lt. absurd (omega arith) in
    let why : NotPut (record i.log { room = c.make_room.new.self.room }) c.add.new.self (added_line i.log.output [] c.args.hints.now) c.in_err-add.field-0.0 =
    subst (λ k. NotPut k c.add.new.self (added_line k.output [] c.args.hints.now) c.in_err-add.field-0.0) c.make_room.ensures.same
    (subst (λ (z : List Literal × List ℕ). NotPut c.make_room.new.self c.add.new.self (added_line c.make_room.new.self.output z.0 z.1) c.in_err-add.field-0.0) (λ j. ((c.from_vec-none.ensures ∙ c.new.ensures.items) j, c.in-Ok.ensures j)) c.in_err-add.ensures) in
    subst (λ s. KeepsLog s (state_of (record p { log = c.add.new.self }))) (state_is c.self.view_is)
    (refused_keeps p c.make_room.new.self.room c.add.new.self [] c.args.hints.now c.in_err-add.field-0.0 usable none follows fit why)

pub returns-in_err-make_room-clause-port : goal.returns-in_err-make_room-clause-port
returns-in_err-make_room-clause-port g c =
    let i = c.self.inside in
    let p : PlainData = record { vars = i.vars; start = i.store.start; held = i.store.held; waiting = i.store.waiting; opening = i.opening.items; passed = i.passed; given = i.given.items; given_room = vec_capacity i.given - vec_len i.given; written = i.written.items; hinted = i.hinted; told = i.told.items; log = i.log; last = i.last; tickets = i.tickets; stop = i.stop; looks = i.looks; caught_up = i.caught_up } in
    plain_port _ (plain_log p c.self.invariant c.make_room.new.self i.last (same_last (ap (λ (k : LogData). k.output.last) c.make_room.ensures.same)))

pub returns-in_default-clause-port : goal.returns-in_default-clause-port
returns-in_default-clause-port g c =
    let i = c.self.inside in
    let p : PlainData = record { vars = i.vars; start = i.store.start; held = i.store.held; waiting = i.store.waiting; opening = i.opening.items; passed = i.passed; given = i.given.items; given_room = vec_capacity i.given - vec_len i.given; written = i.written.items; hinted = i.hinted; told = i.told.items; log = i.log; last = i.last; tickets = i.tickets; stop = i.stop; looks = i.looks; caught_up = i.caught_up } in
    plain_port _ (plain_log p c.self.invariant c.make_room.new.self i.last (same_last (ap (λ (k : LogData). k.output.last) c.make_room.ensures.same)))

pub returns-clause-hints : goal.returns-clause-hints
returns-clause-hints g c =
    let i = c.self.inside in
    let p : PlainData = record { vars = i.vars; start = i.store.start; held = i.store.held; waiting = i.store.waiting; opening = i.opening.items; passed = i.passed; given = i.given.items; given_room = vec_capacity i.given - vec_len i.given; written = i.written.items; hinted = i.hinted; told = i.told.items; log = i.log; last = i.last; tickets = i.tickets; stop = i.stop; looks = i.looks; caught_up = i.caught_up } in
    let added : AddedEntry (record i.log { room = c.make_room.new.self.room }) c.add.new.self [] Derive c.args.hints.now c.in_ok-add.field-0 =
    subst (λ k. AddedEntry k c.add.new.self [] Derive c.args.hints.now c.in_ok-add.field-0) c.make_room.ensures.same
    (subst (λ (z : List Literal × List ℕ). AddedEntry c.make_room.new.self c.add.new.self z.0 Derive z.1 c.in_ok-add.field-0) (λ j. ((c.from_vec-none.ensures ∙ c.new.ensures.items) j, c.in-Ok.ensures j)) c.in_ok-add.ensures) in
    ends_with p c.make_room.new.self.room c.add.new.self [] Derive c.args.hints.now c.in_ok-add.field-0 added c.end.new.self (ap (λ (k : LogData). k.mine) c.end.ensures)
