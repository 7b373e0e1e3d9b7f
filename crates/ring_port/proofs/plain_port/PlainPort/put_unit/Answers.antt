use Rattle.std.proofs.Common.{◌≡◌, sym, ap, subst, ◌∙◌, true, List, ◌∷◌, [], ◌++◌, ◌-◌, ℕ, vec_len, refl}
use Rattle.std.specs.Vec.{vec_capacity}
use Rattle.std.specs.Option.{option_map}
use Rattle.sat_words.specs.Literal.{Literal}
use Rattle.drat_text.specs.LineOut.{added_line}
use Rattle.rup_model.specs.Rup.{rup}
use Rattle.ring_port.proofs.LogSteps.{one_All}
use Rattle.ring_port.specs.PortState.{IsPort, IsOn, known}
use Rattle.ring_port.specs.Port.{is_usable, AreHints, WroteUnit}
use Rattle.ring_port.specs.Log.{KeepsLog}
use Rattle.ring_port.specs.OwnLog.{LogData, AddedEntry, NotPut}
use Rattle.ring_port.specs.declared.draw.Tickets.{Tickets}
use Rattle.ring_port.specs.PlainPort.{PlainData, state_of, IsPlain, told_with}
use Rattle.ring_port.proofs.PlainLemmas.{state_is, plain_port, plain_log, plain_unit, same_last, last_kept, next_given}
use Rattle.ring_port.proofs.PlainSteps.{unit_keeps, unit_put, refused_keeps, ends_with}
use Rattle.ring_port.proofs.plain_port.PlainPort.put_unit.Goals as goal

pub invariant_of-self-2 : goal.invariant_of-self-2
invariant_of-self-2 g c =
    let i = c.self.inside in
    let p : PlainData = record { vars = i.vars; start = i.store.start; held = i.store.held; waiting = i.store.waiting; opening = i.opening.items; passed = i.passed; given = i.given.items; given_room = vec_capacity i.given - vec_len i.given; written = i.written.items; hinted = i.hinted; told = i.told.items; log = i.log; last = i.last; tickets = i.tickets; stop = i.stop; looks = i.looks; caught_up = i.caught_up } in
    let number = c.in_ok-number.number in
    let written : c.push_reserved.new.self.items ≡ i.written.items ++ c.args.lit ∷ [] = c.push_reserved.ensures.items ∙ ap (λ ls. ls ++ c.args.lit ∷ []) c.make_unit_room.ensures.written in
    let told : c.note_told.new.told.items ≡ told_with i.hinted i.told.items c.args.lit number = c.note_told.ensures ∙ ap (λ us. told_with i.hinted us c.args.lit number) c.make_unit_room.ensures.told in
    let added : AddedEntry (record i.log { room = c.make_room.new.self.room }) c.add.new.self (c.args.lit ∷ []) c.args.kind c.args.hints.now number =
    subst (λ k. AddedEntry k c.add.new.self (c.args.lit ∷ []) c.args.kind c.args.hints.now number) c.make_room.ensures.same
    (subst (λ (z : List Literal × List ℕ). AddedEntry c.make_room.new.self c.add.new.self z.0 c.args.kind z.1 number) (λ j. (c.in-Ok.ensures j, c.in-Ok-from_slice.ensures j)) c.in_ok-number.ensures) in
    subst (λ (w : List Literal × List (Literal × ℕ)). IsPlain (record p { written = w.0; told = w.1; log = c.add.new.self; last = c.args.last; tickets = c.use_for.new.self })) (λ j. (sym written j, sym told j))
    (plain_unit p c.self.invariant c.args.lit (subst (λ s. IsOn s.vars c.args.lit) (sym (state_is c.self.view_is)) c.requires.on) c.add.new.self number
    (next_given (record i.log { room = c.make_room.new.self.room }) c.add.new.self (c.args.lit ∷ []) c.args.kind c.args.hints.now number added) c.args.last c.use_for.new.self (ap (λ (k : Tickets). k.limit) c.use_for.ensures))

pub returns-clause-port : goal.returns-clause-port
returns-clause-port g c = plain_port _ (invariant_of-self-2 g c)

pub returns-clause-hints : goal.returns-clause-hints
returns-clause-hints g c =
    let i = c.self.inside in
    let p : PlainData = record { vars = i.vars; start = i.store.start; held = i.store.held; waiting = i.store.waiting; opening = i.opening.items; passed = i.passed; given = i.given.items; given_room = vec_capacity i.given - vec_len i.given; written = i.written.items; hinted = i.hinted; told = i.told.items; log = i.log; last = i.last; tickets = i.tickets; stop = i.stop; looks = i.looks; caught_up = i.caught_up } in
    let number = c.in_ok-number.number in
    let added : AddedEntry (record i.log { room = c.make_room.new.self.room }) c.add.new.self (c.args.lit ∷ []) c.args.kind c.args.hints.now number =
    subst (λ k. AddedEntry k c.add.new.self (c.args.lit ∷ []) c.args.kind c.args.hints.now number) c.make_room.ensures.same
    (subst (λ (z : List Literal × List ℕ). AddedEntry c.make_room.new.self c.add.new.self z.0 c.args.kind z.1 number) (λ j. (c.in-Ok.ensures j, c.in-Ok-from_slice.ensures j)) c.in_ok-number.ensures) in
    ends_with p c.make_room.new.self.room c.add.new.self (c.args.lit ∷ []) c.args.kind c.args.hints.now number added c.add.new.self refl

pub returns-clause-put : goal.returns-clause-put
returns-clause-put g c =
    let i = c.self.inside in
    let p : PlainData = record { vars = i.vars; start = i.store.start; held = i.store.held; waiting = i.store.waiting; opening = i.opening.items; passed = i.passed; given = i.given.items; given_room = vec_capacity i.given - vec_len i.given; written = i.written.items; hinted = i.hinted; told = i.told.items; log = i.log; last = i.last; tickets = i.tickets; stop = i.stop; looks = i.looks; caught_up = i.caught_up } in
    let number = c.in_ok-number.number in
    let written : c.push_reserved.new.self.items ≡ i.written.items ++ c.args.lit ∷ [] = c.push_reserved.ensures.items ∙ ap (λ ls. ls ++ c.args.lit ∷ []) c.make_unit_room.ensures.written in
    let told : c.note_told.new.told.items ≡ told_with i.hinted i.told.items c.args.lit number = c.note_told.ensures ∙ ap (λ us. told_with i.hinted us c.args.lit number) c.make_unit_room.ensures.told in
    let added : AddedEntry (record i.log { room = c.make_room.new.self.room }) c.add.new.self (c.args.lit ∷ []) c.args.kind c.args.hints.now number =
    subst (λ k. AddedEntry k c.add.new.self (c.args.lit ∷ []) c.args.kind c.args.hints.now number) c.make_room.ensures.same
    (subst (λ (z : List Literal × List ℕ). AddedEntry c.make_room.new.self c.add.new.self z.0 c.args.kind z.1 number) (λ j. (c.in-Ok.ensures j, c.in-Ok-from_slice.ensures j)) c.in_ok-number.ensures) in
    subst (λ s. WroteUnit s (state_of (record p { written = c.push_reserved.new.self.items; told = c.note_told.new.told.items; log = c.add.new.self; last = c.args.last; tickets = c.use_for.new.self })) c.args.lit c.args.kind (option_map (λ x. x.address) c.args.last)) (state_is c.self.view_is)
    (subst (λ (w : List Literal × List (Literal × ℕ)). WroteUnit (state_of p) (state_of (record p { written = w.0; told = w.1; log = c.add.new.self; last = c.args.last; tickets = c.use_for.new.self })) c.args.lit c.args.kind (option_map (λ x. x.address) c.args.last)) (λ j. (sym written j, sym told j))
    (unit_put p c.make_room.new.self.room c.add.new.self c.args.lit c.args.kind number c.args.hints.now c.args.last c.use_for.new.self c.use_for.ensures added))

pub returns-clause-log : goal.returns-clause-log
returns-clause-log g c =
    let i = c.self.inside in
    let p : PlainData = record { vars = i.vars; start = i.store.start; held = i.store.held; waiting = i.store.waiting; opening = i.opening.items; passed = i.passed; given = i.given.items; given_room = vec_capacity i.given - vec_len i.given; written = i.written.items; hinted = i.hinted; told = i.told.items; log = i.log; last = i.last; tickets = i.tickets; stop = i.stop; looks = i.looks; caught_up = i.caught_up } in
    let number = c.in_ok-number.number in
    let written : c.push_reserved.new.self.items ≡ i.written.items ++ c.args.lit ∷ [] = c.push_reserved.ensures.items ∙ ap (λ ls. ls ++ c.args.lit ∷ []) c.make_unit_room.ensures.written in
    let told : c.note_told.new.told.items ≡ told_with i.hinted i.told.items c.args.lit number = c.note_told.ensures ∙ ap (λ us. told_with i.hinted us c.args.lit number) c.make_unit_room.ensures.told in
    let usable : is_usable i.log.refused ≡ true = subst (λ s. is_usable s.refused ≡ true) (sym (state_is c.self.view_is)) c.requires.usable in
    let on : IsOn i.vars c.args.lit = subst (λ s. IsOn s.vars c.args.lit) (sym (state_is c.self.view_is)) c.requires.on in
    let follows : rup (known (state_of p)) (c.args.lit ∷ []) ≡ true = subst (λ s. rup (known s) (c.args.lit ∷ []) ≡ true) (sym (state_is c.self.view_is)) c.requires.rup in
    let fit : AreHints (state_of p) (c.args.lit ∷ []) c.args.hints.now = subst (λ s. AreHints s (c.args.lit ∷ []) c.args.hints.now) (sym (state_is c.self.view_is)) c.requires.hints in
    let added : AddedEntry (record i.log { room = c.make_room.new.self.room }) c.add.new.self (c.args.lit ∷ []) c.args.kind c.args.hints.now number =
    subst (λ k. AddedEntry k c.add.new.self (c.args.lit ∷ []) c.args.kind c.args.hints.now number) c.make_room.ensures.same
    (subst (λ (z : List Literal × List ℕ). AddedEntry c.make_room.new.self c.add.new.self z.0 c.args.kind z.1 number) (λ j. (c.in-Ok.ensures j, c.in-Ok-from_slice.ensures j)) c.in_ok-number.ensures) in
    subst (λ s. KeepsLog s (state_of (record p { written = c.push_reserved.new.self.items; told = c.note_told.new.told.items; log = c.add.new.self; last = c.args.last; tickets = c.use_for.new.self }))) (state_is c.self.view_is)
    (subst (λ (w : List Literal × List (Literal × ℕ)). KeepsLog (state_of p) (state_of (record p { written = w.0; told = w.1; log = c.add.new.self; last = c.args.last; tickets = c.use_for.new.self }))) (λ j. (sym written j, sym told j))
    (unit_keeps p c.make_room.new.self.room c.add.new.self c.args.lit c.args.kind number c.args.hints.now c.args.last c.use_for.new.self usable on follows fit added))

pub returns-in_err-number-clause-port : goal.returns-in_err-number-clause-port
returns-in_err-number-clause-port g c =
    let i = c.self.inside in
    let p : PlainData = record { vars = i.vars; start = i.store.start; held = i.store.held; waiting = i.store.waiting; opening = i.opening.items; passed = i.passed; given = i.given.items; given_room = vec_capacity i.given - vec_len i.given; written = i.written.items; hinted = i.hinted; told = i.told.items; log = i.log; last = i.last; tickets = i.tickets; stop = i.stop; looks = i.looks; caught_up = i.caught_up } in
    subst (λ (w : List Literal × List (Literal × ℕ)). IsPort (state_of (record p { written = w.0; told = w.1; log = c.add.new.self }))) (λ j. (sym c.make_unit_room.ensures.written j, sym c.make_unit_room.ensures.told j))
    (plain_port _ (plain_log p c.self.invariant c.add.new.self i.last
    (same_last (last_kept c.make_room.new.self c.add.new.self (added_line c.make_room.new.self.output c.in-Ok.lits c.in-Ok-from_slice.copy) c.in_err-number.field-0.0 c.in_err-number.ensures ∙ ap (λ (k : LogData). k.output.last) c.make_room.ensures.same))))

pub returns-in_err-number-clause-log : goal.returns-in_err-number-clause-log
returns-in_err-number-clause-log g c =
    let i = c.self.inside in
    let p : PlainData = record { vars = i.vars; start = i.store.start; held = i.store.held; waiting = i.store.waiting; opening = i.opening.items; passed = i.passed; given = i.given.items; given_room = vec_capacity i.given - vec_len i.given; written = i.written.items; hinted = i.hinted; told = i.told.items; log = i.log; last = i.last; tickets = i.tickets; stop = i.stop; looks = i.looks; caught_up = i.caught_up } in
    let usable : is_usable i.log.refused ≡ true = subst (λ s. is_usable s.refused ≡ true) (sym (state_is c.self.view_is)) c.requires.usable in
    let on : IsOn i.vars c.args.lit = subst (λ s. IsOn s.vars c.args.lit) (sym (state_is c.self.view_is)) c.requires.on in
    let fit : AreHints (state_of p) (c.args.lit ∷ []) c.args.hints.now = subst (λ s. AreHints s (c.args.lit ∷ []) c.args.hints.now) (sym (state_is c.self.view_is)) c.requires.hints in
    let follows : rup (known (state_of p)) (c.args.lit ∷ []) ≡ true = subst (λ s. rup (known s) (c.args.lit ∷ []) ≡ true) (sym (state_is c.self.view_is)) c.requires.rup in
    let why : NotPut (record i.log { room = c.make_room.new.self.room }) c.add.new.self (added_line i.log.output (c.args.lit ∷ []) c.args.hints.now) c.in_err-number.field-0.0 =
    subst (λ k. NotPut k c.add.new.self (added_line k.output (c.args.lit ∷ []) c.args.hints.now) c.in_err-number.field-0.0) c.make_room.ensures.same
    (subst (λ (z : List Literal × List ℕ). NotPut c.make_room.new.self c.add.new.self (added_line c.make_room.new.self.output z.0 z.1) c.in_err-number.field-0.0) (λ j. (c.in-Ok.ensures j, c.in-Ok-from_slice.ensures j)) c.in_err-number.ensures) in
    subst (λ s. KeepsLog s (state_of (record p { written = c.make_unit_room.new.written.items; told = c.make_unit_room.new.told.items; log = c.add.new.self }))) (state_is c.self.view_is)
    (subst (λ (w : List Literal × List (Literal × ℕ)). KeepsLog (state_of p) (state_of (record p { written = w.0; told = w.1; log = c.add.new.self }))) (λ j. (sym c.make_unit_room.ensures.written j, sym c.make_unit_room.ensures.told j))
    (refused_keeps p c.make_room.new.self.room c.add.new.self (c.args.lit ∷ []) c.args.hints.now c.in_err-number.field-0.0 usable (one_All (IsOn i.vars) c.args.lit on) follows fit why))

pub returns-in_err-make_room-clause-port : goal.returns-in_err-make_room-clause-port
returns-in_err-make_room-clause-port g c =
    let i = c.self.inside in
    let p : PlainData = record { vars = i.vars; start = i.store.start; held = i.store.held; waiting = i.store.waiting; opening = i.opening.items; passed = i.passed; given = i.given.items; given_room = vec_capacity i.given - vec_len i.given; written = i.written.items; hinted = i.hinted; told = i.told.items; log = i.log; last = i.last; tickets = i.tickets; stop = i.stop; looks = i.looks; caught_up = i.caught_up } in
    plain_port _ (plain_log p c.self.invariant c.make_room.new.self i.last (same_last (ap (λ (k : LogData). k.output.last) c.make_room.ensures.same)))

pub returns-in_err-make_unit_room-clause-port : goal.returns-in_err-make_unit_room-clause-port
returns-in_err-make_unit_room-clause-port g c =
    let i = c.self.inside in
    let p : PlainData = record { vars = i.vars; start = i.store.start; held = i.store.held; waiting = i.store.waiting; opening = i.opening.items; passed = i.passed; given = i.given.items; given_room = vec_capacity i.given - vec_len i.given; written = i.written.items; hinted = i.hinted; told = i.told.items; log = i.log; last = i.last; tickets = i.tickets; stop = i.stop; looks = i.looks; caught_up = i.caught_up } in
    subst (λ (w : List Literal × List (Literal × ℕ)). IsPort (state_of (record p { written = w.0; told = w.1; log = c.make_room.new.self }))) (λ j. (sym c.make_unit_room.ensures.written j, sym c.make_unit_room.ensures.told j))
    (plain_port _ (plain_log p c.self.invariant c.make_room.new.self i.last (same_last (ap (λ (k : LogData). k.output.last) c.make_room.ensures.same))))

pub returns-in_default-clause-port : goal.returns-in_default-clause-port
returns-in_default-clause-port g c =
    let i = c.self.inside in
    let p : PlainData = record { vars = i.vars; start = i.store.start; held = i.store.held; waiting = i.store.waiting; opening = i.opening.items; passed = i.passed; given = i.given.items; given_room = vec_capacity i.given - vec_len i.given; written = i.written.items; hinted = i.hinted; told = i.told.items; log = i.log; last = i.last; tickets = i.tickets; stop = i.stop; looks = i.looks; caught_up = i.caught_up } in
    subst (λ (w : List Literal × List (Literal × ℕ)). IsPort (state_of (record p { written = w.0; told = w.1; log = c.make_room.new.self }))) (λ j. (sym c.make_unit_room.ensures.written j, sym c.make_unit_room.ensures.told j))
    (plain_port _ (plain_log p c.self.invariant c.make_room.new.self i.last (same_last (ap (λ (k : LogData). k.output.last) c.make_room.ensures.same))))

pub returns-in_default-from_slice-clause-port : goal.returns-in_default-from_slice-clause-port
returns-in_default-from_slice-clause-port g c =
    let i = c.self.inside in
    let p : PlainData = record { vars = i.vars; start = i.store.start; held = i.store.held; waiting = i.store.waiting; opening = i.opening.items; passed = i.passed; given = i.given.items; given_room = vec_capacity i.given - vec_len i.given; written = i.written.items; hinted = i.hinted; told = i.told.items; log = i.log; last = i.last; tickets = i.tickets; stop = i.stop; looks = i.looks; caught_up = i.caught_up } in
    subst (λ (w : List Literal × List (Literal × ℕ)). IsPort (state_of (record p { written = w.0; told = w.1; log = c.make_room.new.self }))) (λ j. (sym c.make_unit_room.ensures.written j, sym c.make_unit_room.ensures.told j))
    (plain_port _ (plain_log p c.self.invariant c.make_room.new.self i.last (same_last (ap (λ (k : LogData). k.output.last) c.make_room.ensures.same))))
