use Rattle.std.proofs.Common.{◌≡◌, ◌≢◌, List, sym, ap, subst, ◌∙◌, true, ◌∷◌, [], ◌++◌, ◌-◌, ℕ, refl, vec_len}
use Rattle.std.specs.Vec.{vec_capacity}
use Rattle.std.specs.List.{All}
use Rattle.sat_words.specs.Literal.{Literal}
use Rattle.drat_text.specs.LineOut.{added_line}
use Rattle.rup_model.specs.Rup.{rup}
use Rattle.ring_port.specs.PortState.{Holding, IsPort, IsKept, known}
use Rattle.ring_port.specs.Port.{is_usable, holding_of, IsClause, KeepsHeld, AddedClause, AreHints}
use Rattle.ring_port.specs.Log.{KeepsLog}
use Rattle.ring_port.specs.OwnLog.{LogData, AddedEntry, NotPut}
use Rattle.ring_port.specs.declared.draw.Tickets.{Tickets}
use Rattle.ring_port.specs.PlainPort.{PlainData, state_of, IsPlain}
use Rattle.ring_port.proofs.PlainLemmas.{state_is, plain_port, plain_log, plain_pushed, kept_pushed, same_lookup, same_last, last_kept, next_given}
use Rattle.ring_port.proofs.PlainSteps.{clause_keeps, clause_put, refused_keeps, ends_with}
use Rattle.ring_port.proofs.plain_port.PlainPort.put_clause.Goals as goal

pub invariant_of-self-2 : goal.invariant_of-self-2
invariant_of-self-2 g c =
    let i = c.self.inside in
    let p : PlainData = record { vars = i.vars; start = i.store.start; held = i.store.held; waiting = i.store.waiting; opening = i.opening.items; passed = i.passed; given = i.given.items; given_room = vec_capacity i.given - vec_len i.given; written = i.written.items; hinted = i.hinted; told = i.told.items; log = i.log; last = i.last; tickets = i.tickets; stop = i.stop; looks = i.looks; caught_up = i.caught_up } in
    let x : Holding = holding_of c.push-c.result c.in_ok-number.number c.args.glue c.args.lits.now in
    let begun : c.push-c.new.self.start ≡ i.store.start = c.push-c.ensures.start ∙ c.make_room.ensures.start in
    let waits : c.push-c.new.self.waiting ≡ i.store.waiting = c.push-c.ensures.waiting ∙ c.make_room.ensures.waiting in
    let pushed : c.push-c.new.self.held ≡ i.store.held ++ x ∷ [] = c.push-c.ensures.held ∙ ap (λ hs. hs ++ x ∷ []) c.make_room.ensures.held in
    let not_held : All (λ h. h.address ≢ c.push-c.result.address) i.store.held = subst (λ (hs : List Holding). All (λ h. h.address ≢ c.push-c.result.address) hs) c.make_room.ensures.held c.push-c.ensures.not_held in
    let not_waiting : All (λ h. h.address ≢ c.push-c.result.address) i.store.waiting = subst (λ (hs : List Holding). All (λ h. h.address ≢ c.push-c.result.address) hs) c.make_room.ensures.waiting c.push-c.ensures.not_waiting in
    let clause = subst (λ s. IsClause s.vars c.args.lits.now) (sym (state_is c.self.view_is)) c.requires.clause in
    let kept : IsKept i.vars x = record { shape = record { long = c.requires.long; distinct = clause.distinct; no_opposites = clause.no_opposites }; on = clause.on } in
    let added : AddedEntry (record i.log { room = c.make_room-2.new.self.room }) c.add.new.self c.args.lits.now c.args.kind c.args.hints.now c.in_ok-number.number =
    subst (λ k. AddedEntry k c.add.new.self c.args.lits.now c.args.kind c.args.hints.now c.in_ok-number.number) c.make_room-2.ensures.same
    (subst (λ (z : List Literal × List ℕ). AddedEntry c.make_room-2.new.self c.add.new.self z.0 c.args.kind z.1 c.in_ok-number.number) (λ j. (c.in-Ok.ensures j, c.in-Ok-from_slice.ensures j)) c.in_ok-number.ensures) in
    subst (λ (w : List Holding × List Holding × List Holding). IsPlain (record p { start = w.0; held = w.1; waiting = w.2; log = c.add.new.self; last = c.last_after-last.result; tickets = c.use_for.new.self })) (λ j. (sym begun j, sym pushed j, sym waits j))
    (plain_pushed p c.self.invariant x kept not_held not_waiting c.add.new.self
    (next_given (record i.log { room = c.make_room-2.new.self.room }) c.add.new.self c.args.lits.now c.args.kind c.args.hints.now c.in_ok-number.number added) c.last_after-last.result c.use_for.new.self (ap (λ (k : Tickets). k.limit) c.use_for.ensures))

pub returns-clause-hints : goal.returns-clause-hints
returns-clause-hints g c =
    let i = c.self.inside in
    let p : PlainData = record { vars = i.vars; start = i.store.start; held = i.store.held; waiting = i.store.waiting; opening = i.opening.items; passed = i.passed; given = i.given.items; given_room = vec_capacity i.given - vec_len i.given; written = i.written.items; hinted = i.hinted; told = i.told.items; log = i.log; last = i.last; tickets = i.tickets; stop = i.stop; looks = i.looks; caught_up = i.caught_up } in
    let added : AddedEntry (record i.log { room = c.make_room-2.new.self.room }) c.add.new.self c.args.lits.now c.args.kind c.args.hints.now c.in_ok-number.number =
    subst (λ k. AddedEntry k c.add.new.self c.args.lits.now c.args.kind c.args.hints.now c.in_ok-number.number) c.make_room-2.ensures.same
    (subst (λ (z : List Literal × List ℕ). AddedEntry c.make_room-2.new.self c.add.new.self z.0 c.args.kind z.1 c.in_ok-number.number) (λ j. (c.in-Ok.ensures j, c.in-Ok-from_slice.ensures j)) c.in_ok-number.ensures) in
    ends_with p c.make_room-2.new.self.room c.add.new.self c.args.lits.now c.args.kind c.args.hints.now c.in_ok-number.number added c.add.new.self refl

pub returns-clause-port : goal.returns-clause-port
returns-clause-port g c = plain_port _ (invariant_of-self-2 g c)

pub returns-clause-put : goal.returns-clause-put
returns-clause-put g c =
    let i = c.self.inside in
    let p : PlainData = record { vars = i.vars; start = i.store.start; held = i.store.held; waiting = i.store.waiting; opening = i.opening.items; passed = i.passed; given = i.given.items; given_room = vec_capacity i.given - vec_len i.given; written = i.written.items; hinted = i.hinted; told = i.told.items; log = i.log; last = i.last; tickets = i.tickets; stop = i.stop; looks = i.looks; caught_up = i.caught_up } in
    let x : Holding = holding_of c.push-c.result c.in_ok-number.number c.args.glue c.args.lits.now in
    let begun : c.push-c.new.self.start ≡ i.store.start = c.push-c.ensures.start ∙ c.make_room.ensures.start in
    let waits : c.push-c.new.self.waiting ≡ i.store.waiting = c.push-c.ensures.waiting ∙ c.make_room.ensures.waiting in
    let pushed : c.push-c.new.self.held ≡ i.store.held ++ x ∷ [] = c.push-c.ensures.held ∙ ap (λ hs. hs ++ x ∷ []) c.make_room.ensures.held in
    let not_held : All (λ h. h.address ≢ c.push-c.result.address) i.store.held = subst (λ (hs : List Holding). All (λ h. h.address ≢ c.push-c.result.address) hs) c.make_room.ensures.held c.push-c.ensures.not_held in
    let not_waiting : All (λ h. h.address ≢ c.push-c.result.address) i.store.waiting = subst (λ (hs : List Holding). All (λ h. h.address ≢ c.push-c.result.address) hs) c.make_room.ensures.waiting c.push-c.ensures.not_waiting in
    let added : AddedEntry (record i.log { room = c.make_room-2.new.self.room }) c.add.new.self c.args.lits.now c.args.kind c.args.hints.now c.in_ok-number.number =
    subst (λ k. AddedEntry k c.add.new.self c.args.lits.now c.args.kind c.args.hints.now c.in_ok-number.number) c.make_room-2.ensures.same
    (subst (λ (z : List Literal × List ℕ). AddedEntry c.make_room-2.new.self c.add.new.self z.0 c.args.kind z.1 c.in_ok-number.number) (λ j. (c.in-Ok.ensures j, c.in-Ok-from_slice.ensures j)) c.in_ok-number.ensures) in
    subst (λ s. AddedClause s (state_of (record p { start = c.push-c.new.self.start; held = c.push-c.new.self.held; waiting = c.push-c.new.self.waiting; log = c.add.new.self; last = c.last_after-last.result; tickets = c.use_for.new.self })) c.args.lits.now c.args.glue c.args.kind c.push-c.result) (state_is c.self.view_is)
    (subst (λ (w : List Holding × List Holding × List Holding). AddedClause (state_of p) (state_of (record p { start = w.0; held = w.1; waiting = w.2; log = c.add.new.self; last = c.last_after-last.result; tickets = c.use_for.new.self })) c.args.lits.now c.args.glue c.args.kind c.push-c.result) (λ j. (sym begun j, sym pushed j, sym waits j))
    (clause_put p c.make_room-2.new.self.room c.add.new.self c.args.lits.now c.args.kind c.in_ok-number.number c.args.glue c.args.hints.now c.push-c.result c.last_after-last.result c.use_for.new.self not_held not_waiting c.requires.long c.last_after-last.ensures c.use_for.ensures added))

pub returns-clause-kept : goal.returns-clause-kept
returns-clause-kept g c =
    let i = c.self.inside in
    let p : PlainData = record { vars = i.vars; start = i.store.start; held = i.store.held; waiting = i.store.waiting; opening = i.opening.items; passed = i.passed; given = i.given.items; given_room = vec_capacity i.given - vec_len i.given; written = i.written.items; hinted = i.hinted; told = i.told.items; log = i.log; last = i.last; tickets = i.tickets; stop = i.stop; looks = i.looks; caught_up = i.caught_up } in
    let x : Holding = holding_of c.push-c.result c.in_ok-number.number c.args.glue c.args.lits.now in
    let begun : c.push-c.new.self.start ≡ i.store.start = c.push-c.ensures.start ∙ c.make_room.ensures.start in
    let waits : c.push-c.new.self.waiting ≡ i.store.waiting = c.push-c.ensures.waiting ∙ c.make_room.ensures.waiting in
    let pushed : c.push-c.new.self.held ≡ i.store.held ++ x ∷ [] = c.push-c.ensures.held ∙ ap (λ hs. hs ++ x ∷ []) c.make_room.ensures.held in
    subst (λ s. KeepsHeld s (state_of (record p { start = c.push-c.new.self.start; held = c.push-c.new.self.held; waiting = c.push-c.new.self.waiting; log = c.add.new.self; last = c.last_after-last.result; tickets = c.use_for.new.self }))) (state_is c.self.view_is)
    (kept_pushed (state_of p) (state_of (record p { start = c.push-c.new.self.start; held = c.push-c.new.self.held; waiting = c.push-c.new.self.waiting; log = c.add.new.self; last = c.last_after-last.result; tickets = c.use_for.new.self })) x pushed)

pub returns-clause-log : goal.returns-clause-log
returns-clause-log g c =
    let i = c.self.inside in
    let p : PlainData = record { vars = i.vars; start = i.store.start; held = i.store.held; waiting = i.store.waiting; opening = i.opening.items; passed = i.passed; given = i.given.items; given_room = vec_capacity i.given - vec_len i.given; written = i.written.items; hinted = i.hinted; told = i.told.items; log = i.log; last = i.last; tickets = i.tickets; stop = i.stop; looks = i.looks; caught_up = i.caught_up } in
    let x : Holding = holding_of c.push-c.result c.in_ok-number.number c.args.glue c.args.lits.now in
    let begun : c.push-c.new.self.start ≡ i.store.start = c.push-c.ensures.start ∙ c.make_room.ensures.start in
    let waits : c.push-c.new.self.waiting ≡ i.store.waiting = c.push-c.ensures.waiting ∙ c.make_room.ensures.waiting in
    let pushed : c.push-c.new.self.held ≡ i.store.held ++ x ∷ [] = c.push-c.ensures.held ∙ ap (λ hs. hs ++ x ∷ []) c.make_room.ensures.held in
    let added : AddedEntry (record i.log { room = c.make_room-2.new.self.room }) c.add.new.self c.args.lits.now c.args.kind c.args.hints.now c.in_ok-number.number =
    subst (λ k. AddedEntry k c.add.new.self c.args.lits.now c.args.kind c.args.hints.now c.in_ok-number.number) c.make_room-2.ensures.same
    (subst (λ (z : List Literal × List ℕ). AddedEntry c.make_room-2.new.self c.add.new.self z.0 c.args.kind z.1 c.in_ok-number.number) (λ j. (c.in-Ok.ensures j, c.in-Ok-from_slice.ensures j)) c.in_ok-number.ensures) in
    let usable : is_usable i.log.refused ≡ true = subst (λ s. is_usable s.refused ≡ true) (sym (state_is c.self.view_is)) c.requires.usable in
    let clause = subst (λ s. IsClause s.vars c.args.lits.now) (sym (state_is c.self.view_is)) c.requires.clause in
    let follows : rup (known (state_of p)) c.args.lits.now ≡ true = subst (λ s. rup (known s) c.args.lits.now ≡ true) (sym (state_is c.self.view_is)) c.requires.rup in
    let fit : AreHints (state_of p) c.args.lits.now c.args.hints.now = subst (λ s. AreHints s c.args.lits.now c.args.hints.now) (sym (state_is c.self.view_is)) c.requires.hints in
    subst (λ s. KeepsLog s (state_of (record p { start = c.push-c.new.self.start; held = c.push-c.new.self.held; waiting = c.push-c.new.self.waiting; log = c.add.new.self; last = c.last_after-last.result; tickets = c.use_for.new.self }))) (state_is c.self.view_is)
    (subst (λ (w : List Holding × List Holding × List Holding). KeepsLog (state_of p) (state_of (record p { start = w.0; held = w.1; waiting = w.2; log = c.add.new.self; last = c.last_after-last.result; tickets = c.use_for.new.self }))) (λ j. (sym begun j, sym pushed j, sym waits j))
    (clause_keeps p c.make_room-2.new.self.room c.add.new.self c.args.lits.now c.args.kind c.in_ok-number.number c.args.glue c.push-c.result.address c.args.hints.now c.last_after-last.result c.use_for.new.self c.self.invariant usable c.requires.long clause.on follows fit added))

pub returns-in_err-number-clause-port : goal.returns-in_err-number-clause-port
returns-in_err-number-clause-port g c =
    let i = c.self.inside in
    let p : PlainData = record { vars = i.vars; start = i.store.start; held = i.store.held; waiting = i.store.waiting; opening = i.opening.items; passed = i.passed; given = i.given.items; given_room = vec_capacity i.given - vec_len i.given; written = i.written.items; hinted = i.hinted; told = i.told.items; log = i.log; last = i.last; tickets = i.tickets; stop = i.stop; looks = i.looks; caught_up = i.caught_up } in
    subst (λ (w : List Holding × List Holding × List Holding). IsPort (state_of (record p { start = w.0; held = w.1; waiting = w.2; log = c.add.new.self }))) (λ j. (sym c.make_room.ensures.start j, sym c.make_room.ensures.held j, sym c.make_room.ensures.waiting j))
    (plain_port _ (plain_log p c.self.invariant c.add.new.self i.last
    (same_last (last_kept c.make_room-2.new.self c.add.new.self (added_line c.make_room-2.new.self.output c.in-Ok.copy c.in-Ok-from_slice.numbers) c.in_err-number.field-0.0 c.in_err-number.ensures ∙ ap (λ (k : LogData). k.output.last) c.make_room-2.ensures.same))))

pub returns-in_err-number-clause-kept : goal.returns-in_err-number-clause-kept
returns-in_err-number-clause-kept g c =
    let i = c.self.inside in
    let p : PlainData = record { vars = i.vars; start = i.store.start; held = i.store.held; waiting = i.store.waiting; opening = i.opening.items; passed = i.passed; given = i.given.items; given_room = vec_capacity i.given - vec_len i.given; written = i.written.items; hinted = i.hinted; told = i.told.items; log = i.log; last = i.last; tickets = i.tickets; stop = i.stop; looks = i.looks; caught_up = i.caught_up } in
    subst (λ s. KeepsHeld s (state_of (record p { start = c.make_room.new.self.start; held = c.make_room.new.self.held; waiting = c.make_room.new.self.waiting; log = c.add.new.self }))) (state_is c.self.view_is)
    (λ a some. same_lookup (state_of p) (state_of (record p { start = c.make_room.new.self.start; held = c.make_room.new.self.held; waiting = c.make_room.new.self.waiting; log = c.add.new.self })) a c.make_room.ensures.held)

pub returns-in_err-number-clause-log : goal.returns-in_err-number-clause-log
returns-in_err-number-clause-log g c =
    let i = c.self.inside in
    let p : PlainData = record { vars = i.vars; start = i.store.start; held = i.store.held; waiting = i.store.waiting; opening = i.opening.items; passed = i.passed; given = i.given.items; given_room = vec_capacity i.given - vec_len i.given; written = i.written.items; hinted = i.hinted; told = i.told.items; log = i.log; last = i.last; tickets = i.tickets; stop = i.stop; looks = i.looks; caught_up = i.caught_up } in
    let usable : is_usable i.log.refused ≡ true = subst (λ s. is_usable s.refused ≡ true) (sym (state_is c.self.view_is)) c.requires.usable in
    let clause = subst (λ s. IsClause s.vars c.args.lits.now) (sym (state_is c.self.view_is)) c.requires.clause in
    let fit : AreHints (state_of p) c.args.lits.now c.args.hints.now = subst (λ s. AreHints s c.args.lits.now c.args.hints.now) (sym (state_is c.self.view_is)) c.requires.hints in
    let follows : rup (known (state_of p)) c.args.lits.now ≡ true = subst (λ s. rup (known s) c.args.lits.now ≡ true) (sym (state_is c.self.view_is)) c.requires.rup in
    let why : NotPut (record i.log { room = c.make_room-2.new.self.room }) c.add.new.self (added_line i.log.output c.args.lits.now c.args.hints.now) c.in_err-number.field-0.0 =
    subst (λ k. NotPut k c.add.new.self (added_line k.output c.args.lits.now c.args.hints.now) c.in_err-number.field-0.0) c.make_room-2.ensures.same
    (subst (λ (z : List Literal × List ℕ). NotPut c.make_room-2.new.self c.add.new.self (added_line c.make_room-2.new.self.output z.0 z.1) c.in_err-number.field-0.0) (λ j. (c.in-Ok.ensures j, c.in-Ok-from_slice.ensures j)) c.in_err-number.ensures) in
    subst (λ s. KeepsLog s (state_of (record p { start = c.make_room.new.self.start; held = c.make_room.new.self.held; waiting = c.make_room.new.self.waiting; log = c.add.new.self }))) (state_is c.self.view_is)
    (subst (λ (w : List Holding × List Holding × List Holding). KeepsLog (state_of p) (state_of (record p { start = w.0; held = w.1; waiting = w.2; log = c.add.new.self }))) (λ j. (sym c.make_room.ensures.start j, sym c.make_room.ensures.held j, sym c.make_room.ensures.waiting j))
    (refused_keeps p c.make_room-2.new.self.room c.add.new.self c.args.lits.now c.args.hints.now c.in_err-number.field-0.0 usable clause.on follows fit why))

pub returns-in_err-make_room-clause-port : goal.returns-in_err-make_room-clause-port
returns-in_err-make_room-clause-port g c =
    let i = c.self.inside in
    let p : PlainData = record { vars = i.vars; start = i.store.start; held = i.store.held; waiting = i.store.waiting; opening = i.opening.items; passed = i.passed; given = i.given.items; given_room = vec_capacity i.given - vec_len i.given; written = i.written.items; hinted = i.hinted; told = i.told.items; log = i.log; last = i.last; tickets = i.tickets; stop = i.stop; looks = i.looks; caught_up = i.caught_up } in
    subst (λ (w : List Holding × List Holding × List Holding). IsPort (state_of (record p { start = w.0; held = w.1; waiting = w.2 }))) (λ j. (sym c.make_room.ensures.start j, sym c.make_room.ensures.held j, sym c.make_room.ensures.waiting j))
    (plain_port _ c.self.invariant)

pub returns-in_err-make_room-2-clause-port : goal.returns-in_err-make_room-2-clause-port
returns-in_err-make_room-2-clause-port g c =
    let i = c.self.inside in
    let p : PlainData = record { vars = i.vars; start = i.store.start; held = i.store.held; waiting = i.store.waiting; opening = i.opening.items; passed = i.passed; given = i.given.items; given_room = vec_capacity i.given - vec_len i.given; written = i.written.items; hinted = i.hinted; told = i.told.items; log = i.log; last = i.last; tickets = i.tickets; stop = i.stop; looks = i.looks; caught_up = i.caught_up } in
    subst (λ (w : List Holding × List Holding × List Holding). IsPort (state_of (record p { start = w.0; held = w.1; waiting = w.2; log = c.make_room-2.new.self }))) (λ j. (sym c.make_room.ensures.start j, sym c.make_room.ensures.held j, sym c.make_room.ensures.waiting j))
    (plain_port _ (plain_log p c.self.invariant c.make_room-2.new.self i.last (same_last (ap (λ (k : LogData). k.output.last) c.make_room-2.ensures.same))))

pub returns-in_default-clause-port : goal.returns-in_default-clause-port
returns-in_default-clause-port g c =
    let i = c.self.inside in
    let p : PlainData = record { vars = i.vars; start = i.store.start; held = i.store.held; waiting = i.store.waiting; opening = i.opening.items; passed = i.passed; given = i.given.items; given_room = vec_capacity i.given - vec_len i.given; written = i.written.items; hinted = i.hinted; told = i.told.items; log = i.log; last = i.last; tickets = i.tickets; stop = i.stop; looks = i.looks; caught_up = i.caught_up } in
    subst (λ (w : List Holding × List Holding × List Holding). IsPort (state_of (record p { start = w.0; held = w.1; waiting = w.2; log = c.make_room-2.new.self }))) (λ j. (sym c.make_room.ensures.start j, sym c.make_room.ensures.held j, sym c.make_room.ensures.waiting j))
    (plain_port _ (plain_log p c.self.invariant c.make_room-2.new.self i.last (same_last (ap (λ (k : LogData). k.output.last) c.make_room-2.ensures.same))))

pub returns-in_default-from_slice-clause-port : goal.returns-in_default-from_slice-clause-port
returns-in_default-from_slice-clause-port g c =
    let i = c.self.inside in
    let p : PlainData = record { vars = i.vars; start = i.store.start; held = i.store.held; waiting = i.store.waiting; opening = i.opening.items; passed = i.passed; given = i.given.items; given_room = vec_capacity i.given - vec_len i.given; written = i.written.items; hinted = i.hinted; told = i.told.items; log = i.log; last = i.last; tickets = i.tickets; stop = i.stop; looks = i.looks; caught_up = i.caught_up } in
    subst (λ (w : List Holding × List Holding × List Holding). IsPort (state_of (record p { start = w.0; held = w.1; waiting = w.2; log = c.make_room-2.new.self }))) (λ j. (sym c.make_room.ensures.start j, sym c.make_room.ensures.held j, sym c.make_room.ensures.waiting j))
    (plain_port _ (plain_log p c.self.invariant c.make_room-2.new.self i.last (same_last (ap (λ (k : LogData). k.output.last) c.make_room-2.ensures.same))))
