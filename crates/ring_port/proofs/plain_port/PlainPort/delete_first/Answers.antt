use Rattle.std.proofs.Common.{◌≡◌, ◌-◌, ◌≤◌, List, length, drop, sym, ap, subst, ◌∙◌, true, Some, IfSome, vec_len, ℕ}
use Rattle.std.specs.Vec.{vec_capacity}
use Rattle.std.specs.List.{slice_get}
use Rattle.std.specs.declared.option.Option.{Option}
use Rattle.sat_words.specs.Literal.{Literal}
use Rattle.drat_text.specs.LineOut.{deleted_line}
use Rattle.drat_text.specs.LineState.{LineState}
use Rattle.ring_port.specs.PortState.{Holding, IsPort, head_of}
use Rattle.ring_port.specs.Port.{is_usable}
use Rattle.ring_port.specs.Log.{KeepsLog}
use Rattle.ring_port.specs.OwnLog.{LogData, DeletedEntry, NotPut}
use Rattle.ring_port.specs.Store.{StoreData}
use Rattle.ring_port.specs.PlainPort.{PlainData, state_of, IsPlain}
use Rattle.ring_port.proofs.PlainLemmas.{state_is, plain_port, plain_log, some_waits, first_waits, plain_deleted, same_last, last_kept}
use Rattle.ring_port.proofs.PlainSteps.{deletion_keeps, deletion_refused}
use Rattle.ring_port.proofs.plain_port.PlainPort.delete_first.Goals as goal

pub returns-in_err-free_last-clause-port : goal.returns-in_err-free_last-clause-port
returns-in_err-free_last-clause-port g c =
    let i = c.self.inside in
    let p : PlainData = record { vars = i.vars; start = i.store.start; held = i.store.held; waiting = i.store.waiting; opening = i.opening.items; passed = i.passed; given = i.given.items; given_room = vec_capacity i.given - vec_len i.given; written = i.written.items; hinted = i.hinted; told = i.told.items; log = i.log; last = i.last; tickets = i.tickets; stop = i.stop; looks = i.looks; caught_up = i.caught_up } in
    subst (λ (s : StoreData). IsPort (state_of (record p { start = s.start; held = s.held; waiting = s.waiting }))) (sym c.free_last.ensures.same) (plain_port _ c.self.invariant)

pub returns-in_err-make_room-clause-port : goal.returns-in_err-make_room-clause-port
returns-in_err-make_room-clause-port g c =
    let i = c.self.inside in
    let p : PlainData = record { vars = i.vars; start = i.store.start; held = i.store.held; waiting = i.store.waiting; opening = i.opening.items; passed = i.passed; given = i.given.items; given_room = vec_capacity i.given - vec_len i.given; written = i.written.items; hinted = i.hinted; told = i.told.items; log = i.log; last = i.last; tickets = i.tickets; stop = i.stop; looks = i.looks; caught_up = i.caught_up } in
    subst (λ (s : StoreData). IsPort (state_of (record p { start = s.start; held = s.held; waiting = s.waiting; log = c.make_room.new.self }))) (sym c.free_last.ensures.same) (plain_port _ (plain_log p c.self.invariant c.make_room.new.self i.last (same_last (ap (λ (k : LogData). k.output.last) c.make_room.ensures.same))))

pub returns-in_default-clause-port : goal.returns-in_default-clause-port
returns-in_default-clause-port g c =
    let i = c.self.inside in
    let p : PlainData = record { vars = i.vars; start = i.store.start; held = i.store.held; waiting = i.store.waiting; opening = i.opening.items; passed = i.passed; given = i.given.items; given_room = vec_capacity i.given - vec_len i.given; written = i.written.items; hinted = i.hinted; told = i.told.items; log = i.log; last = i.last; tickets = i.tickets; stop = i.stop; looks = i.looks; caught_up = i.caught_up } in
    subst (λ (s : StoreData). IsPort (state_of (record p { start = s.start; held = s.held; waiting = s.waiting; log = c.make_room.new.self }))) (sym c.free_last.ensures.same) (plain_port _ (plain_log p c.self.invariant c.make_room.new.self i.last (same_last (ap (λ (k : LogData). k.output.last) c.make_room.ensures.same))))

pub returns-in_err-delete-clause-port : goal.returns-in_err-delete-clause-port
returns-in_err-delete-clause-port g c =
    let i = c.self.inside in
    let p : PlainData = record { vars = i.vars; start = i.store.start; held = i.store.held; waiting = i.store.waiting; opening = i.opening.items; passed = i.passed; given = i.given.items; given_room = vec_capacity i.given - vec_len i.given; written = i.written.items; hinted = i.hinted; told = i.told.items; log = i.log; last = i.last; tickets = i.tickets; stop = i.stop; looks = i.looks; caught_up = i.caught_up } in
    subst (λ (s : StoreData). IsPort (state_of (record p { start = s.start; held = s.held; waiting = s.waiting; log = c.delete.new.self }))) (sym c.free_last.ensures.same) (plain_port _ (plain_log p c.self.invariant c.delete.new.self i.last
    (same_last (last_kept c.make_room.new.self c.delete.new.self (deleted_line c.make_room.new.self.output c.first_head-number.result.number c.as_slice.result.now) c.in_err-delete.field-0.0 c.in_err-delete.ensures ∙ ap (λ (k : LogData). k.output.last) c.make_room.ensures.same))))

pub returns-in_err-delete-clause-log : goal.returns-in_err-delete-clause-log
returns-in_err-delete-clause-log g c =
    let i = c.self.inside in
    let p : PlainData = record { vars = i.vars; start = i.store.start; held = i.store.held; waiting = i.store.waiting; opening = i.opening.items; passed = i.passed; given = i.given.items; given_room = vec_capacity i.given - vec_len i.given; written = i.written.items; hinted = i.hinted; told = i.told.items; log = i.log; last = i.last; tickets = i.tickets; stop = i.stop; looks = i.looks; caught_up = i.caught_up } in
    let some : 1 ≤ length i.store.waiting = subst (λ s. 1 ≤ length s.waiting) (sym (state_is c.self.view_is)) c.requires.some in
    let x = some_waits i.store.waiting some in
    let first = first_waits i.store.waiting x.0 x.1 in
    let usable : is_usable i.log.refused ≡ true = subst (λ s. is_usable s.refused ≡ true) (sym (state_is c.self.view_is)) c.requires.usable in
    let there : slice_get c.free_last.new.self.waiting 0 ≡ Some x.0 = ap (λ (s : StoreData). slice_get s.waiting 0) c.free_last.ensures.same ∙ x.1 in
    let lits : c.in-Ok.lits.items ≡ x.0.lits = subst (λ (o : Option Holding). IfSome o (λ h. c.in-Ok.lits.items ≡ h.lits)) there c.in-Ok.ensures in
    let same_lits : c.as_slice.result.now ≡ x.0.lits = c.as_slice.ensures.value ∙ lits in
    let number : c.first_head-number.result.number ≡ x.0.number = ap (λ r. r.number) (subst (λ (o : Option Holding). IfSome o (λ h. c.first_head-number.result ≡ head_of h)) there c.first_head-number.ensures) in
    let why : NotPut (record i.log { room = c.make_room.new.self.room }) c.delete.new.self (deleted_line i.log.output x.0.number x.0.lits) c.in_err-delete.field-0.0 =
    subst (λ k. NotPut k c.delete.new.self (deleted_line k.output x.0.number x.0.lits) c.in_err-delete.field-0.0) c.make_room.ensures.same
    (subst (λ (z : ℕ × List Literal). NotPut c.make_room.new.self c.delete.new.self (deleted_line c.make_room.new.self.output z.0 z.1) c.in_err-delete.field-0.0) (λ j. (number j, same_lits j)) c.in_err-delete.ensures) in
    subst (λ s. KeepsLog s (state_of (record p { start = c.free_last.new.self.start; held = c.free_last.new.self.held; waiting = c.free_last.new.self.waiting; log = c.delete.new.self }))) (state_is c.self.view_is)
    (subst (λ (s : StoreData). KeepsLog (state_of p) (state_of (record p { start = s.start; held = s.held; waiting = s.waiting; log = c.delete.new.self }))) (sym c.free_last.ensures.same)
    (deletion_refused p c.self.invariant x.0 (drop 1 p.waiting) first c.make_room.new.self.room c.delete.new.self usable c.in_err-delete.field-0.0 why))

pub invariant_of-self-2 : goal.invariant_of-self-2
invariant_of-self-2 g c =
    let i = c.self.inside in
    let p : PlainData = record { vars = i.vars; start = i.store.start; held = i.store.held; waiting = i.store.waiting; opening = i.opening.items; passed = i.passed; given = i.given.items; given_room = vec_capacity i.given - vec_len i.given; written = i.written.items; hinted = i.hinted; told = i.told.items; log = i.log; last = i.last; tickets = i.tickets; stop = i.stop; looks = i.looks; caught_up = i.caught_up } in
    let some : 1 ≤ length i.store.waiting = subst (λ s. 1 ≤ length s.waiting) (sym (state_is c.self.view_is)) c.requires.some in
    let x = some_waits i.store.waiting some in
    let first = first_waits i.store.waiting x.0 x.1 in
    let begun : c.delete_first.new.self.start ≡ i.store.start = c.delete_first.ensures.start ∙ ap (λ (s : StoreData). s.start) c.free_last.ensures.same in
    let held : c.delete_first.new.self.held ≡ i.store.held = c.delete_first.ensures.held ∙ ap (λ (s : StoreData). s.held) c.free_last.ensures.same in
    let waits : c.delete_first.new.self.waiting ≡ drop 1 i.store.waiting = c.delete_first.ensures.waiting ∙ ap (λ (s : StoreData). drop 1 s.waiting) c.free_last.ensures.same in
    subst (λ (w : List Holding × List Holding × List Holding). IsPlain (record p { start = w.0; held = w.1; waiting = w.2; log = c.delete.new.self })) (λ j. (sym begun j, sym held j, sym waits j))
    (plain_deleted p c.self.invariant x.0 (drop 1 p.waiting) c.delete.new.self
    (same_last (ap (λ (a : LineState). a.last) c.in_ok-delete.ensures.put.state ∙ ap (λ (k : LogData). k.output.last) c.make_room.ensures.same)) first)

pub returns-clause-port : goal.returns-clause-port
returns-clause-port g c = plain_port _ (invariant_of-self-2 g c)

pub returns-clause-log : goal.returns-clause-log
returns-clause-log g c =
    let i = c.self.inside in
    let p : PlainData = record { vars = i.vars; start = i.store.start; held = i.store.held; waiting = i.store.waiting; opening = i.opening.items; passed = i.passed; given = i.given.items; given_room = vec_capacity i.given - vec_len i.given; written = i.written.items; hinted = i.hinted; told = i.told.items; log = i.log; last = i.last; tickets = i.tickets; stop = i.stop; looks = i.looks; caught_up = i.caught_up } in
    let some : 1 ≤ length i.store.waiting = subst (λ s. 1 ≤ length s.waiting) (sym (state_is c.self.view_is)) c.requires.some in
    let x = some_waits i.store.waiting some in
    let first = first_waits i.store.waiting x.0 x.1 in
    let usable : is_usable i.log.refused ≡ true = subst (λ s. is_usable s.refused ≡ true) (sym (state_is c.self.view_is)) c.requires.usable in
    let there : slice_get c.free_last.new.self.waiting 0 ≡ Some x.0 = ap (λ (s : StoreData). slice_get s.waiting 0) c.free_last.ensures.same ∙ x.1 in
    let lits : c.in-Ok.lits.items ≡ x.0.lits = subst (λ (o : Option Holding). IfSome o (λ h. c.in-Ok.lits.items ≡ h.lits)) there c.in-Ok.ensures in
    let begun : c.delete_first.new.self.start ≡ i.store.start = c.delete_first.ensures.start ∙ ap (λ (s : StoreData). s.start) c.free_last.ensures.same in
    let held : c.delete_first.new.self.held ≡ i.store.held = c.delete_first.ensures.held ∙ ap (λ (s : StoreData). s.held) c.free_last.ensures.same in
    let waits : c.delete_first.new.self.waiting ≡ drop 1 i.store.waiting = c.delete_first.ensures.waiting ∙ ap (λ (s : StoreData). drop 1 s.waiting) c.free_last.ensures.same in
    let number : c.first_head-number.result.number ≡ x.0.number = ap (λ r. r.number) (subst (λ (o : Option Holding). IfSome o (λ h. c.first_head-number.result ≡ head_of h)) there c.first_head-number.ensures) in
    let did : DeletedEntry (record i.log { room = c.make_room.new.self.room }) c.delete.new.self x.0.lits x.0.number =
    subst (λ k. DeletedEntry k c.delete.new.self x.0.lits x.0.number) c.make_room.ensures.same
    (subst (λ n. DeletedEntry c.make_room.new.self c.delete.new.self x.0.lits n) number
    (subst (λ (ls : List Literal). DeletedEntry c.make_room.new.self c.delete.new.self ls c.first_head-number.result.number) (c.as_slice.ensures.value ∙ lits) c.in_ok-delete.ensures)) in
    subst (λ s. KeepsLog s (state_of (record p { start = c.delete_first.new.self.start; held = c.delete_first.new.self.held; waiting = c.delete_first.new.self.waiting; log = c.delete.new.self }))) (state_is c.self.view_is)
    (subst (λ (w : List Holding × List Holding × List Holding). KeepsLog (state_of p) (state_of (record p { start = w.0; held = w.1; waiting = w.2; log = c.delete.new.self }))) (λ j. (sym begun j, sym held j, sym waits j))
    (deletion_keeps p c.self.invariant x.0 (drop 1 p.waiting) first c.make_room.new.self.room c.delete.new.self usable did))
