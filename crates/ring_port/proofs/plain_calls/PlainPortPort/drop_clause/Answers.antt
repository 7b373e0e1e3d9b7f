use Rattle.std.proofs.Common.{◌≡◌, ◌-◌, ◌++◌, ◌∷◌, [], List, sym, subst, IsSome, IfSome, vec_len}
use Rattle.std.specs.Vec.{vec_capacity}
use Rattle.std.specs.List.{find}
use Rattle.std.specs.declared.option.Option.{Option}
use Rattle.ring_port.specs.PortState.{Holding, IsPort, held_at}
use Rattle.ring_port.specs.Log.{KeepsLog}
use Rattle.ring_port.specs.Deleting.{DroppedOnce}
use Rattle.ring_port.specs.Store.{StoreData}
use Rattle.ring_port.specs.PlainPort.{PlainData, state_of, IsPlain}
use Rattle.ring_port.proofs.Dropping.{is_at}
use Rattle.ring_port.proofs.PlainLemmas.{state_is, plain_port, plain_dropped, held_clause, at_address}
use Rattle.ring_port.proofs.PlainSteps.{drop_keeps, drop_did}
use Rattle.ring_port.proofs.plain_calls.PlainPortPort.drop_clause.Goals as goal

pub drop_clause-requires : goal.drop_clause-requires
drop_clause-requires g c =
    let i = c.self.inside in
    let p : PlainData = record { vars = i.vars; start = i.store.start; held = i.store.held; waiting = i.store.waiting; opening = i.opening.items; passed = i.passed; given = i.given.items; given_room = vec_capacity i.given - vec_len i.given; written = i.written.items; hinted = i.hinted; told = i.told.items; log = i.log; last = i.last; tickets = i.tickets; stop = i.stop; looks = i.looks; caught_up = i.caught_up } in
    at_address (state_of p) c.args.c.address (subst (λ s. IsSome (held_at s c.args.c.address)) (sym (state_is c.self.view_is)) c.requires.held)

pub invariant_of-self-2 : goal.invariant_of-self-2
invariant_of-self-2 g c =
    let i = c.self.inside in
    let p : PlainData = record { vars = i.vars; start = i.store.start; held = i.store.held; waiting = i.store.waiting; opening = i.opening.items; passed = i.passed; given = i.given.items; given_room = vec_capacity i.given - vec_len i.given; written = i.written.items; hinted = i.hinted; told = i.told.items; log = i.log; last = i.last; tickets = i.tickets; stop = i.stop; looks = i.looks; caught_up = i.caught_up } in
    let some : IsSome (find (is_at c.args.c.address) p.held) = at_address (state_of p) c.args.c.address (subst (λ s. IsSome (held_at s c.args.c.address)) (sym (state_is c.self.view_is)) c.requires.held) in
    let x = held_clause p.held c.args.c.address some in
    let waits : c.drop_clause.new.self.waiting ≡ p.waiting ++ x.0 ∷ [] = subst (λ (o : Option Holding). IfSome o (λ h. c.drop_clause.new.self.waiting ≡ p.waiting ++ h ∷ [])) x.1 c.in_ok-drop_clause.ensures.waiting in
    subst (λ (w : List Holding × List Holding × List Holding). IsPlain (record p { start = w.0; held = w.1; waiting = w.2; last = c.unless_at-last.result })) (λ j. (sym c.drop_clause.ensures.start j, sym c.in_ok-drop_clause.ensures.held j, sym waits j))
    (plain_dropped p c.self.invariant c.args.c.address x.0 x.1 c.unless_at-last.result)

pub returns-clause-port : goal.returns-clause-port
returns-clause-port g c = plain_port _ (invariant_of-self-2 g c)

pub returns-clause-dropped : goal.returns-clause-dropped
returns-clause-dropped g c =
    let i = c.self.inside in
    let p : PlainData = record { vars = i.vars; start = i.store.start; held = i.store.held; waiting = i.store.waiting; opening = i.opening.items; passed = i.passed; given = i.given.items; given_room = vec_capacity i.given - vec_len i.given; written = i.written.items; hinted = i.hinted; told = i.told.items; log = i.log; last = i.last; tickets = i.tickets; stop = i.stop; looks = i.looks; caught_up = i.caught_up } in
    let some : IsSome (find (is_at c.args.c.address) p.held) = at_address (state_of p) c.args.c.address (subst (λ s. IsSome (held_at s c.args.c.address)) (sym (state_is c.self.view_is)) c.requires.held) in
    let x = held_clause p.held c.args.c.address some in
    let waits : c.drop_clause.new.self.waiting ≡ p.waiting ++ x.0 ∷ [] = subst (λ (o : Option Holding). IfSome o (λ h. c.drop_clause.new.self.waiting ≡ p.waiting ++ h ∷ [])) x.1 c.in_ok-drop_clause.ensures.waiting in
    subst (λ s. DroppedOnce s (state_of (record p { start = c.drop_clause.new.self.start; held = c.drop_clause.new.self.held; waiting = c.drop_clause.new.self.waiting; last = c.unless_at-last.result })) c.args.c.address) (state_is c.self.view_is)
    (subst (λ (w : List Holding × List Holding × List Holding). DroppedOnce (state_of p) (state_of (record p { start = w.0; held = w.1; waiting = w.2; last = c.unless_at-last.result })) c.args.c.address) (λ j. (sym c.drop_clause.ensures.start j, sym c.in_ok-drop_clause.ensures.held j, sym waits j))
    (drop_did p c.self.invariant c.args.c.address x.0 x.1 c.unless_at-last.result c.unless_at-last.ensures))

pub returns-clause-log : goal.returns-clause-log
returns-clause-log g c =
    let i = c.self.inside in
    let p : PlainData = record { vars = i.vars; start = i.store.start; held = i.store.held; waiting = i.store.waiting; opening = i.opening.items; passed = i.passed; given = i.given.items; given_room = vec_capacity i.given - vec_len i.given; written = i.written.items; hinted = i.hinted; told = i.told.items; log = i.log; last = i.last; tickets = i.tickets; stop = i.stop; looks = i.looks; caught_up = i.caught_up } in
    let some : IsSome (find (is_at c.args.c.address) p.held) = at_address (state_of p) c.args.c.address (subst (λ s. IsSome (held_at s c.args.c.address)) (sym (state_is c.self.view_is)) c.requires.held) in
    let x = held_clause p.held c.args.c.address some in
    let waits : c.drop_clause.new.self.waiting ≡ p.waiting ++ x.0 ∷ [] = subst (λ (o : Option Holding). IfSome o (λ h. c.drop_clause.new.self.waiting ≡ p.waiting ++ h ∷ [])) x.1 c.in_ok-drop_clause.ensures.waiting in
    subst (λ s. KeepsLog s (state_of (record p { start = c.drop_clause.new.self.start; held = c.drop_clause.new.self.held; waiting = c.drop_clause.new.self.waiting; last = c.unless_at-last.result }))) (state_is c.self.view_is)
    (subst (λ (w : List Holding × List Holding × List Holding). KeepsLog (state_of p) (state_of (record p { start = w.0; held = w.1; waiting = w.2; last = c.unless_at-last.result }))) (λ j. (sym c.drop_clause.ensures.start j, sym c.in_ok-drop_clause.ensures.held j, sym waits j))
    (drop_keeps p c.self.invariant c.args.c.address x.0 x.1 c.unless_at-last.result))

pub returns-in_err-drop_clause-clause-port : goal.returns-in_err-drop_clause-clause-port
returns-in_err-drop_clause-clause-port g c =
    let i = c.self.inside in
    let p : PlainData = record { vars = i.vars; start = i.store.start; held = i.store.held; waiting = i.store.waiting; opening = i.opening.items; passed = i.passed; given = i.given.items; given_room = vec_capacity i.given - vec_len i.given; written = i.written.items; hinted = i.hinted; told = i.told.items; log = i.log; last = i.last; tickets = i.tickets; stop = i.stop; looks = i.looks; caught_up = i.caught_up } in
    subst (λ (s : StoreData). IsPort (state_of (record p { start = s.start; held = s.held; waiting = s.waiting }))) (sym c.in_err-drop_clause.ensures.back) (plain_port p c.self.invariant)
