use Rattle.std.proofs.Common.{◌≡◌, [], ◌∷◌, Ok, arith, append-nil, refl, sym, subst}
use Rattle.std.specs.declared.option.Option.{Option}
use Rattle.std.proofs.lemmas.List.Elements.{All-cons, All-nil}
use Rattle.sat_words.specs.declared.shared.Cref.{Cref}
use Rattle.ring_port.specs.PortState.{PortState}
use Rattle.ring_port.specs.Exchange.{TookClause, Polled, looked_into}
use Rattle.watch_prop.specs.WatchData.{attached}
use Rattle.ring_run.specs.Searching.{IsHeldBy, KeepsOn}
use Rattle.ring_run.specs.Course.{Searches}
use Rattle.ring_run.proofs.Importing.{polled_none, polled_some, polls_keep, polls_search, taken_held}
use Rattle.ring_run.specs.Renewal.{TookSlots}
use Rattle.ring_run.specs.declared.ring.Ring.{Ring}
use Rattle.ring_run.proofs.Rounds.{slot}
use Rattle.ring_run.proofs.Slots.{slots_none, slots_one, some_none, some_looked, some_took}
use Rattle.ring_run.proofs.imports.take_slot.Goals as goal

pub returns-in_default-taken-clause-search : goal.returns-in_default-taken-clause-search
returns-in_default-taken-clause-search g c =
    let s = g.P.Port.state c.args.port.now in
    let u = g.P.Port.state c.poll.new.self in
    let ring = c.args.ring.now in
    let is : u ≡ looked_into c.args.from c.args.class c.args.place s = subst (λ (o : Option Cref). Polled s u c.args.from c.args.class c.args.place (Ok o)) c.in_default-taken.is c.in-Ok.ensures.polled in
    polls_search s u [] (polled_none s u c.args.from c.args.class c.args.place is) (omega arith) ring.trail ring.watches ring.watches ring.written c.requires.search c.requires.level c.poll.ensures.port
    (sym (append-nil (attached ring.watches))) (All-nil (IsHeldBy u)) (λ v w. w)

pub returns-in_default-taken-clause-keeps : goal.returns-in_default-taken-clause-keeps
returns-in_default-taken-clause-keeps g c =
    let s = g.P.Port.state c.args.port.now in
    let u = g.P.Port.state c.poll.new.self in
    let is : u ≡ looked_into c.args.from c.args.class c.args.place s = subst (λ (o : Option Cref). Polled s u c.args.from c.args.class c.args.place (Ok o)) c.in_default-taken.is c.in-Ok.ensures.polled in
    polls_keep s u [] (polled_none s u c.args.from c.args.class c.args.place is) (omega arith) c.poll.ensures.log c.poll.ensures.port

pub attach-requires-clause-held : goal.attach-requires-clause-held
attach-requires-clause-held g c =
    let s = g.P.Port.state c.args.port.now in
    let u = g.P.Port.state c.poll.new.self in
    let took : TookClause s u c.args.from c.args.class c.args.place c.in-Some.clause = subst (λ (o : Option Cref). Polled s u c.args.from c.args.class c.args.place (Ok o)) c.in-Some.is c.in-Ok.ensures.polled in
    taken_held s u c.args.from c.args.class c.args.place c.in-Some.clause took c.poll.ensures.port

pub returns-in_err-attach-clause-keeps : goal.returns-in_err-attach-clause-keeps
returns-in_err-attach-clause-keeps g c =
    let s = g.P.Port.state c.args.port.now in
    let u = g.P.Port.state c.poll.new.self in
    let took : TookClause s u c.args.from c.args.class c.args.place c.in-Some.clause = subst (λ (o : Option Cref). Polled s u c.args.from c.args.class c.args.place (Ok o)) c.in-Some.is c.in-Ok.ensures.polled in
    subst (KeepsOn s) (sym c.attach.ensures.same) (polls_keep s u (c.in-Some.clause ∷ []) (polled_some s u c.args.from c.args.class c.args.place c.in-Some.clause took c.poll.ensures.kept) (omega arith) c.poll.ensures.log c.poll.ensures.port)

pub returns-in_err-push-clause-keeps : goal.returns-in_err-push-clause-keeps
returns-in_err-push-clause-keeps g c =
    let s = g.P.Port.state c.args.port.now in
    let u = g.P.Port.state c.poll.new.self in
    let took : TookClause s u c.args.from c.args.class c.args.place c.in-Some.clause = subst (λ (o : Option Cref). Polled s u c.args.from c.args.class c.args.place (Ok o)) c.in-Some.is c.in-Ok.ensures.polled in
    subst (KeepsOn s) (sym c.attach.ensures.same) (polls_keep s u (c.in-Some.clause ∷ []) (polled_some s u c.args.from c.args.class c.args.place c.in-Some.clause took c.poll.ensures.kept) (omega arith) c.poll.ensures.log c.poll.ensures.port)

pub returns-clause-keeps : goal.returns-clause-keeps
returns-clause-keeps g c =
    let s = g.P.Port.state c.args.port.now in
    let u = g.P.Port.state c.poll.new.self in
    let took : TookClause s u c.args.from c.args.class c.args.place c.in-Some.clause = subst (λ (o : Option Cref). Polled s u c.args.from c.args.class c.args.place (Ok o)) c.in-Some.is c.in-Ok.ensures.polled in
    subst (KeepsOn s) (sym c.attach.ensures.same) (polls_keep s u (c.in-Some.clause ∷ []) (polled_some s u c.args.from c.args.class c.args.place c.in-Some.clause took c.poll.ensures.kept) (omega arith) c.poll.ensures.log c.poll.ensures.port)

pub returns-clause-search : goal.returns-clause-search
returns-clause-search g c =
    let s = g.P.Port.state c.args.port.now in
    let u = g.P.Port.state c.poll.new.self in
    let ring = c.args.ring.now in
    let clause = c.in-Some.clause in
    let took : TookClause s u c.args.from c.args.class c.args.place clause = subst (λ (o : Option Cref). Polled s u c.args.from c.args.class c.args.place (Ok o)) c.in-Some.is c.in-Ok.ensures.polled in
    subst (λ (x : PortState). Searches x ring.trail c.attach.new.self ring.written) (sym c.attach.ensures.same)
    (polls_search s u (clause ∷ []) (polled_some s u c.args.from c.args.class c.args.place clause took c.poll.ensures.kept) (omega arith) ring.trail ring.watches c.attach.new.self ring.written c.requires.search c.requires.level c.poll.ensures.port
    c.in_ok-attach.ensures.attached (All-cons (IsHeldBy u) clause [] (taken_held s u c.args.from c.args.class c.args.place clause took c.poll.ensures.port) (All-nil (IsHeldBy u))) c.attach.ensures.watched)

pub returns-in_default-clause-some : goal.returns-in_default-clause-some
returns-in_default-clause-some g c = some_none (g.P.Port.state c.args.port.now) (g.P.Port.state c.poll.new.self) (slot c.args.from c.args.class c.args.place ∷ []) c.in_default.ensures.polled.1

pub returns-in_default-taken-clause-some : goal.returns-in_default-taken-clause-some
returns-in_default-taken-clause-some g c =
    some_looked (g.P.Port.state c.args.port.now) (g.P.Port.state c.poll.new.self) c.args.from c.args.class c.args.place (subst (λ (o : Option Cref). Polled (g.P.Port.state c.args.port.now) (g.P.Port.state c.poll.new.self) c.args.from c.args.class c.args.place (Ok o)) c.in_default-taken.is c.in-Ok.ensures.polled)

pub returns-in_err-attach-clause-some : goal.returns-in_err-attach-clause-some
returns-in_err-attach-clause-some g c =
    let s = g.P.Port.state c.args.port.now in
    let u = g.P.Port.state c.poll.new.self in
    let took : TookClause s u c.args.from c.args.class c.args.place c.in-Some.clause = subst (λ (o : Option Cref). Polled s u c.args.from c.args.class c.args.place (Ok o)) c.in-Some.is c.in-Ok.ensures.polled in
    some_took s u (g.P.Port.state c.attach.new.port) c.args.from c.args.class c.args.place c.in-Some.clause took c.attach.ensures.same

pub returns-in_err-push-clause-some : goal.returns-in_err-push-clause-some
returns-in_err-push-clause-some g c =
    let s = g.P.Port.state c.args.port.now in
    let u = g.P.Port.state c.poll.new.self in
    let took : TookClause s u c.args.from c.args.class c.args.place c.in-Some.clause = subst (λ (o : Option Cref). Polled s u c.args.from c.args.class c.args.place (Ok o)) c.in-Some.is c.in-Ok.ensures.polled in
    some_took s u (g.P.Port.state c.attach.new.port) c.args.from c.args.class c.args.place c.in-Some.clause took c.attach.ensures.same

pub returns-clause-some : goal.returns-clause-some
returns-clause-some g c =
    let s = g.P.Port.state c.args.port.now in
    let u = g.P.Port.state c.poll.new.self in
    let took : TookClause s u c.args.from c.args.class c.args.place c.in-Some.clause = subst (λ (o : Option Cref). Polled s u c.args.from c.args.class c.args.place (Ok o)) c.in-Some.is c.in-Ok.ensures.polled in
    some_took s u (g.P.Port.state c.attach.new.port) c.args.from c.args.class c.args.place c.in-Some.clause took c.attach.ensures.same

pub returns-in_default-taken-clause-took : goal.returns-in_default-taken-clause-took
returns-in_default-taken-clause-took g c =
    let s = g.P.Port.state c.args.port.now in
    let u = g.P.Port.state c.poll.new.self in
    slots_none s u c.args.ring.now c.args.ring.now c.args.from c.args.class c.args.place (subst (λ (o : Option Cref). Polled s u c.args.from c.args.class c.args.place (Ok o)) c.in_default-taken.is c.in-Ok.ensures.polled) refl refl

pub returns-clause-took : goal.returns-clause-took
returns-clause-took g c =
    let s = g.P.Port.state c.args.port.now in
    let u = g.P.Port.state c.poll.new.self in
    let old = c.args.ring.now in
    let new : Ring = record old { watches = c.attach.new.self; imports = c.push.new.self } in
    let took : TookClause s u c.args.from c.args.class c.args.place c.in-Some.clause = subst (λ (o : Option Cref). Polled s u c.args.from c.args.class c.args.place (Ok o)) c.in-Some.is c.in-Ok.ensures.polled in
    subst (λ (x : PortState). TookSlots s x old new (slot c.args.from c.args.class c.args.place ∷ [])) (sym c.attach.ensures.same) (slots_one s u old new c.args.from c.args.class c.args.place c.in-Some.clause took c.in_ok-attach.ensures.attached c.in_ok-push.ensures.items)
