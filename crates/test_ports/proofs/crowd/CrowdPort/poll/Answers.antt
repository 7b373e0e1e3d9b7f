use Rattle.std.proofs.Common.{◌≡◌, ◌∙◌, ◌∷◌, ◌++◌, [], Bool, true, false, true≢false, if◌then◌else◌, refl, sym, ap, subst, None, Some, Result, Ok, Err}
use Rattle.std.specs.Result.{is_ok, is_err}
use Rattle.std.specs.declared.option.Option.{Option}
use Rattle.sat_words.specs.declared.shared.Cref.{Cref}
use Rattle.ring_port.specs.Exchange.{TookClause}
use Rattle.ring_port.specs.Port.{KeepsHeld}
use Rattle.ring_port.specs.PortState.{PortState, IsPort}
use Rattle.test_ports.specs.Crowd.{asked, crowd_of}
use Rattle.test_ports.proofs.CrowdLemmas.{held_same, crowd_goes_on, asked_more, took, port_taken, keeps_held}
use Rattle.test_ports.proofs.crowd.CrowdPort.poll.Goals as goal

-- Nothing is there for it

pub invariant_of-self-then-ne : goal.invariant_of-self-then-ne
invariant_of-self-then-ne g c =
    let i = c.self.inside in
    (crowd_goes_on i.inner.state i.taken i.stop i.stop i.looks i.looks i.refused i.refused (asked i.polled i.polls.items i.caught_up i.tickets) (asked c.saturating_add-self-inside.result c.push.new.self.items i.caught_up i.tickets) refl c.self.invariant.0 c.self.invariant.0.stop, c.self.invariant.1, c.self.invariant.2)

pub invariant_of-self-in-Some : goal.invariant_of-self-in-Some
invariant_of-self-in-Some g c =
    let i = c.self.inside in
    (crowd_goes_on i.inner.state i.taken i.stop i.stop i.looks i.looks i.refused i.refused (asked i.polled i.polls.items i.caught_up i.tickets) (asked c.saturating_add-self-inside.result c.push.new.self.items i.caught_up i.tickets) refl c.self.invariant.0 c.self.invariant.0.stop, c.self.invariant.1, c.self.invariant.2)

pub returns-then-ne-clause-port : goal.returns-then-ne-clause-port
returns-then-ne-clause-port g c = (invariant_of-self-then-ne g c).0

pub returns-in-Some-clause-port : goal.returns-in-Some-clause-port
returns-in-Some-clause-port g c = (invariant_of-self-in-Some g c).0

pub returns-then-ne-clause-kept : goal.returns-then-ne-clause-kept
returns-then-ne-clause-kept g c =
    let i = c.self.inside in
    let more = crowd_of i.inner.state i.taken i.stop i.looks i.refused (asked c.saturating_add-self-inside.result c.push.new.self.items i.caught_up i.tickets) in
    subst (λ (s : PortState). KeepsHeld s more) c.self.view_is (λ a some. held_same (crowd_of i.inner.state i.taken i.stop i.looks i.refused (asked i.polled i.polls.items i.caught_up i.tickets)) more a refl)

pub returns-in-Some-clause-kept : goal.returns-in-Some-clause-kept
returns-in-Some-clause-kept g c =
    let i = c.self.inside in
    let more = crowd_of i.inner.state i.taken i.stop i.looks i.refused (asked c.saturating_add-self-inside.result c.push.new.self.items i.caught_up i.tickets) in
    subst (λ (s : PortState). KeepsHeld s more) c.self.view_is (λ a some. held_same (crowd_of i.inner.state i.taken i.stop i.looks i.refused (asked i.polled i.polls.items i.caught_up i.tickets)) more a refl)

-- It is handed the last clause

pub invariant_of-self-in-None : goal.invariant_of-self-in-None
invariant_of-self-in-None g c =
    let i = c.self.inside in
    let old : IsPort (crowd_of i.inner.state None i.stop i.looks i.refused (asked i.polled i.polls.items i.caught_up i.tickets)) = subst (λ (t : Option Cref). IsPort (crowd_of i.inner.state t i.stop i.looks i.refused (asked i.polled i.polls.items i.caught_up i.tickets))) c.in-None.is c.self.invariant.0 in
    (port_taken i.inner.state i.last c.self.invariant.1 c.self.invariant.2 i.stop i.looks i.refused (asked i.polled i.polls.items i.caught_up i.tickets) (asked c.saturating_add-self-inside.result c.push.new.self.items i.caught_up i.tickets) refl old, c.self.invariant.1, c.self.invariant.2)

pub returns-in-None-clause-port : goal.returns-in-None-clause-port
returns-in-None-clause-port g c = (invariant_of-self-in-None g c).0

ok_of : {A E : Type 0} (r : Result A E) → is_err r ≡ false → is_ok r ≡ true
ok_of (Ok x) e = refl
ok_of (Err x) e = absurd (true≢false e)

pub returns-in-None-clause-polled : goal.returns-in-None-clause-polled
returns-in-None-clause-polled g c =
    let i = c.self.inside in
    let before = ap (λ (t : Option Cref). crowd_of i.inner.state t i.stop i.looks i.refused (asked i.polled i.polls.items i.caught_up i.tickets)) (sym c.in-None.is) ∙ c.self.view_is in
    subst (λ (s : PortState). TookClause s (crowd_of i.inner.state (Some i.last) i.stop i.looks i.refused (asked c.saturating_add-self-inside.result c.push.new.self.items i.caught_up i.tickets)) c.args.from c.args.class c.args.place i.last) before
    (took i.inner.state i.last c.self.invariant.1 c.self.invariant.2 i.stop i.looks i.refused (asked i.polled i.polls.items i.caught_up i.tickets) c.args.from c.args.class c.args.place (asked c.saturating_add-self-inside.result c.push.new.self.items i.caught_up i.tickets)
    (asked_more i.polled i.caught_up c.saturating_add-self-inside.result i.polls.items c.push.new.self.items c.args.from c.args.class c.args.place i.tickets c.saturating_add-self-inside.ensures
    (c.push.ensures.items ∙ ap (λ (b : Bool). if b then i.polls.items ++ record { from = c.args.from; class = c.args.class; place = c.args.place; caught_up = i.caught_up } ∷ [] else i.polls.items) (ok_of c.push.result (sym c.if-is_err.ensures.value)))))

pub returns-in-None-clause-kept : goal.returns-in-None-clause-kept
returns-in-None-clause-kept g c =
    let i = c.self.inside in
    let before = ap (λ (t : Option Cref). crowd_of i.inner.state t i.stop i.looks i.refused (asked i.polled i.polls.items i.caught_up i.tickets)) (sym c.in-None.is) ∙ c.self.view_is in
    subst (λ (s : PortState). KeepsHeld s (crowd_of i.inner.state (Some i.last) i.stop i.looks i.refused (asked c.saturating_add-self-inside.result c.push.new.self.items i.caught_up i.tickets))) before
    (keeps_held i.inner.state i.last c.self.invariant.1 c.self.invariant.2 i.stop i.looks i.refused (asked i.polled i.polls.items i.caught_up i.tickets) (asked c.saturating_add-self-inside.result c.push.new.self.items i.caught_up i.tickets))
