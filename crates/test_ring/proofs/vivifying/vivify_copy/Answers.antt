use Rattle.std.proofs.Common.{◌≡◌, ◌∙◌, ◌++◌, ◌∷◌, [], List, Contains, sym, ap, subst, rules}
use Rattle.sat_words.specs.declared.shared.Cref.{Cref}
use Rattle.ring_port.specs.Port.{is_usable}
use Rattle.ring_port.specs.PortState.{PortState, lits_at}
use Rattle.ring_trail.specs.TrailData.{TrailData}
use Rattle.watch_prop.specs.WatchData.{attached}
use Rattle.watch_prop.specs.Watched.{Watched}
use Rattle.test_ring.proofs.VivificationRow.{copy_follows, copy_hints, copy_is_part, lits_are, fresh_trail, last_in, vivified_copy, vivified_refused}
use Rattle.test_ring.proofs.vivifying.vivify_copy.Goals as goal

pub derive-requires-clause-rup : goal.derive-requires-clause-rup
derive-requires-clause-rup g c = copy_follows (g.P.Port.state c.args.port.now) _ (lits_are c.new.result c.new-2.result c.new-3.result c.new.ensures c.new-2.ensures c.new-3.ensures) c.requires

pub derive-requires-clause-part : goal.derive-requires-clause-part
derive-requires-clause-part g c = copy_is_part (g.P.Port.state c.args.port.now) _ (lits_are c.new.result c.new-2.result c.new-3.result c.new.ensures c.new-2.ensures c.new-3.ensures) c.requires

pub derive-requires-clause-hints : goal.derive-requires-clause-hints
derive-requires-clause-hints g c = copy_hints (g.P.Port.state c.args.port.now) _ c.requires

pub propagate-requires-clause-watched : goal.propagate-requires-clause-watched
propagate-requires-clause-watched g c =
    let t = c.in_ok-trail.trail in
    let m = g.P.Port.state c.derive.new.self in
    let first = c.in_ok-watches.ensures.watched (lits_at m) t (ap (λ (u : TrailData). u.vars) c.in_ok-trail.ensures.empty) (fresh_trail t c.in_ok-trail.ensures.empty) in
    subst (λ (s : PortState). Watched c.attach-2.new.self (lits_at s) t) (sym c.attach-2.ensures.same)
    (c.attach-2.ensures.watched t (subst (λ (s : PortState). Watched c.attach.new.self (lits_at s) t) (sym c.attach.ensures.same) (c.attach.ensures.watched t first)))

pub vivify-requires-clause-member : goal.vivify-requires-clause-member
vivify-requires-clause-member g c = subst (λ (cs : List Cref). Contains cs c.in-Ok.copy) (sym (c.propagate.ensures.attached ∙ c.in_ok-attach-2.ensures.attached)) (last_in (attached c.attach.new.self) c.in-Ok.copy)

pub returns-in-Ok-vivify-clause-vivified : goal.returns-in-Ok-vivify-clause-vivified
returns-in-Ok-vivify-clause-vivified g c =
    let bare : c.propagate.new.trail.steps ≡ [] = c.is_empty.ensures.0 (search rules) in
    vivified_copy (g.P.Port.state c.args.port.now) (g.P.Port.state c.derive.new.self) (g.P.Port.state c.propagate.new.port) (g.P.Port.state c.vivify.new.port) c.propagate.new.self c.vivify.new.watches c.propagate.new.trail.steps _ c.in-Ok.copy c.in-Ok-vivify.left
    (lits_are c.new.result c.new-2.result c.new-3.result c.new.ensures c.new-2.ensures c.new-3.ensures) c.in-Ok.ensures.derived
    (c.propagate.ensures.same ∙ c.attach-2.ensures.same ∙ c.attach.ensures.same)
    (c.propagate.ensures.attached ∙ c.in_ok-attach-2.ensures.attached ∙ ap (λ (cs : List Cref). cs ++ c.in-Ok.copy ∷ []) (c.in_ok-attach.ensures.attached ∙ ap (λ (cs : List Cref). cs ++ record { address = 0 } ∷ []) c.in_ok-watches.ensures.none))
    bare c.in-Ok-vivify.ensures.vivified

pub returns-in-Ok-vivify-clause-usable : goal.returns-in-Ok-vivify-clause-usable
returns-in-Ok-vivify-clause-usable g c =
    let vivified = vivified_refused (g.P.Port.state c.propagate.new.port) (g.P.Port.state c.vivify.new.port) c.propagate.new.self c.vivify.new.watches c.propagate.new.trail.steps c.in-Ok.copy _ c.in-Ok-vivify.ensures.vivified in
    let same : g.P.Port.state c.propagate.new.port ≡ g.P.Port.state c.derive.new.self = c.propagate.ensures.same ∙ c.attach-2.ensures.same ∙ c.attach.ensures.same in
    let derived = ap (λ (x : PortState). x.refused) c.in-Ok.ensures.derived.state in
    ap is_usable (vivified ∙ ap (λ (x : PortState). x.refused) same ∙ derived) ∙ c.requires.usable
