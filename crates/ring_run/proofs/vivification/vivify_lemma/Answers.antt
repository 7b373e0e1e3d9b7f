use Rattle.std.proofs.Common.{◌≡◌, ◌≢◌, ◌∙◌, ℕ, IsSome, subst, sym, ap, inl, inr, refl, Ok}
use Rattle.ring_port.specs.PortState.{PortState, held_at}
use Rattle.ring_port.specs.Log.{KeepsLog}
use Rattle.ring_trail.specs.TrailData.{TrailData}
use Rattle.vivify.specs.Outcome.{IsVivified, WasCutShort}
use Rattle.vivify.specs.declared.shorten.Vivified.{Vivified}
use Rattle.ring_run.specs.Renewal.{point, IsNamed}
use Rattle.ring_run.specs.declared.ring.Ring.{Ring}
use Rattle.ring_run.proofs.LeftBehind.{left_behind, left_keeps, left_rest, left_others, cut_over, cut_rest, what_is_left}
use Rattle.ring_run.proofs.Offering.{nothing_then}
use Rattle.ring_run.proofs.Reducing.{ok_then, err_then}
use Rattle.ring_run.proofs.Shrinking.{refused_halts, halts_then, if_ok_then, ok_of}
use Rattle.ring_run.proofs.vivification.vivify_lemma.Goals as goal

pub settle_left-requires-clause-left : goal.settle_left-requires-clause-left
settle_left-requires-clause-left g c =
    let s = g.P.Port.state c.args.port.now in
    let m = g.P.Port.state c.vivify.new.port in
    let ring = c.args.ring.now in
    let mid : Ring = record ring { trail = c.vivify.new.trail; watches = c.vivify.new.watches } in
    let lemma = c.args.c in
    let same = c.is_named.ensures.same in
    let named : IsNamed (point s ring) lemma = c.is_named.ensures.yes c.if-not-is_named.false in
    let stay = subst (λ (x : PortState). (a : ℕ) → a ≢ lemma.address → IsSome (held_at x a) → held_at m a ≡ held_at x a) same c.vivify.ensures.others in
    let log = subst (λ (x : PortState). KeepsLog x m) same c.vivify.ensures.log in
    let port = c.vivify.ensures.port in
    let z : IsVivified s m ring.watches mid.watches ring.trail.steps lemma c.in-Ok.left = subst (λ (x : PortState). IsVivified x m ring.watches mid.watches ring.trail.steps lemma c.in-Ok.left) same c.in-Ok.ensures.vivified in
    left_behind s m ring mid lemma c.requires.resting c.requires.lemma named stay log port c.in-Ok.ensures.trail refl c.in-Ok.ensures.watched c.in-Ok.ensures.reasons c.in-Ok.ensures.quiet c.in-Ok.left z
    (λ l e bad. c.vivify.ensures.open_unit l (c.in-Ok.is ∙ ap (λ (x : Vivified). Ok x) e) bad)

pub settle_left-requires-clause-analysis : goal.settle_left-requires-clause-analysis
settle_left-requires-clause-analysis g c = c.vivify.ensures.analysis ∙ c.requires.analysis ∙ ap (λ (t : TrailData). t.vars) (sym c.in-Ok.ensures.trail)

pub returns-in-Ok-clause-vars : goal.returns-in-Ok-clause-vars
returns-in-Ok-clause-vars g c = ok_then c.settle_left.result c.settle_left.ensures.vars (λ e. e ∙ ap (λ (t : TrailData). t.vars) c.in-Ok.ensures.trail)

pub returns-in-Ok-clause-over : goal.returns-in-Ok-clause-over
returns-in-Ok-clause-over g c =
    let s = g.P.Port.state c.args.port.now in
    let m = g.P.Port.state c.vivify.new.port in
    let ring = c.args.ring.now in
    let mid : Ring = record ring { trail = c.vivify.new.trail; watches = c.vivify.new.watches } in
    let lemma = c.args.c in
    let same = c.is_named.ensures.same in
    let named : IsNamed (point s ring) lemma = c.is_named.ensures.yes c.if-not-is_named.false in
    let stay = subst (λ (x : PortState). (a : ℕ) → a ≢ lemma.address → IsSome (held_at x a) → held_at m a ≡ held_at x a) same c.vivify.ensures.others in
    let log = subst (λ (x : PortState). KeepsLog x m) same c.vivify.ensures.log in
    let port = c.vivify.ensures.port in
    let z : IsVivified s m ring.watches mid.watches ring.trail.steps lemma c.in-Ok.left = subst (λ (x : PortState). IsVivified x m ring.watches mid.watches ring.trail.steps lemma c.in-Ok.left) same c.in-Ok.ensures.vivified in
    err_then c.settle_left.result c.settle_left.ensures.over (λ end h. halts_then s m (g.P.Port.state c.settle_left.new.port) end (left_keeps s m ring mid lemma c.requires.resting c.requires.lemma named stay log port c.in-Ok.left z) h)

pub returns-in-Ok-clause-keeps : goal.returns-in-Ok-clause-keeps
returns-in-Ok-clause-keeps g c =
    let s = g.P.Port.state c.args.port.now in
    let m = g.P.Port.state c.vivify.new.port in
    let ring = c.args.ring.now in
    let mid : Ring = record ring { trail = c.vivify.new.trail; watches = c.vivify.new.watches } in
    let lemma = c.args.c in
    let same = c.is_named.ensures.same in
    let named : IsNamed (point s ring) lemma = c.is_named.ensures.yes c.if-not-is_named.false in
    let stay = subst (λ (x : PortState). (a : ℕ) → a ≢ lemma.address → IsSome (held_at x a) → held_at m a ≡ held_at x a) same c.vivify.ensures.others in
    let log = subst (λ (x : PortState). KeepsLog x m) same c.vivify.ensures.log in
    let port = c.vivify.ensures.port in
    let z : IsVivified s m ring.watches mid.watches ring.trail.steps lemma c.in-Ok.left = subst (λ (x : PortState). IsVivified x m ring.watches mid.watches ring.trail.steps lemma c.in-Ok.left) same c.in-Ok.ensures.vivified in
    ok_then c.settle_left.result c.settle_left.ensures.keeps (λ k start n p. k start n (left_keeps s m ring mid lemma c.requires.resting c.requires.lemma named stay log port c.in-Ok.left z start n p))

pub returns-in-Ok-clause-others : goal.returns-in-Ok-clause-others
returns-in-Ok-clause-others g c =
    let s = g.P.Port.state c.args.port.now in
    let m = g.P.Port.state c.vivify.new.port in
    let ring = c.args.ring.now in
    let mid : Ring = record ring { trail = c.vivify.new.trail; watches = c.vivify.new.watches } in
    let lemma = c.args.c in
    let same = c.is_named.ensures.same in
    let named : IsNamed (point s ring) lemma = c.is_named.ensures.yes c.if-not-is_named.false in
    let stay = subst (λ (x : PortState). (a : ℕ) → a ≢ lemma.address → IsSome (held_at x a) → held_at m a ≡ held_at x a) same c.vivify.ensures.others in
    let log = subst (λ (x : PortState). KeepsLog x m) same c.vivify.ensures.log in
    let port = c.vivify.ensures.port in
    let z : IsVivified s m ring.watches mid.watches ring.trail.steps lemma c.in-Ok.left = subst (λ (x : PortState). IsVivified x m ring.watches mid.watches ring.trail.steps lemma c.in-Ok.left) same c.in-Ok.ensures.vivified in
    ok_of c.settle_left.result (λ o w. left_others s m ring mid lemma c.requires.resting c.requires.lemma named stay log port (g.P.Port.state c.settle_left.new.port) c.settle_left.new.ring c.in-Ok.left o z w) c.settle_left.ensures.went

pub returns-in-Ok-clause-left : goal.returns-in-Ok-clause-left
returns-in-Ok-clause-left g c =
    let s = g.P.Port.state c.args.port.now in
    let m = g.P.Port.state c.vivify.new.port in
    let ring = c.args.ring.now in
    let mid : Ring = record ring { trail = c.vivify.new.trail; watches = c.vivify.new.watches } in
    let lemma = c.args.c in
    let same = c.is_named.ensures.same in
    let named : IsNamed (point s ring) lemma = c.is_named.ensures.yes c.if-not-is_named.false in
    let stay = subst (λ (x : PortState). (a : ℕ) → a ≢ lemma.address → IsSome (held_at x a) → held_at m a ≡ held_at x a) same c.vivify.ensures.others in
    let log = subst (λ (x : PortState). KeepsLog x m) same c.vivify.ensures.log in
    let port = c.vivify.ensures.port in
    let z : IsVivified s m ring.watches mid.watches ring.trail.steps lemma c.in-Ok.left = subst (λ (x : PortState). IsVivified x m ring.watches mid.watches ring.trail.steps lemma c.in-Ok.left) same c.in-Ok.ensures.vivified in
    if_ok_then c.settle_left.result c.settle_left.ensures.went (λ o w. what_is_left s m ring mid lemma c.requires.resting c.requires.lemma named stay log port (g.P.Port.state c.settle_left.new.port) c.settle_left.new.ring c.in-Ok.left o z w)

pub returns-in-Ok-clause-nothing : goal.returns-in-Ok-clause-nothing
returns-in-Ok-clause-nothing g c =
    let s = g.P.Port.state c.args.port.now in
    let m = g.P.Port.state c.vivify.new.port in
    let ring = c.args.ring.now in
    let mid : Ring = record ring { trail = c.vivify.new.trail; watches = c.vivify.new.watches } in
    let lemma = c.args.c in
    let same = c.is_named.ensures.same in
    let named : IsNamed (point s ring) lemma = c.is_named.ensures.yes c.if-not-is_named.false in
    let stay = subst (λ (x : PortState). (a : ℕ) → a ≢ lemma.address → IsSome (held_at x a) → held_at m a ≡ held_at x a) same c.vivify.ensures.others in
    let log = subst (λ (x : PortState). KeepsLog x m) same c.vivify.ensures.log in
    let port = c.vivify.ensures.port in
    let z : IsVivified s m ring.watches mid.watches ring.trail.steps lemma c.in-Ok.left = subst (λ (x : PortState). IsVivified x m ring.watches mid.watches ring.trail.steps lemma c.in-Ok.left) same c.in-Ok.ensures.vivified in
    nothing_then s m (g.P.Port.state c.settle_left.new.port) (left_rest s m ring mid lemma c.requires.resting c.requires.lemma named stay log port c.in-Ok.left z).0 c.settle_left.ensures.nothing

pub returns-in-Err-clause-over : goal.returns-in-Err-clause-over
returns-in-Err-clause-over g c =
    let s = g.P.Port.state c.args.port.now in
    let m = g.P.Port.state c.vivify.new.port in
    let ring = c.args.ring.now in
    let mid : Ring = record ring { trail = c.vivify.new.trail; watches = c.vivify.new.watches } in
    let lemma = c.args.c in
    let same = c.is_named.ensures.same in
    let named : IsNamed (point s ring) lemma = c.is_named.ensures.yes c.if-not-is_named.false in
    let stay = subst (λ (x : PortState). (a : ℕ) → a ≢ lemma.address → IsSome (held_at x a) → held_at m a ≡ held_at x a) same c.vivify.ensures.others in
    let log = subst (λ (x : PortState). KeepsLog x m) same c.vivify.ensures.log in
    let port = c.vivify.ensures.port in
    let cut : WasCutShort s m ring.watches ring.trail.steps lemma c.in-Err.stop = subst (λ (x : PortState). WasCutShort x m ring.watches ring.trail.steps lemma c.in-Err.stop) same c.in-Err.ensures.stopped in
    refused_halts s m c.in-Err.stop c.end_refused.result c.end_refused.ensures (cut_over s m ring mid lemma c.requires.resting c.requires.lemma named stay log port c.in-Err.stop cut)

pub returns-in-Err-clause-nothing : goal.returns-in-Err-clause-nothing
returns-in-Err-clause-nothing g c =
    let s = g.P.Port.state c.args.port.now in
    let m = g.P.Port.state c.vivify.new.port in
    let ring = c.args.ring.now in
    let mid : Ring = record ring { trail = c.vivify.new.trail; watches = c.vivify.new.watches } in
    let lemma = c.args.c in
    let same = c.is_named.ensures.same in
    let named : IsNamed (point s ring) lemma = c.is_named.ensures.yes c.if-not-is_named.false in
    let stay = subst (λ (x : PortState). (a : ℕ) → a ≢ lemma.address → IsSome (held_at x a) → held_at m a ≡ held_at x a) same c.vivify.ensures.others in
    let log = subst (λ (x : PortState). KeepsLog x m) same c.vivify.ensures.log in
    let port = c.vivify.ensures.port in
    let cut : WasCutShort s m ring.watches ring.trail.steps lemma c.in-Err.stop = subst (λ (x : PortState). WasCutShort x m ring.watches ring.trail.steps lemma c.in-Err.stop) same c.in-Err.ensures.stopped in
    (cut_rest s m ring mid lemma c.requires.resting c.requires.lemma named stay log port c.in-Err.stop cut).0

pub returns-in-Ok-clause-halts : goal.returns-in-Ok-clause-halts
returns-in-Ok-clause-halts g c =
    let s = g.P.Port.state c.args.port.now in
    let m = g.P.Port.state c.vivify.new.port in
    let ring = c.args.ring.now in
    let mid : Ring = record ring { trail = c.vivify.new.trail; watches = c.vivify.new.watches } in
    let lemma = c.args.c in
    let z : IsVivified s m ring.watches mid.watches ring.trail.steps lemma c.in-Ok.left = subst (λ (x : PortState). IsVivified x m ring.watches mid.watches ring.trail.steps lemma c.in-Ok.left) c.is_named.ensures.same c.in-Ok.ensures.vivified in
    err_then c.settle_left.result c.settle_left.ensures.halts
    (λ end h. (c.is_named.ensures.yes c.if-not-is_named.false, inr (record { lit = h.0; between = point m mid; vivified = subst (IsVivified s m ring.watches mid.watches ring.trail.steps lemma) h.1 z; following = h.2 })))

pub returns-in-Err-clause-halts : goal.returns-in-Err-clause-halts
returns-in-Err-clause-halts g c =
    let m = g.P.Port.state c.vivify.new.port in
    let ring = c.args.ring.now in
    let lemma = c.args.c in
    let cut = subst (λ (x : PortState). WasCutShort x m ring.watches ring.trail.steps lemma c.in-Err.stop) c.is_named.ensures.same c.in-Err.ensures.stopped in
    (c.is_named.ensures.yes c.if-not-is_named.false, inl (c.in-Err.stop, cut, c.end_refused.ensures))
