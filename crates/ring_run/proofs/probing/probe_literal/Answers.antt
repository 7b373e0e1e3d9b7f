use Rattle.std.proofs.Common.{◌≡◌, ◌≢◌, ◌∙◌, ℕ, ap, inl, inr, refl, arith, subst, sym, length}
use Rattle.sat_words.specs.Literal.{IsOn}
use Rattle.ring_port.specs.PortState.{PortState}
use Rattle.ring_trail.specs.TrailData.{TrailData}
use Rattle.watch_prop.specs.WatchData.{attached}
use Rattle.ring_probe.specs.Outcome.{IsProbed, DidNotFail, FailedAlone, FailedBoth}
use Rattle.ring_probe.specs.declared.probing.Probed.TheVariants as came_of
use Rattle.ring_run.specs.Ending.{HaltsTelling}
use Rattle.ring_run.proofs.Offering.{nothing_none, nothing_then}
use Rattle.ring_run.proofs.Probes.{failed_keeps, failed_nothing, failed_looks, failed_search, failed_listed, failed_longer, told_resting, told_all, refuted_halts, refuted_nothing, refuted_looks, cut_over, cut_nothing, cut_looks, holds_resting, holds_listed}
use Rattle.ring_run.proofs.Progress.{usable_none}
use Rattle.ring_run.proofs.Shrinking.{refused_halts, halts_then}
use Rattle.ring_run.proofs.Standing.{no_value}
use Rattle.ring_run.proofs.probing.probe_literal.Goals as goal

pub probe-requires-clause-vars : goal.probe-requires-clause-vars
probe-requires-clause-vars g c = (let a = c.requires.resting.search.stands.vars in let b = c.requires.resting.search.watched.vars in omega (arith, a, b))

pub probe-requires-clause-on : goal.probe-requires-clause-on
probe-requires-clause-on g c = subst (λ (n : ℕ). IsOn n c.args.lit) c.requires.resting.search.stands.vars c.requires.on

pub probe-requires-clause-free : goal.probe-requires-clause-free
probe-requires-clause-free g c = no_value c.args.ring.now.trail.steps c.args.lit.var c.requires.free

pub probe-requires-clause-usable : goal.probe-requires-clause-usable
probe-requires-clause-usable g c = usable_none (g.P.Port.state c.args.port.now) c.requires.resting.search.clauses.refused

apart : came_of.Holds ≡ came_of.Empty → ⊥
apart e = cc

pub returns-in-Ok-Holds-clause-resting : goal.returns-in-Ok-Holds-clause-resting
returns-in-Ok-Holds-clause-resting g c =
    let s = g.P.Port.state c.args.port.now in
    let m = g.P.Port.state c.probe.new.port in
    let ring = c.args.ring.now in
    let t = c.probe.new.trail in
    let w = c.probe.new.watches in
    let lit = c.args.lit in
    let on : IsOn s.vars lit = subst (λ (n : ℕ). IsOn n lit) c.requires.resting.search.stands.vars c.requires.on in
    let z : DidNotFail s m (attached ring.watches) ring.trail t lit = subst (IsProbed s m (attached ring.watches) w ring.trail t lit) c.in-Ok-Holds.field-0-is c.in-Ok-Holds.ensures.probed in
    let open_yet : c.in-Ok-Holds.field-0 ≢ came_of.Empty = λ e. apart (sym c.in-Ok-Holds.field-0-is ∙ e) in
    holds_resting s ring lit c.requires.resting on c.requires.free m w t z c.probe.ensures.attached c.probe.ensures.watched c.probe.ensures.reasons (c.in-Ok-Holds.ensures.quiet open_yet)

pub returns-in-Ok-Holds-clause-listed : goal.returns-in-Ok-Holds-clause-listed
returns-in-Ok-Holds-clause-listed g c =
    let s = g.P.Port.state c.args.port.now in
    let m = g.P.Port.state c.probe.new.port in
    let ring = c.args.ring.now in
    let t = c.probe.new.trail in
    let w = c.probe.new.watches in
    let lit = c.args.lit in
    let on : IsOn s.vars lit = subst (λ (n : ℕ). IsOn n lit) c.requires.resting.search.stands.vars c.requires.on in
    let z : DidNotFail s m (attached ring.watches) ring.trail t lit = subst (IsProbed s m (attached ring.watches) w ring.trail t lit) c.in-Ok-Holds.field-0-is c.in-Ok-Holds.ensures.probed in
    let open_yet : c.in-Ok-Holds.field-0 ≢ came_of.Empty = λ e. apart (sym c.in-Ok-Holds.field-0-is ∙ e) in
    holds_listed s ring lit c.requires.resting on c.requires.free m w t z c.probe.ensures.attached c.probe.ensures.watched c.probe.ensures.reasons (c.in-Ok-Holds.ensures.quiet open_yet) c.requires.listed

pub returns-in-Ok-Holds-clause-keeps : goal.returns-in-Ok-Holds-clause-keeps
returns-in-Ok-Holds-clause-keeps g c =
    let s = g.P.Port.state c.args.port.now in
    let m = g.P.Port.state c.probe.new.port in
    let ring = c.args.ring.now in
    let t = c.probe.new.trail in
    let w = c.probe.new.watches in
    let lit = c.args.lit in
    let on : IsOn s.vars lit = subst (λ (n : ℕ). IsOn n lit) c.requires.resting.search.stands.vars c.requires.on in
    let z : DidNotFail s m (attached ring.watches) ring.trail t lit = subst (IsProbed s m (attached ring.watches) w ring.trail t lit) c.in-Ok-Holds.field-0-is c.in-Ok-Holds.ensures.probed in
    λ start n p. subst (λ (x : PortState). Rattle.ring_run.specs.Searching.GoesOn start x n) (sym z.state) p

pub returns-in-Ok-Holds-clause-probed : goal.returns-in-Ok-Holds-clause-probed
returns-in-Ok-Holds-clause-probed g c =
    let s = g.P.Port.state c.args.port.now in
    let m = g.P.Port.state c.probe.new.port in
    let ring = c.args.ring.now in
    let t = c.probe.new.trail in
    let w = c.probe.new.watches in
    let lit = c.args.lit in
    let on : IsOn s.vars lit = subst (λ (n : ℕ). IsOn n lit) c.requires.resting.search.stands.vars c.requires.on in
    let z : DidNotFail s m (attached ring.watches) ring.trail t lit = subst (IsProbed s m (attached ring.watches) w ring.trail t lit) c.in-Ok-Holds.field-0-is c.in-Ok-Holds.ensures.probed in
    record {
      outcome = came_of.Holds;
      between = record { port = m; watches = w; trail = t };
      probed = z;
      same_clauses = c.probe.ensures.attached;
      after = refl;
    }

pub returns-in-Ok-Holds-clause-vars : goal.returns-in-Ok-Holds-clause-vars
returns-in-Ok-Holds-clause-vars g c =
    let s = g.P.Port.state c.args.port.now in
    let m = g.P.Port.state c.probe.new.port in
    let ring = c.args.ring.now in
    let t = c.probe.new.trail in
    let w = c.probe.new.watches in
    let lit = c.args.lit in
    let on : IsOn s.vars lit = subst (λ (n : ℕ). IsOn n lit) c.requires.resting.search.stands.vars c.requires.on in
    let z : DidNotFail s m (attached ring.watches) ring.trail t lit = subst (IsProbed s m (attached ring.watches) w ring.trail t lit) c.in-Ok-Holds.field-0-is c.in-Ok-Holds.ensures.probed in
    ap (λ (x : TrailData). x.vars) z.trail

pub returns-in-Ok-Holds-clause-steps : goal.returns-in-Ok-Holds-clause-steps
returns-in-Ok-Holds-clause-steps g c =
    let s = g.P.Port.state c.args.port.now in
    let m = g.P.Port.state c.probe.new.port in
    let ring = c.args.ring.now in
    let t = c.probe.new.trail in
    let w = c.probe.new.watches in
    let lit = c.args.lit in
    let on : IsOn s.vars lit = subst (λ (n : ℕ). IsOn n lit) c.requires.resting.search.stands.vars c.requires.on in
    let z : DidNotFail s m (attached ring.watches) ring.trail t lit = subst (IsProbed s m (attached ring.watches) w ring.trail t lit) c.in-Ok-Holds.field-0-is c.in-Ok-Holds.ensures.probed in
    (let same = ap (λ (x : TrailData). length x.steps) z.trail in omega (arith, same))

pub returns-in-Ok-Holds-clause-looks : goal.returns-in-Ok-Holds-clause-looks
returns-in-Ok-Holds-clause-looks g c =
    let s = g.P.Port.state c.args.port.now in
    let m = g.P.Port.state c.probe.new.port in
    let ring = c.args.ring.now in
    let t = c.probe.new.trail in
    let w = c.probe.new.watches in
    let lit = c.args.lit in
    let on : IsOn s.vars lit = subst (λ (n : ℕ). IsOn n lit) c.requires.resting.search.stands.vars c.requires.on in
    let z : DidNotFail s m (attached ring.watches) ring.trail t lit = subst (IsProbed s m (attached ring.watches) w ring.trail t lit) c.in-Ok-Holds.field-0-is c.in-Ok-Holds.ensures.probed in
    ap (λ (x : PortState). x.looks) z.state

pub returns-in-Ok-Holds-clause-nothing : goal.returns-in-Ok-Holds-clause-nothing
returns-in-Ok-Holds-clause-nothing g c =
    let s = g.P.Port.state c.args.port.now in
    let m = g.P.Port.state c.probe.new.port in
    let ring = c.args.ring.now in
    let t = c.probe.new.trail in
    let w = c.probe.new.watches in
    let lit = c.args.lit in
    let on : IsOn s.vars lit = subst (λ (n : ℕ). IsOn n lit) c.requires.resting.search.stands.vars c.requires.on in
    let z : DidNotFail s m (attached ring.watches) ring.trail t lit = subst (IsProbed s m (attached ring.watches) w ring.trail t lit) c.in-Ok-Holds.field-0-is c.in-Ok-Holds.ensures.probed in
    subst (Rattle.ring_run.specs.Searching.OffersNothing s) (sym z.state) (nothing_none s)

pub write_pending-requires-clause-analysis : goal.write_pending-requires-clause-analysis
write_pending-requires-clause-analysis g c =
    let s = g.P.Port.state c.args.port.now in
    let m = g.P.Port.state c.probe.new.port in
    let ring = c.args.ring.now in
    let t = c.probe.new.trail in
    let w = c.probe.new.watches in
    let lit = c.args.lit in
    let z : FailedAlone s m (attached ring.watches) w ring.trail t lit c.in-Ok-Unit.field-0-0 = subst (IsProbed s m (attached ring.watches) w ring.trail t lit) c.in-Ok-Unit.field-0-is c.in-Ok-Unit.ensures.probed in
    c.probe.ensures.analysis ∙ c.requires.analysis ∙ sym z.after.grown.vars

pub write_pending-requires-clause-search : goal.write_pending-requires-clause-search
write_pending-requires-clause-search g c =
    let s = g.P.Port.state c.args.port.now in
    let m = g.P.Port.state c.probe.new.port in
    let ring = c.args.ring.now in
    let t = c.probe.new.trail in
    let w = c.probe.new.watches in
    let lit = c.args.lit in
    let on : IsOn s.vars lit = subst (λ (n : ℕ). IsOn n lit) c.requires.resting.search.stands.vars c.requires.on in
    let z : FailedAlone s m (attached ring.watches) w ring.trail t lit c.in-Ok-Unit.field-0-0 = subst (IsProbed s m (attached ring.watches) w ring.trail t lit) c.in-Ok-Unit.field-0-is c.in-Ok-Unit.ensures.probed in
    failed_search s ring lit c.requires.resting on c.requires.free m z.after.line.wrote c.probe.ensures.log c.probe.ensures.port w t z.after.grown c.probe.ensures.attached c.probe.ensures.trail c.probe.ensures.level c.probe.ensures.watched c.probe.ensures.reasons

pub returns-in-Ok-clause-resting : goal.returns-in-Ok-clause-resting
returns-in-Ok-clause-resting g c =
    let s = g.P.Port.state c.args.port.now in
    let m = g.P.Port.state c.probe.new.port in
    let ring = c.args.ring.now in
    let t = c.probe.new.trail in
    let w = c.probe.new.watches in
    let lit = c.args.lit in
    let on : IsOn s.vars lit = subst (λ (n : ℕ). IsOn n lit) c.requires.resting.search.stands.vars c.requires.on in
    let z : FailedAlone s m (attached ring.watches) w ring.trail t lit c.in-Ok-Unit.field-0-0 = subst (IsProbed s m (attached ring.watches) w ring.trail t lit) c.in-Ok-Unit.field-0-is c.in-Ok-Unit.ensures.probed in
    told_resting s ring lit c.requires.resting on c.requires.free m z.after.line.wrote c.probe.ensures.log c.probe.ensures.port w t z.after.grown c.probe.ensures.attached c.probe.ensures.trail c.probe.ensures.level c.probe.ensures.watched c.probe.ensures.reasons (g.P.Port.state c.write_pending.new.port) c.write_pending.new.ring c.write_pending.ensures.trail c.write_pending.ensures.watches c.in-Ok.ensures.search c.in-Ok.ensures.wrote z.quiet (c.in-Ok.ensures.whole c.probe.ensures.level)

pub returns-in-Ok-clause-listed : goal.returns-in-Ok-clause-listed
returns-in-Ok-clause-listed g c =
    let s = g.P.Port.state c.args.port.now in
    let m = g.P.Port.state c.probe.new.port in
    let ring = c.args.ring.now in
    let t = c.probe.new.trail in
    let w = c.probe.new.watches in
    let lit = c.args.lit in
    let on : IsOn s.vars lit = subst (λ (n : ℕ). IsOn n lit) c.requires.resting.search.stands.vars c.requires.on in
    let z : FailedAlone s m (attached ring.watches) w ring.trail t lit c.in-Ok-Unit.field-0-0 = subst (IsProbed s m (attached ring.watches) w ring.trail t lit) c.in-Ok-Unit.field-0-is c.in-Ok-Unit.ensures.probed in
    c.in-Ok.ensures.listed (failed_listed s ring lit c.requires.resting on c.requires.free m z.after.line.wrote c.probe.ensures.log c.probe.ensures.port w t z.after.grown c.probe.ensures.attached c.probe.ensures.trail c.probe.ensures.level c.probe.ensures.watched c.probe.ensures.reasons c.requires.listed)

pub returns-in-Ok-clause-keeps : goal.returns-in-Ok-clause-keeps
returns-in-Ok-clause-keeps g c =
    let s = g.P.Port.state c.args.port.now in
    let m = g.P.Port.state c.probe.new.port in
    let ring = c.args.ring.now in
    let t = c.probe.new.trail in
    let w = c.probe.new.watches in
    let lit = c.args.lit in
    let on : IsOn s.vars lit = subst (λ (n : ℕ). IsOn n lit) c.requires.resting.search.stands.vars c.requires.on in
    let z : FailedAlone s m (attached ring.watches) w ring.trail t lit c.in-Ok-Unit.field-0-0 = subst (IsProbed s m (attached ring.watches) w ring.trail t lit) c.in-Ok-Unit.field-0-is c.in-Ok-Unit.ensures.probed in
    λ start n p. c.in-Ok.ensures.ok start n (failed_keeps s ring lit c.requires.resting on c.requires.free m z.after.line.wrote c.probe.ensures.log c.probe.ensures.port start n p)

pub returns-in-Ok-clause-probed : goal.returns-in-Ok-clause-probed
returns-in-Ok-clause-probed g c =
    let s = g.P.Port.state c.args.port.now in
    let m = g.P.Port.state c.probe.new.port in
    let ring = c.args.ring.now in
    let t = c.probe.new.trail in
    let w = c.probe.new.watches in
    let lit = c.args.lit in
    let on : IsOn s.vars lit = subst (λ (n : ℕ). IsOn n lit) c.requires.resting.search.stands.vars c.requires.on in
    let z : FailedAlone s m (attached ring.watches) w ring.trail t lit c.in-Ok-Unit.field-0-0 = subst (IsProbed s m (attached ring.watches) w ring.trail t lit) c.in-Ok-Unit.field-0-is c.in-Ok-Unit.ensures.probed in
    record {
      outcome = came_of.Unit c.in-Ok-Unit.field-0-0;
      between = record { port = m; watches = w; trail = t };
      probed = z;
      same_clauses = c.probe.ensures.attached;
      after = told_all s ring lit c.requires.resting on c.requires.free m z.after.line.wrote c.probe.ensures.log c.probe.ensures.port w t z.after.grown c.probe.ensures.attached c.probe.ensures.trail c.probe.ensures.level c.probe.ensures.watched c.probe.ensures.reasons (g.P.Port.state c.write_pending.new.port) c.write_pending.new.ring c.write_pending.ensures.trail c.write_pending.ensures.watches c.in-Ok.ensures.search c.in-Ok.ensures.wrote z.quiet (c.in-Ok.ensures.whole c.probe.ensures.level) c.in-Ok.ensures.lines;
    }

pub returns-in-Ok-clause-vars : goal.returns-in-Ok-clause-vars
returns-in-Ok-clause-vars g c =
    let s = g.P.Port.state c.args.port.now in
    let m = g.P.Port.state c.probe.new.port in
    let ring = c.args.ring.now in
    let t = c.probe.new.trail in
    let w = c.probe.new.watches in
    let lit = c.args.lit in
    let on : IsOn s.vars lit = subst (λ (n : ℕ). IsOn n lit) c.requires.resting.search.stands.vars c.requires.on in
    let z : FailedAlone s m (attached ring.watches) w ring.trail t lit c.in-Ok-Unit.field-0-0 = subst (IsProbed s m (attached ring.watches) w ring.trail t lit) c.in-Ok-Unit.field-0-is c.in-Ok-Unit.ensures.probed in
    ap (λ (x : TrailData). x.vars) c.write_pending.ensures.trail ∙ z.after.grown.vars

pub returns-in-Ok-clause-steps : goal.returns-in-Ok-clause-steps
returns-in-Ok-clause-steps g c =
    let s = g.P.Port.state c.args.port.now in
    let m = g.P.Port.state c.probe.new.port in
    let ring = c.args.ring.now in
    let t = c.probe.new.trail in
    let w = c.probe.new.watches in
    let lit = c.args.lit in
    let on : IsOn s.vars lit = subst (λ (n : ℕ). IsOn n lit) c.requires.resting.search.stands.vars c.requires.on in
    let z : FailedAlone s m (attached ring.watches) w ring.trail t lit c.in-Ok-Unit.field-0-0 = subst (IsProbed s m (attached ring.watches) w ring.trail t lit) c.in-Ok-Unit.field-0-is c.in-Ok-Unit.ensures.probed in
    (let same = ap (λ (x : TrailData). length x.steps) c.write_pending.ensures.trail in let long = failed_longer s ring lit c.requires.resting on c.requires.free m z.after.line.wrote c.probe.ensures.log c.probe.ensures.port w t z.after.grown c.probe.ensures.attached c.probe.ensures.trail c.probe.ensures.level c.probe.ensures.watched c.probe.ensures.reasons in omega (arith, same, long))

pub returns-in-Ok-clause-looks : goal.returns-in-Ok-clause-looks
returns-in-Ok-clause-looks g c =
    let s = g.P.Port.state c.args.port.now in
    let m = g.P.Port.state c.probe.new.port in
    let ring = c.args.ring.now in
    let t = c.probe.new.trail in
    let w = c.probe.new.watches in
    let lit = c.args.lit in
    let on : IsOn s.vars lit = subst (λ (n : ℕ). IsOn n lit) c.requires.resting.search.stands.vars c.requires.on in
    let z : FailedAlone s m (attached ring.watches) w ring.trail t lit c.in-Ok-Unit.field-0-0 = subst (IsProbed s m (attached ring.watches) w ring.trail t lit) c.in-Ok-Unit.field-0-is c.in-Ok-Unit.ensures.probed in
    c.write_pending.ensures.looks ∙ failed_looks s ring lit c.requires.resting on c.requires.free m z.after.line.wrote c.probe.ensures.log c.probe.ensures.port

pub returns-in-Ok-clause-nothing : goal.returns-in-Ok-clause-nothing
returns-in-Ok-clause-nothing g c =
    let s = g.P.Port.state c.args.port.now in
    let m = g.P.Port.state c.probe.new.port in
    let ring = c.args.ring.now in
    let t = c.probe.new.trail in
    let w = c.probe.new.watches in
    let lit = c.args.lit in
    let on : IsOn s.vars lit = subst (λ (n : ℕ). IsOn n lit) c.requires.resting.search.stands.vars c.requires.on in
    let z : FailedAlone s m (attached ring.watches) w ring.trail t lit c.in-Ok-Unit.field-0-0 = subst (IsProbed s m (attached ring.watches) w ring.trail t lit) c.in-Ok-Unit.field-0-is c.in-Ok-Unit.ensures.probed in
    nothing_then s m (g.P.Port.state c.write_pending.new.port) (failed_nothing s ring lit c.requires.resting on c.requires.free m z.after.line.wrote c.probe.ensures.log c.probe.ensures.port) c.write_pending.ensures.nothing

pub returns-in-Err-write_pending-clause-over : goal.returns-in-Err-write_pending-clause-over
returns-in-Err-write_pending-clause-over g c =
    let s = g.P.Port.state c.args.port.now in
    let m = g.P.Port.state c.probe.new.port in
    let ring = c.args.ring.now in
    let t = c.probe.new.trail in
    let w = c.probe.new.watches in
    let lit = c.args.lit in
    let on : IsOn s.vars lit = subst (λ (n : ℕ). IsOn n lit) c.requires.resting.search.stands.vars c.requires.on in
    let z : FailedAlone s m (attached ring.watches) w ring.trail t lit c.in-Ok-Unit.field-0-0 = subst (IsProbed s m (attached ring.watches) w ring.trail t lit) c.in-Ok-Unit.field-0-is c.in-Ok-Unit.ensures.probed in
    let u = g.P.Port.state c.write_pending.new.port in
    let end = c.end_refused.result in
    halts_then s m u end (failed_keeps s ring lit c.requires.resting on c.requires.free m z.after.line.wrote c.probe.ensures.log c.probe.ensures.port) (refused_halts m u c.in-Err-write_pending.stop end c.end_refused.ensures c.in-Err-write_pending.ensures.over)

pub returns-in-Err-write_pending-clause-halts : goal.returns-in-Err-write_pending-clause-halts
returns-in-Err-write_pending-clause-halts g c =
    let s = g.P.Port.state c.args.port.now in
    let m = g.P.Port.state c.probe.new.port in
    let ring = c.args.ring.now in
    let t = c.probe.new.trail in
    let w = c.probe.new.watches in
    let lit = c.args.lit in
    let on : IsOn s.vars lit = subst (λ (n : ℕ). IsOn n lit) c.requires.resting.search.stands.vars c.requires.on in
    let z : FailedAlone s m (attached ring.watches) w ring.trail t lit c.in-Ok-Unit.field-0-0 = subst (IsProbed s m (attached ring.watches) w ring.trail t lit) c.in-Ok-Unit.field-0-is c.in-Ok-Unit.ensures.probed in
    let u = g.P.Port.state c.write_pending.new.port in
    inr (inr (record {
      lit = c.in-Ok-Unit.field-0-0;
      between = record { port = m; watches = w; trail = t };
      probed = z;
      telling = subst (HaltsTelling m u t.steps) (sym c.end_refused.ensures) c.in-Err-write_pending.ensures.halts;
    }))

pub returns-in-Err-write_pending-clause-looks : goal.returns-in-Err-write_pending-clause-looks
returns-in-Err-write_pending-clause-looks g c =
    let s = g.P.Port.state c.args.port.now in
    let m = g.P.Port.state c.probe.new.port in
    let ring = c.args.ring.now in
    let t = c.probe.new.trail in
    let w = c.probe.new.watches in
    let lit = c.args.lit in
    let on : IsOn s.vars lit = subst (λ (n : ℕ). IsOn n lit) c.requires.resting.search.stands.vars c.requires.on in
    let z : FailedAlone s m (attached ring.watches) w ring.trail t lit c.in-Ok-Unit.field-0-0 = subst (IsProbed s m (attached ring.watches) w ring.trail t lit) c.in-Ok-Unit.field-0-is c.in-Ok-Unit.ensures.probed in
    c.write_pending.ensures.looks ∙ failed_looks s ring lit c.requires.resting on c.requires.free m z.after.line.wrote c.probe.ensures.log c.probe.ensures.port

pub returns-in-Err-write_pending-clause-nothing : goal.returns-in-Err-write_pending-clause-nothing
returns-in-Err-write_pending-clause-nothing g c =
    let s = g.P.Port.state c.args.port.now in
    let m = g.P.Port.state c.probe.new.port in
    let ring = c.args.ring.now in
    let t = c.probe.new.trail in
    let w = c.probe.new.watches in
    let lit = c.args.lit in
    let on : IsOn s.vars lit = subst (λ (n : ℕ). IsOn n lit) c.requires.resting.search.stands.vars c.requires.on in
    let z : FailedAlone s m (attached ring.watches) w ring.trail t lit c.in-Ok-Unit.field-0-0 = subst (IsProbed s m (attached ring.watches) w ring.trail t lit) c.in-Ok-Unit.field-0-is c.in-Ok-Unit.ensures.probed in
    nothing_then s m (g.P.Port.state c.write_pending.new.port) (failed_nothing s ring lit c.requires.resting on c.requires.free m z.after.line.wrote c.probe.ensures.log c.probe.ensures.port) c.write_pending.ensures.nothing

pub returns-in-Ok-Empty-clause-over : goal.returns-in-Ok-Empty-clause-over
returns-in-Ok-Empty-clause-over g c =
    let s = g.P.Port.state c.args.port.now in
    let m = g.P.Port.state c.probe.new.port in
    let ring = c.args.ring.now in
    let t = c.probe.new.trail in
    let w = c.probe.new.watches in
    let lit = c.args.lit in
    let on : IsOn s.vars lit = subst (λ (n : ℕ). IsOn n lit) c.requires.resting.search.stands.vars c.requires.on in
    let z : FailedBoth s m (attached ring.watches) w ring.trail t lit = subst (IsProbed s m (attached ring.watches) w ring.trail t lit) c.in-Ok-Empty.field-0-is c.in-Ok-Empty.ensures.probed in
    refuted_halts s ring lit c.requires.resting on c.requires.free z.middle z.after.line.wrote z.log z.port m z.ended z.log_after c.probe.ensures.port

pub returns-in-Ok-Empty-clause-halts : goal.returns-in-Ok-Empty-clause-halts
returns-in-Ok-Empty-clause-halts g c =
    let s = g.P.Port.state c.args.port.now in
    let m = g.P.Port.state c.probe.new.port in
    let ring = c.args.ring.now in
    let t = c.probe.new.trail in
    let w = c.probe.new.watches in
    let lit = c.args.lit in
    let on : IsOn s.vars lit = subst (λ (n : ℕ). IsOn n lit) c.requires.resting.search.stands.vars c.requires.on in
    let z : FailedBoth s m (attached ring.watches) w ring.trail t lit = subst (IsProbed s m (attached ring.watches) w ring.trail t lit) c.in-Ok-Empty.field-0-is c.in-Ok-Empty.ensures.probed in
    inr (inl (record { watches = w; trail = t; probed = z; over = refl }))

pub returns-in-Ok-Empty-clause-looks : goal.returns-in-Ok-Empty-clause-looks
returns-in-Ok-Empty-clause-looks g c =
    let s = g.P.Port.state c.args.port.now in
    let m = g.P.Port.state c.probe.new.port in
    let ring = c.args.ring.now in
    let t = c.probe.new.trail in
    let w = c.probe.new.watches in
    let lit = c.args.lit in
    let on : IsOn s.vars lit = subst (λ (n : ℕ). IsOn n lit) c.requires.resting.search.stands.vars c.requires.on in
    let z : FailedBoth s m (attached ring.watches) w ring.trail t lit = subst (IsProbed s m (attached ring.watches) w ring.trail t lit) c.in-Ok-Empty.field-0-is c.in-Ok-Empty.ensures.probed in
    refuted_looks s ring lit c.requires.resting on c.requires.free z.middle z.after.line.wrote z.log z.port m z.ended z.log_after c.probe.ensures.port

pub returns-in-Ok-Empty-clause-nothing : goal.returns-in-Ok-Empty-clause-nothing
returns-in-Ok-Empty-clause-nothing g c =
    let s = g.P.Port.state c.args.port.now in
    let m = g.P.Port.state c.probe.new.port in
    let ring = c.args.ring.now in
    let t = c.probe.new.trail in
    let w = c.probe.new.watches in
    let lit = c.args.lit in
    let on : IsOn s.vars lit = subst (λ (n : ℕ). IsOn n lit) c.requires.resting.search.stands.vars c.requires.on in
    let z : FailedBoth s m (attached ring.watches) w ring.trail t lit = subst (IsProbed s m (attached ring.watches) w ring.trail t lit) c.in-Ok-Empty.field-0-is c.in-Ok-Empty.ensures.probed in
    refuted_nothing s ring lit c.requires.resting on c.requires.free z.middle z.after.line.wrote z.log z.port m z.ended z.log_after c.probe.ensures.port

pub returns-in-Err-clause-over : goal.returns-in-Err-clause-over
returns-in-Err-clause-over g c =
    let s = g.P.Port.state c.args.port.now in
    let m = g.P.Port.state c.probe.new.port in
    let ring = c.args.ring.now in
    let t = c.probe.new.trail in
    let w = c.probe.new.watches in
    let lit = c.args.lit in
    let on : IsOn s.vars lit = subst (λ (n : ℕ). IsOn n lit) c.requires.resting.search.stands.vars c.requires.on in
    refused_halts s m c.in-Err.stop c.end_refused-in-Err.result c.end_refused-in-Err.ensures (cut_over s ring lit c.requires.resting on c.requires.free m c.in-Err.stop c.in-Err.ensures.stopped c.probe.ensures.port)

pub returns-in-Err-clause-halts : goal.returns-in-Err-clause-halts
returns-in-Err-clause-halts g c =
    let s = g.P.Port.state c.args.port.now in
    let m = g.P.Port.state c.probe.new.port in
    let ring = c.args.ring.now in
    let t = c.probe.new.trail in
    let w = c.probe.new.watches in
    let lit = c.args.lit in
    let on : IsOn s.vars lit = subst (λ (n : ℕ). IsOn n lit) c.requires.resting.search.stands.vars c.requires.on in
    inl (c.in-Err.stop, c.in-Err.ensures.stopped, c.end_refused-in-Err.ensures)

pub returns-in-Err-clause-looks : goal.returns-in-Err-clause-looks
returns-in-Err-clause-looks g c =
    let s = g.P.Port.state c.args.port.now in
    let m = g.P.Port.state c.probe.new.port in
    let ring = c.args.ring.now in
    let t = c.probe.new.trail in
    let w = c.probe.new.watches in
    let lit = c.args.lit in
    let on : IsOn s.vars lit = subst (λ (n : ℕ). IsOn n lit) c.requires.resting.search.stands.vars c.requires.on in
    cut_looks s ring lit c.requires.resting on c.requires.free m c.in-Err.stop c.in-Err.ensures.stopped c.probe.ensures.port

pub returns-in-Err-clause-nothing : goal.returns-in-Err-clause-nothing
returns-in-Err-clause-nothing g c =
    let s = g.P.Port.state c.args.port.now in
    let m = g.P.Port.state c.probe.new.port in
    let ring = c.args.ring.now in
    let t = c.probe.new.trail in
    let w = c.probe.new.watches in
    let lit = c.args.lit in
    let on : IsOn s.vars lit = subst (λ (n : ℕ). IsOn n lit) c.requires.resting.search.stands.vars c.requires.on in
    cut_nothing s ring lit c.requires.resting on c.requires.free m c.in-Err.stop c.in-Err.ensures.stopped c.probe.ensures.port
