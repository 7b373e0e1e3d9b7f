use Rattle.std.proofs.Common.{◌∙◌, ◌+◌, ℕ, ap, inl, inr, refl, arith, subst, sym, length}
use Rattle.sat_words.specs.Literal.{Literal, IsOn, literal_of}
use Rattle.ring_trail.specs.TrailData.{TrailData, HasNoPlace}
use Rattle.ring_run.specs.Course.{HasLemmas}
use Rattle.ring_run.specs.Renewal.{point, HasValue, WasProbed, IsResting, code_on}
use Rattle.ring_run.specs.Halting.{HaltsAtProbe}
use Rattle.ring_run.specs.declared.ring.Ring.{Ring}
use Rattle.ring_run.proofs.Offering.{nothing_none}
use Rattle.ring_run.proofs.Probes.{valued, valueless, moved_resting, moved_listed, moved_same}
use Rattle.ring_run.proofs.probing.probe_next.Goals as goal

pub take_literal-lit-requires-clause-small : goal.take_literal-lit-requires-clause-small
take_literal-lit-requires-clause-small g c = c.requires.resting.search.trail.small

pub truth-requires : goal.truth-requires
truth-requires g c =
    let vars = ap (λ (r : Ring). r.trail.vars) c.take_literal-lit.ensures.same in
    let on = c.take_literal-lit.ensures.on.high in
    omega (arith, vars, on)

pub returns-then-is_some-clause-resting : goal.returns-then-is_some-clause-resting
returns-then-is_some-clause-resting g c =
    let s = g.P.Port.state c.args.port.now in
    subst (IsResting s) (sym c.take_literal-lit.ensures.same) (moved_resting s c.args.ring.now (code_on c.args.ring.now.trail.vars c.args.ring.now.next_probe + 1) c.requires.resting)

pub returns-then-is_some-clause-listed : goal.returns-then-is_some-clause-listed
returns-then-is_some-clause-listed g c =
    let s = g.P.Port.state c.args.port.now in
    subst (HasLemmas s) (sym c.take_literal-lit.ensures.same) (moved_listed s c.args.ring.now (code_on c.args.ring.now.trail.vars c.args.ring.now.next_probe + 1) c.requires.listed)

pub returns-then-is_some-clause-took : goal.returns-then-is_some-clause-took
returns-then-is_some-clause-took g c =
    let s = g.P.Port.state c.args.port.now in
    let same = c.take_literal-lit.ensures.same in
    let has = valued c.take_literal-lit.new.ring.trail.steps c.take_literal-lit.result c.truth.result c.truth.ensures.truth (sym c.is_some.ensures ∙ c.if-is_some.true) in
    inl (
      subst (λ (t : TrailData). HasValue t.steps (literal_of (code_on c.args.ring.now.trail.vars c.args.ring.now.next_probe))) (ap (λ (r : Ring). r.trail) same)
          (subst (HasValue c.take_literal-lit.new.ring.trail.steps) c.take_literal-lit.ensures.literal has),
      ap (λ (r : Ring). point s r) same,
      refl,
    )

pub returns-then-is_some-clause-next : goal.returns-then-is_some-clause-next
returns-then-is_some-clause-next g c = ap (λ (r : Ring). r.next_probe) c.take_literal-lit.ensures.same

pub returns-then-is_some-clause-vars : goal.returns-then-is_some-clause-vars
returns-then-is_some-clause-vars g c = ap (λ (r : Ring). r.trail.vars) c.take_literal-lit.ensures.same

pub returns-then-is_some-clause-keeps : goal.returns-then-is_some-clause-keeps
returns-then-is_some-clause-keeps g c = λ start n p. p

pub returns-then-is_some-clause-steps : goal.returns-then-is_some-clause-steps
returns-then-is_some-clause-steps g c = let same = ap (λ (r : Ring). length r.trail.steps) c.take_literal-lit.ensures.same in omega (arith, same)

pub returns-then-is_some-clause-same : goal.returns-then-is_some-clause-same
returns-then-is_some-clause-same g c =
    (moved_same c.args.ring.now c.take_literal-lit.new.ring c.take_literal-lit.new.ring (code_on c.args.ring.now.trail.vars c.args.ring.now.next_probe + 1) c.take_literal-lit.ensures.same refl).0

pub returns-then-is_some-clause-nothing : goal.returns-then-is_some-clause-nothing
returns-then-is_some-clause-nothing g c = nothing_none (g.P.Port.state c.args.port.now)

pub returns-then-is_some-clause-port : goal.returns-then-is_some-clause-port
returns-then-is_some-clause-port g c = c.requires.resting.search.clauses.port

pub probe_literal-requires-clause-resting : goal.probe_literal-requires-clause-resting
probe_literal-requires-clause-resting g c =
    let s = g.P.Port.state c.args.port.now in
    subst (IsResting s) (sym c.take_literal-lit.ensures.same) (moved_resting s c.args.ring.now (code_on c.args.ring.now.trail.vars c.args.ring.now.next_probe + 1) c.requires.resting)

pub probe_literal-requires-clause-listed : goal.probe_literal-requires-clause-listed
probe_literal-requires-clause-listed g c =
    let s = g.P.Port.state c.args.port.now in
    subst (HasLemmas s) (sym c.take_literal-lit.ensures.same) (moved_listed s c.args.ring.now (code_on c.args.ring.now.trail.vars c.args.ring.now.next_probe + 1) c.requires.listed)

pub probe_literal-requires-clause-on : goal.probe_literal-requires-clause-on
probe_literal-requires-clause-on g c = subst (λ (n : ℕ). IsOn n c.take_literal-lit.result) (sym (ap (λ (r : Ring). r.trail.vars) c.take_literal-lit.ensures.same)) c.take_literal-lit.ensures.on

pub probe_literal-requires-clause-free : goal.probe_literal-requires-clause-free
probe_literal-requires-clause-free g c = valueless c.take_literal-lit.new.ring.trail.steps c.take_literal-lit.result c.truth.result c.truth.ensures.truth (sym c.is_some.ensures ∙ c.if-is_some.false)

pub returns-in-Ok-clause-took : goal.returns-in-Ok-clause-took
returns-in-Ok-clause-took g c =
    let s = g.P.Port.state c.args.port.now in
    let old = c.args.ring.now in
    let mid = c.take_literal-lit.new.ring in
    let q = point (g.P.Port.state c.probe_literal.new.port) c.probe_literal.new.ring in
    let same = c.take_literal-lit.ensures.same in
    let lit = c.take_literal-lit.ensures.literal in
    let free = valueless mid.trail.steps c.take_literal-lit.result c.truth.result c.truth.ensures.truth (sym c.is_some.ensures ∙ c.if-is_some.false) in
    let some = c.requires.left in
    inr (
      subst (λ (t : TrailData). HasNoPlace t.steps (literal_of (code_on old.trail.vars old.next_probe)).var) (ap (λ (r : Ring). r.trail) same)
          (subst (λ (l : Literal). HasNoPlace mid.trail.steps l.var) lit free),
      subst (λ (r : Ring). WasProbed (point s r) q (literal_of (code_on old.trail.vars old.next_probe))) same
          (subst (WasProbed (point s mid) q) lit c.in-Ok.ensures.probed),
      omega (arith, some),
    )

pub returns-in-Ok-clause-next : goal.returns-in-Ok-clause-next
returns-in-Ok-clause-next g c =
    (moved_same c.args.ring.now c.take_literal-lit.new.ring c.probe_literal.new.ring (code_on c.args.ring.now.trail.vars c.args.ring.now.next_probe + 1) c.take_literal-lit.ensures.same c.probe_literal.ensures.same).1

pub returns-in-Ok-clause-same : goal.returns-in-Ok-clause-same
returns-in-Ok-clause-same g c =
    (moved_same c.args.ring.now c.take_literal-lit.new.ring c.probe_literal.new.ring (code_on c.args.ring.now.trail.vars c.args.ring.now.next_probe + 1) c.take_literal-lit.ensures.same c.probe_literal.ensures.same).0

pub returns-in-Ok-clause-vars : goal.returns-in-Ok-clause-vars
returns-in-Ok-clause-vars g c = c.in-Ok.ensures.vars ∙ ap (λ (r : Ring). r.trail.vars) c.take_literal-lit.ensures.same

pub returns-in-Ok-clause-steps : goal.returns-in-Ok-clause-steps
returns-in-Ok-clause-steps g c = let same = ap (λ (r : Ring). length r.trail.steps) c.take_literal-lit.ensures.same in omega (arith, same, c.in-Ok.ensures.steps)

pub returns-in-Err-clause-next : goal.returns-in-Err-clause-next
returns-in-Err-clause-next g c =
    (moved_same c.args.ring.now c.take_literal-lit.new.ring c.probe_literal.new.ring (code_on c.args.ring.now.trail.vars c.args.ring.now.next_probe + 1) c.take_literal-lit.ensures.same c.probe_literal.ensures.same).1

pub returns-in-Err-clause-same : goal.returns-in-Err-clause-same
returns-in-Err-clause-same g c =
    (moved_same c.args.ring.now c.take_literal-lit.new.ring c.probe_literal.new.ring (code_on c.args.ring.now.trail.vars c.args.ring.now.next_probe + 1) c.take_literal-lit.ensures.same c.probe_literal.ensures.same).0

pub returns-in-Err-clause-halts : goal.returns-in-Err-clause-halts
returns-in-Err-clause-halts g c =
    let s = g.P.Port.state c.args.port.now in
    let old = c.args.ring.now in
    let mid = c.take_literal-lit.new.ring in
    let u = g.P.Port.state c.probe_literal.new.port in
    let same = c.take_literal-lit.ensures.same in
    let lit = c.take_literal-lit.ensures.literal in
    let free = valueless mid.trail.steps c.take_literal-lit.result c.truth.result c.truth.ensures.truth (sym c.is_some.ensures ∙ c.if-is_some.false) in (
      subst (λ (t : TrailData). HasNoPlace t.steps (literal_of (code_on old.trail.vars old.next_probe)).var) (ap (λ (r : Ring). r.trail) same)
          (subst (λ (l : Literal). HasNoPlace mid.trail.steps l.var) lit free),
      subst (λ (r : Ring). HaltsAtProbe (point s r) u (literal_of (code_on old.trail.vars old.next_probe)) c.in-Err.end) same
          (subst (λ (l : Literal). HaltsAtProbe (point s mid) u l c.in-Err.end) lit c.in-Err.ensures.halts),
    )

pub probe_literal-requires-clause-analysis : goal.probe_literal-requires-clause-analysis
probe_literal-requires-clause-analysis g c = c.requires.analysis ∙ sym (ap (λ (r : Ring). r.trail.vars) c.take_literal-lit.ensures.same)
