use Rattle.std.proofs.Common.{◌≡◌, ◌∙◌, ◌+◌, ◌-◌, ◌*◌, ℕ, ap, inl, inr, refl, arith, subst, sym}
use Rattle.ring_run.specs.Renewal.{point, TookCode, code_on}
use Rattle.ring_run.specs.Halting.{HaltsAtCode}
use Rattle.ring_run.specs.declared.ring.Ring.{Ring}
use Rattle.ring_run.proofs.Codes.{codes_from, GoesRound, round_begun, round_on, round_over, round_halted}
use Rattle.ring_run.proofs.Offering.{nothing_none, nothing_then}
use Rattle.ring_run.proofs.Shrinking.{halts_then}
use Rattle.ring_run.proofs.probing.probe_literals.Goals as goal

pub loop-turn-init : goal.loop-turn-init
loop-turn-init g c =
    let s = g.P.Port.state c.args.port.now in
    record {
      keeps = λ start n p. p;
      resting = c.requires.resting;
      listed = c.requires.listed;
      vars = refl;
      analysis = refl;
      round = round_begun (point s c.args.ring.now) c.args.ring.now.next_probe;
      steps = omega arith;
      same = refl;
      looks = refl;
      nothing = nothing_none s;
      port = c.requires.resting.search.clauses.port;
    }

pub loop-turn-preserved : goal.loop-turn-preserved
loop-turn-preserved g c =
    let s = g.P.Port.state c.args.port.now in
    let m = g.P.Port.state c.loop-turn.port in
    let u = g.P.Port.state c.probe_next.new.port in
    let old = c.args.ring.now in
    let mid = c.loop-turn.ring in
    let new = c.probe_next.new.ring in
    let i = c.loop-turn.invariant in
    let k = c.in-Ok.ensures in
    record {
      keeps = λ start n p. k.keeps start n (i.keeps start n p);
      resting = k.resting;
      listed = k.listed;
      vars = k.vars ∙ i.vars;
      analysis = k.analysis ∙ i.analysis;
      round = (
          let vars = old.trail.vars in
          let took : TookCode (point m mid) (point u new) (code_on vars mid.next_probe) c.loop-turn.left c.in-Ok.rest = subst (λ (v : ℕ). TookCode (point m mid) (point u new) (code_on v mid.next_probe) c.loop-turn.left c.in-Ok.rest) i.vars k.took in
          let next : new.next_probe ≡ code_on vars mid.next_probe + 1 = c.probe_next.ensures.next ∙ ap (λ (v : ℕ). code_on v mid.next_probe + 1) i.vars in
          subst (λ (n : ℕ). GoesRound (point s old) (point u new) old.next_probe c.in-Ok.rest (codes_from vars n (2 * vars - (c.loop-turn._turn + 1))) n) (sym next)
          (round_on (point s old) (point m mid) (point u new) vars old.next_probe c.loop-turn.left c.in-Ok.rest mid.next_probe c.loop-turn._turn (omega (arith, c.loop-turn-test.true)) (omega (arith, c.if-left-eq0.false)) took i.round));
      steps = omega (arith, i.steps, k.steps);
      same = c.probe_next.ensures.same ∙ ap (λ (r : Ring). record r { trail = new.trail; watches = new.watches; written = new.written; next_probe = new.next_probe }) i.same;
      looks = c.probe_next.ensures.looks ∙ i.looks;
      nothing = nothing_then s m u i.nothing c.probe_next.ensures.nothing;
      port = c.probe_next.ensures.port;
    }

pub probe_next-requires-clause-some : goal.probe_next-requires-clause-some
probe_next-requires-clause-some g c = omega (arith, c.loop-turn-test.true, c.loop-turn.invariant.vars)

pub probe_next-requires-clause-left : goal.probe_next-requires-clause-left
probe_next-requires-clause-left g c = omega (arith, c.if-left-eq0.false)

pub returns-in-Err-clause-over : goal.returns-in-Err-clause-over
returns-in-Err-clause-over g c =
    halts_then (g.P.Port.state c.args.port.now) (g.P.Port.state c.loop-turn.port) (g.P.Port.state c.probe_next.new.port) c.in-Err.end c.loop-turn.invariant.keeps c.in-Err.ensures.over

pub returns-in-Err-clause-halts : goal.returns-in-Err-clause-halts
returns-in-Err-clause-halts g c =
    let s = g.P.Port.state c.args.port.now in
    let m = g.P.Port.state c.loop-turn.port in
    let u = g.P.Port.state c.probe_next.new.port in
    let old = c.args.ring.now in
    let mid = c.loop-turn.ring in
    let i = c.loop-turn.invariant in
    let how : HaltsAtCode (point m mid) u (code_on old.trail.vars mid.next_probe) c.in-Err.end = subst (λ (v : ℕ). HaltsAtCode (point m mid) u (code_on v mid.next_probe) c.in-Err.end) i.vars c.in-Err.ensures.halts in
    round_halted (point s old) (point m mid) u old.trail.vars old.next_probe c.loop-turn.left mid.next_probe c.loop-turn._turn c.in-Err.end (omega (arith, c.loop-turn-test.true)) (omega (arith, c.if-left-eq0.false)) how i.round

pub returns-in-Err-clause-nothing : goal.returns-in-Err-clause-nothing
returns-in-Err-clause-nothing g c =
    nothing_then (g.P.Port.state c.args.port.now) (g.P.Port.state c.loop-turn.port) (g.P.Port.state c.probe_next.new.port) c.loop-turn.invariant.nothing c.probe_next.ensures.nothing

pub returns-then-left-eq0-clause-round : goal.returns-then-left-eq0-clause-round
returns-then-left-eq0-clause-round g c =
    let old = c.args.ring.now in
    let mid = c.loop-turn.ring in
    round_over (point (g.P.Port.state c.args.port.now) old) (point (g.P.Port.state c.loop-turn.port) mid) old.trail.vars old.next_probe c.loop-turn.left mid.next_probe c.loop-turn._turn (inl c.if-left-eq0.true) c.loop-turn.invariant.round

pub returns-clause-round : goal.returns-clause-round
returns-clause-round g c =
    let old = c.args.ring.now in
    let mid = c.loop-turn.ring in
    round_over (point (g.P.Port.state c.args.port.now) old) (point (g.P.Port.state c.loop-turn.port) mid) old.trail.vars old.next_probe c.loop-turn.left mid.next_probe c.loop-turn._turn (inr (omega (arith, c.loop-turn-test.false))) c.loop-turn.invariant.round

pub probe_next-requires-clause-analysis : goal.probe_next-requires-clause-analysis
probe_next-requires-clause-analysis g c = c.loop-turn.invariant.analysis ∙ c.requires.analysis ∙ sym c.loop-turn.invariant.vars
