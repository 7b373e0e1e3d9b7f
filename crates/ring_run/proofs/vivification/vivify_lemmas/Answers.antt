use Rattle.std.proofs.Common.{◌∙◌, ◌≤◌, ◌<◌, suc, ap, sym, refl, arith, length, take, drop}
use Rattle.ring_run.specs.Renewal.{point}
use Rattle.ring_run.specs.declared.ring.Ring.{Ring}
use Rattle.ring_run.proofs.Offering.{nothing_none, nothing_then}
use Rattle.ring_run.proofs.Turns.{none_turned, one_turned, cut_turned, next_inside, all_turned}
use Rattle.ring_run.proofs.Shrinking.{halts_then}
use Rattle.ring_run.proofs.vivification.vivify_lemmas.Goals as goal

pub loop-search_step-init : goal.loop-search_step-init
loop-search_step-init g c =
    let s = g.P.Port.state c.args.port.now in
    record {
      keeps = λ start n p. p;
      resting = c.requires.resting;
      listed = c.requires.listed;
      unmixed = c.requires.unmixed;
      turned = none_turned (point s c.args.ring.now) c.args.ring.now.lemmas.items;
      steps = omega arith;
      vars = refl;
      analysis = refl;
      same = refl;
      looks = refl;
      nothing = nothing_none s;
      port = c.requires.resting.search.clauses.port;
    }

pub loop-search_step-preserved : goal.loop-search_step-preserved
loop-search_step-preserved g c =
    let s = g.P.Port.state c.args.port.now in
    let m = g.P.Port.state c.loop-search_step.port in
    let u = g.P.Port.state c.vivify_at.new.port in
    let old = c.args.ring.now in
    let mid = c.loop-search_step.ring in
    let new = c.vivify_at.new.ring in
    let i = c.loop-search_step.invariant in
    let k = c.in-Ok.ensures in
    record {
      keeps = λ start n p. k.keeps start n (i.keeps start n p);
      resting = k.resting;
      listed = k.listed;
      unmixed = k.unmixed;
      turned = one_turned (point s old) (point m mid) (point u new) old.lemmas.items mid.lemmas.items new.lemmas.items c.loop-search_step._search_step c.loop-search_step.place c.in-Ok.next
          (let q = c.loop-search_step-test.true in let n = c.len-search_step-end.ensures in let e = old.lemmas.ok.0 in omega (arith, q, n, e)) i.turned k.took;
      steps = omega (arith, i.steps, k.steps);
      vars = k.vars ∙ i.vars;
      analysis = k.analysis ∙ i.analysis;
      same = k.same ∙ ap (λ (r : Ring). record r { trail = new.trail; watches = new.watches; written = new.written; lemmas = new.lemmas }) i.same;
      looks = k.looks ∙ i.looks;
      nothing = nothing_then s m u i.nothing k.nothing;
      port = k.port;
    }

pub vivify_at-requires-clause-inside : goal.vivify_at-requires-clause-inside
vivify_at-requires-clause-inside g c =
    let old = c.args.ring.now in
    let lt : c.loop-search_step._search_step < length old.lemmas.items = (let q = c.loop-search_step-test.true in let n = c.len-search_step-end.ensures in let e = old.lemmas.ok.0 in omega (arith, q, n, e)) in
    next_inside (point (g.P.Port.state c.args.port.now) old) (point (g.P.Port.state c.loop-search_step.port) c.loop-search_step.ring) old.lemmas.items c.loop-search_step.ring.lemmas.items c.loop-search_step._search_step c.loop-search_step.place (record { address = 0 }) c.loop-search_step.invariant.turned lt

pub returns-in-Err-clause-over : goal.returns-in-Err-clause-over
returns-in-Err-clause-over g c =
    halts_then (g.P.Port.state c.args.port.now) (g.P.Port.state c.loop-search_step.port) (g.P.Port.state c.vivify_at.new.port) c.in-Err.end c.loop-search_step.invariant.keeps c.in-Err.ensures.over

pub returns-clause-took : goal.returns-clause-took
returns-clause-took g c =
    let old = c.args.ring.now in
    let le : length old.lemmas.items ≤ c.loop-search_step._search_step = (let q = c.loop-search_step-test.false in let n = c.len-search_step-end.ensures in let e = old.lemmas.ok.0 in omega (arith, q, n, e)) in
    all_turned (point (g.P.Port.state c.args.port.now) old) (point (g.P.Port.state c.loop-search_step.port) c.loop-search_step.ring) old.lemmas.items c.loop-search_step.ring.lemmas.items c.loop-search_step._search_step c.loop-search_step.place c.loop-search_step.invariant.turned le

pub returns-in-Err-clause-halts : goal.returns-in-Err-clause-halts
returns-in-Err-clause-halts g c =
    let old = c.args.ring.now in
    let mid = c.loop-search_step.ring in
    let p = point (g.P.Port.state c.args.port.now) old in
    let q = point (g.P.Port.state c.loop-search_step.port) mid in
    let i = c.loop-search_step._search_step in
    let t = c.loop-search_step.invariant.turned in
    let how = c.in-Err.ensures.halts in
    let lt : i < length old.lemmas.items = (let q = c.loop-search_step-test.true in let n = c.len-search_step-end.ensures in let e = old.lemmas.ok.0 in omega (arith, q, n, e)) in
    record {
      between = q;
      done = take i old.lemmas.items;
      kept = take c.loop-search_step.place mid.lemmas.items;
      shorter = t.shorter;
      each = t.each;
      lemma = how.lemma;
      later = drop (suc i) old.lemmas.items;
      parts = cut_turned p q old.lemmas.items mid.lemmas.items i c.loop-search_step.place how.lemma lt t how.there;
      halts = how.halts;
    }

pub vivify_at-requires-clause-analysis : goal.vivify_at-requires-clause-analysis
vivify_at-requires-clause-analysis g c = c.loop-search_step.invariant.analysis ∙ c.requires.analysis ∙ sym c.loop-search_step.invariant.vars
