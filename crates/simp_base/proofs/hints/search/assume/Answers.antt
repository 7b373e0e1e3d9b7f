use Rattle.std.proofs.Common.{◌∙◌, ◌<◌, ◌+◌, [], take, refl, sym, ap, subst, arith, None}
use Rattle.std.proofs.lemmas.List.{take_all}
use Rattle.sat_words.specs.Literal.{Literal, opposite, code_of}
use Rattle.simp_base.proofs.Assuming.{Assumed, assumed_none, next_there, next_new, assumed_trail}
use Rattle.simp_base.proofs.hints.search.assume.Goals as goal
use Rattle.simp_base.proofs.hints.search.assume.Goals.{in-Some, in-None+in_ok-push-in-None}

pub loop-lit-init : goal.loop-lit-init
loop-lit-init c = record { assumed = subst (λ ss. Assumed ss []) (sym c.requires.empty) assumed_none; codes = refl }

pub push-requires : goal.push-requires
push-requires c = record {
  code =
      (let l : Literal = c.lit-item.result in
      let lt : code_of (opposite l) < c.args.trail.now.codes = subst (λ (k : Literal). code_of (opposite k) < c.args.trail.now.codes) (sym c.lit-item.is) (c.requires.codes c.loop-lit.lit-index l c.loop-lit-test.true) in
      omega (arith, lt, ap code_of c.not-negation.ensures, c.loop-lit.invariant.codes));
  free = c.in-None.ensures.none;
}

pub loop-lit-preserved : goal.loop-lit-preserved
loop-lit-preserved c =
    let lits = c.args.lits.now in let i = c.loop-lit.lit-index in let steps = c.loop-lit.trail.steps in let l : Literal = c.lit-item.result in
    elim c.match-place_of.branch [
      | in-Some w ↦ rw w.trail-is (record {
        assumed = next_there steps lits i l c.loop-lit-test.true c.lit-item.is c.loop-lit.invariant.assumed
            (record { place = w.in-Some.field-0; before = w.in-Some.ensures.some.0; true_there = w.in-Some.ensures.some.1 ∙ c.not-negation.ensures });
        codes = c.loop-lit.invariant.codes;
      })
      | in-None+in_ok-push-in-None w ↦ rw w.trail-is (record {
        assumed = subst (λ ss. Assumed ss (take (i + 1) lits)) (sym w.in_ok-push-in-None.ensures.ok)
            (next_new steps lits i l c.loop-lit-test.true c.lit-item.is c.loop-lit.invariant.assumed (record { lit = c.not-negation.result; reason = None }) c.not-negation.ensures refl
            (λ p lt e. w.in-None.ensures.none p lt (e ∙ sym c.not-negation.ensures)));
        codes = w.push.ensures.codes ∙ c.loop-lit.invariant.codes;
      })
    ]

pub returns : goal.returns
returns c = record {
  trail = λ cells. assumed_trail c.loop-lit.trail.steps c.args.lits.now (subst (Assumed c.loop-lit.trail.steps) (take_all c.loop-lit.lit-index c.args.lits.now (omega (arith, c.loop-lit-test.false))) c.loop-lit.invariant.assumed) c.requires.no_opposites cells;
  codes = c.loop-lit.invariant.codes;
}
