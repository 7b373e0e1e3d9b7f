use Rattle.std.proofs.Common.{◌∙◌, ◌<◌, List, length, sym, ap, subst, get_or, arith}
use Rattle.std.proofs.lemmas.List.{get_or_default}
use Rattle.simp_base.specs.Hinting.{no_step}
use Rattle.simp_base.specs.Search.{WereLookedAt}
use Rattle.simp_base.specs.declared.hints.trail.Step.{Step}
use Rattle.simp_base.proofs.Seeing.{spread_more, spread_found, spread_all}
use Rattle.simp_base.proofs.hints.search.spread.Goals as goal

pub returns-then-next-len-clause-spread : goal.returns-then-next-len-clause-spread
returns-then-next-len-clause-spread c =
    spread_all c.args.clauses.now.clauses c.args.trail.now.steps c.loop-next.trail.steps c.args.from c.loop-next.next c.loop-next.invariant.spread
    (omega (arith, c.if-next-len.true, c.len.ensures))

pub returns-in-Some-clause-spread : goal.returns-in-Some-clause-spread
returns-in-Some-clause-spread c =
    let cells = c.args.clauses.now.clauses in
    spread_found cells c.args.trail.now.steps c.loop-next.trail.steps c.args.from c.loop-next.next c.loop-next.invariant.spread c.visit.new.trail.steps c.noted_against.result.now c.in-Some.found
    (subst (WereLookedAt cells c.loop-next.trail.steps c.visit.new.trail.steps c.noted_against.result.now) c.in-Some.is c.in_ok-found.ensures.looked)

pub loop-next-preserved : goal.loop-next-preserved
loop-next-preserved c =
    let cells = c.args.clauses.now.clauses in let now = c.loop-next.trail.steps in let next = c.loop-next.next in
    let lt : next < length now = omega (arith, c.if-next-len.false, c.len.ensures) in
    record {
      spread = spread_more cells c.args.trail.now.steps now c.args.from next c.loop-next.invariant.spread c.visit.new.trail.steps (get_or c.steps.result.now next c.index-steps-next.result).lit c.noted_against.result.now lt
          (ap (λ (s : Step). s.lit) (get_or_default now next no_step c.index-steps-next.result lt ∙ sym (ap (λ (ss : List Step). get_or ss next c.index-steps-next.result) c.steps.ensures)))
          c.noted_against.ensures.every
          (subst (WereLookedAt cells now c.visit.new.trail.steps c.noted_against.result.now) c.in_default.is c.in_ok-found.ensures.looked);
      codes = c.visit.ensures.codes ∙ c.loop-next.invariant.codes;
    }

pub returns-clause-spread : goal.returns-clause-spread
returns-clause-spread c =
    spread_all c.args.clauses.now.clauses c.args.trail.now.steps c.loop-next.trail.steps c.args.from c.loop-next.next c.loop-next.invariant.spread (omega (arith, c.loop-next-test.false, c.len-count.ensures, c.len-count.type_inv))
