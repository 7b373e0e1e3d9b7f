use Rattle.std.proofs.Common.{◌∙◌, ◌∷◌, [], refl, subst, get_or, arith}
use Rattle.simp_base.specs.Search.{WereLookedAt}
use Rattle.simp_base.proofs.Seeing.{seen_more, seen_found, seen_all}
use Rattle.simp_base.proofs.hints.search.visit.Goals as goal

pub returns-in-Some-clause-looked : goal.returns-in-Some-clause-looked
returns-in-Some-clause-looked c =
    let cells = c.args.clauses.now.clauses in let i = c.loop-number.number-index in
    seen_found cells c.args.trail.now.steps c.loop-number.trail.steps c.args.numbers.now i c.loop-number.invariant.seen c.look_at.new.trail.steps (get_or c.args.numbers.now i 0 ∷ []) c.in-Some.found
    (subst (WereLookedAt cells c.loop-number.trail.steps c.look_at.new.trail.steps (get_or c.args.numbers.now i 0 ∷ [])) c.in-Some.is c.in_ok-found.ensures.looked)

pub loop-number-preserved : goal.loop-number-preserved
loop-number-preserved c =
    let cells = c.args.clauses.now.clauses in let i = c.loop-number.number-index in
    record {
      seen = seen_more cells c.args.trail.now.steps c.loop-number.trail.steps c.args.numbers.now i c.loop-number.invariant.seen c.look_at.new.trail.steps (get_or c.args.numbers.now i 0) refl
          (subst (WereLookedAt cells c.loop-number.trail.steps c.look_at.new.trail.steps (get_or c.args.numbers.now i 0 ∷ [])) c.in_default.is c.in_ok-found.ensures.looked);
      codes = c.look_at.ensures.codes ∙ c.loop-number.invariant.codes;
    }

pub returns-clause-looked : goal.returns-clause-looked
returns-clause-looked c =
    seen_all c.args.clauses.now.clauses c.args.trail.now.steps c.loop-number.trail.steps c.args.numbers.now c.loop-number.number-index c.loop-number.invariant.seen (omega (arith, c.loop-number-test.false))
