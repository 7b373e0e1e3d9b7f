use Rattle.std.proofs.Common.{◌≡◌, ◌∙◌, true, false, List, take, get_or, sym, ap, arith}
use Rattle.std.proofs.lemmas.Grind.{common_steps}
use Rattle.sat_words.specs.Literal.{Literal}
use Rattle.rup_model.specs.Log.{alive, alive_after, is_valid}
use Rattle.drat_check.proofs.Fronts.{alive_more, accepted_more, first_bad}
use Rattle.drat_check.proofs.verdict.check.Goals as goal

pub returns-then-not-branch : goal.returns-then-not-branch
returns-then-not-branch c =
    let F = c.args.formula.now.clauses in
    let L = c.args.lines.now in
    let i = c.loop-i.i in
    let d = c.index-lines-i.result in
    let at : get_or L i d ≡ d = grind (arith, common_steps, c.index-lines-i.is) in
    let G : c.as_slice.result.now ≡ alive F (take i L) = c.as_slice.ensures.value ∙ c.loop-i.invariant.alive in
    let bad : is_valid (alive F (take i L)) (get_or L i d) ≡ false
    = ap (is_valid (alive F (take i L))) at ∙ ap (λ (H : List (List Literal)). is_valid H d) (sym G) ∙ sym c.in_ok-is_valid.ensures ∙ c.if-not-branch.true in
    first_bad F L i d c.loop-i-test.true c.loop-i.invariant.good bad

pub loop-i-preserved : goal.loop-i-preserved
loop-i-preserved c =
    let F = c.args.formula.now.clauses in
    let L = c.args.lines.now in
    let i = c.loop-i.i in
    let d = c.index-lines-i.result in
    let d2 = c.index-lines-i-in-loop-i.result in
    let at : get_or L i d ≡ d = grind (arith, common_steps, c.index-lines-i.is) in
    let at2 : d2 ≡ get_or L i d = grind (arith, common_steps, c.index-lines-i-in-loop-i.is, c.index-lines-i.is) in
    let G : c.as_slice.result.now ≡ alive F (take i L) = c.as_slice.ensures.value ∙ c.loop-i.invariant.alive in
    let valid : is_valid (alive F (take i L)) (get_or L i d) ≡ true
    = ap (is_valid (alive F (take i L))) at ∙ ap (λ (H : List (List Literal)). is_valid H d) (sym G) ∙ sym c.in_ok-is_valid.ensures ∙ c.if-not-branch.false in
    let grown : c.apply.new.alive.items ≡ alive_after (alive F (take i L)) (get_or L i d)
    = c.in_ok-apply.ensures ∙ ap (λ (H : List (List Literal)). alive_after H d2) c.loop-i.invariant.alive ∙ ap (alive_after (alive F (take i L))) at2 in
    record {
      alive = grown ∙ alive_more F L i d c.loop-i-test.true;
      good = accepted_more F L i d c.loop-i-test.true c.loop-i.invariant.good valid;
    }
