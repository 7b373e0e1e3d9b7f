use Rattle.std.proofs.Common.{◌≡◌, ◌∙◌, ◌<◌, ℕ, List, length, set, sym, subst, arith, Contains}
use Rattle.std.proofs.lemmas.List.{length-set}
use Rattle.sat_words.specs.Literal.{Literal, code_of}
use Rattle.simp_add.specs.Counted.{count_of, nothing}
use Rattle.simp_add.proofs.OneMore.{take_whole}
use Rattle.simp_add.proofs.Choosing.{back_next, set_back}
use Rattle.simp_add.proofs.tally.clear_all.Goals as goal

pub loop-lit-preserved : goal.loop-lit-preserved
loop-lit-preserved c =
    let now = c.loop-lit.counts.items in let lits = c.args.lits.now in let i = c.loop-lit.lit-index in let l : Literal = c.lit-item.result in
    let e = c.code.ensures in
    let inv = c.loop-lit.invariant in
    let low : code_of l < length c.args.counts.now.items = c.requires l (i, c.loop-lit-test.true, sym c.lit-item.is) in
    let within : code_of l < length now = (let wide = inv.wide in omega arith) in
    record {
      wide = length-set now c.code.result nothing ∙ inv.wide;
      there = λ j h. subst (λ (k : ℕ). count_of (set now k nothing) j ≡ nothing) (sym e) (back_next now lits i l c.loop-lit-test.true c.lit-item.is within inv.there j h);
      others = λ j h. subst (λ (k : ℕ). count_of (set now k nothing) j ≡ nothing) (sym e) (set_back now l j within (inv.others j h));
    }

pub returns-clause-there : goal.returns-clause-there
returns-clause-there c j h =
    c.loop-lit.invariant.there j (subst (λ (xs : List Literal). Contains xs j) (sym (take_whole c.args.lits.now c.loop-lit.lit-index c.loop-lit-test.false)) h)
