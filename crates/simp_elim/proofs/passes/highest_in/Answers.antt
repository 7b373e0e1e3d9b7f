use Rattle.std.proofs.Common.{◌∙◌, List, sym, subst, arith}
use Rattle.std.specs.List.{All}
use Rattle.sat_words.specs.Literal.{Literal, IsOn}
use Rattle.simp_elim.proofs.Heights.{wider, all_next}
use Rattle.simp_elim.proofs.Within.{take_whole}
use Rattle.simp_elim.proofs.passes.highest_in.Goals as goal

pub loop-lit-preserved : goal.loop-lit-preserved
loop-lit-preserved c =
    let lits = c.lits-lit-items.result.now in let i = c.loop-lit.lit-index in let l : Literal = c.lit-item.result in let top = c.loop-lit.top in let new = c.higher-top.result in
    record {
      above = (let a = c.loop-lit.invariant.above in let b = c.higher-top.ensures.above in omega arith);
      all = all_next (IsOn top) (IsOn new) lits i l c.loop-lit-test.true c.lit-item.is (wider top new c.higher-top.ensures.above) c.loop-lit.invariant.all c.higher-top.ensures.on;
      few = λ h. c.higher-top.ensures.few (c.loop-lit.invariant.few h);
      within = λ h a b. c.higher-top.ensures.within h (c.loop-lit.invariant.within h a b) (subst (IsOn h) (sym c.lit-item.is) (b i l c.loop-lit-test.true)).high;
    }

pub returns-clause-all : goal.returns-clause-all
returns-clause-all c =
    subst (λ (ls : List Literal). All (IsOn c.loop-lit.top) ls) (take_whole c.lits-lit-items.result.now c.loop-lit.lit-index c.loop-lit-test.false ∙ c.lits-lit-items.ensures.value) c.loop-lit.invariant.all
