use Rattle.std.proofs.Common.{◌≡◌, ◌∙◌, ◌+◌, ◌<◌, List, length, take, sym, ap, subst, arith}
use Rattle.std.proofs.lemmas.List.{length-set}
use Rattle.sat_words.specs.Literal.{code_of}
use Rattle.simp_add.specs.declared.alike.Alike.{Alike}
use Rattle.simp_add.specs.declared.tally.Count.{Count}
use Rattle.simp_add.specs.Counted.{Raised, AreTouched, raised, count_of}
use Rattle.simp_add.proofs.Counting.{raised_one, raised_not}
use Rattle.simp_add.proofs.partner.raise_each.Goals as goal
use Rattle.simp_add.proofs.partner.raise_each.Goals.{then-may_pair+in_ok-raise, else-may_pair}

pub loop-alike-preserved : goal.loop-alike-preserved
loop-alike-preserved c =
    let l = c.args.first in let C = c.args.rest.now in let stamp = c.args.stamp in let found = c.args.found.now in let i = c.loop-alike.alike-index in let a : Alike = c.alike-item.result in
    let old = c.args.tally.now.counts.items in let now = c.loop-alike.tally.counts.items in let inv = c.loop-alike.invariant in
    let within : code_of a.lit < length now = (let low = c.requires.within a (i, c.loop-alike-test.true, sym c.alike-item.is) in let wide = inv.wide in omega arith) in
    let t : Raised l C stamp (take (i + 1) found) old c.if-may_pair.tally.counts.items × AreTouched l c.if-may_pair.tally.counts.items c.if-may_pair.tally.touched.items × (length c.if-may_pair.tally.counts.items ≡ length old) =
    elim c.if-may_pair.branch [
      | then-may_pair+in_ok-raise w ↦ (
          let e = ap (λ t. t.counts.items) w.tally-is ∙ w.in_ok-raise.ensures.counts in (
            subst (λ (cs : List Count). Raised l C stamp (take (i + 1) found) old cs) (sym e) (raised_one l C stamp found i a old now c.loop-alike-test.true (sym c.alike-item.is) inv.raised (sym c.may_pair.ensures ∙ w.if-may_pair.true) within),
            subst (λ t. AreTouched l t.counts.items t.touched.items) (sym w.tally-is) w.in_ok-raise.ensures.touched,
            ap (λ (cs : List Count). length cs) e ∙ length-set now (code_of a.lit) (raised (count_of now a.lit) stamp) ∙ inv.wide,
          ))
      | else-may_pair w ↦ (
        subst (λ t. Raised l C stamp (take (i + 1) found) old t.counts.items) (sym w.tally-is) (raised_not l C stamp found i a old now c.loop-alike-test.true (sym c.alike-item.is) inv.raised (sym c.may_pair.ensures ∙ w.if-may_pair.false)),
        subst (λ t. AreTouched l t.counts.items t.touched.items) (sym w.tally-is) inv.touched,
        ap (λ t. length t.counts.items) w.tally-is ∙ inv.wide,
      )
    ] in
    record { raised = t.0; touched = t.1; wide = t.2 }
