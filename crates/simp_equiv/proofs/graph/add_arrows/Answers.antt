use Rattle.std.proofs.Common.{◌≡◌, ◌∙◌, ap, List, subst, sym, arith, length, ◌++◌, append-nil}
use Rattle.simp_base.specs.WorkState.{has_unit}
use Rattle.simp_equiv.specs.Arrows.{Arrow, Draws, arrows_of}
use Rattle.simp_equiv.proofs.Edges.{two_items, arrows_two, arrows_fixed}
use Rattle.simp_equiv.proofs.graph.add_arrows.Goals as goal

pub returns-then-is_fixed : goal.returns-then-is_fixed
returns-then-is_fixed g c = λ given d.
    let lo = c.in-len2.len_at_least in
    let hi = c.in-len2.len_below in
    let two : length c.args.lits.now ≡ 2 = omega arith in
    let same = two_items c.args.lits.now c.a-item.result c.b-item.result two c.a-item.is c.b-item.is in
    subst (λ (gs : List Arrow). Draws c.args.work.now.vars gs c.args.graph.now.items)
    (sym (ap (λ (x : List Arrow). given ++ x) (arrows_fixed (has_unit c.args.work.now) c.args.lits.now c.a-item.result c.b-item.result c.is_fixed.result same c.is_fixed.ensures.value c.if-is_fixed.true) ∙ append-nil given))
    d

pub returns-in_ok-add_both-in-len2 : goal.returns-in_ok-add_both-in-len2
returns-in_ok-add_both-in-len2 g c = λ given d.
    let lo = c.in-len2.len_at_least in
    let hi = c.in-len2.len_below in
    let two : length c.args.lits.now ≡ 2 = omega arith in
    let same = two_items c.args.lits.now c.a-item.result c.b-item.result two c.a-item.is c.b-item.is in
    subst (λ (gs : List Arrow). Draws c.args.work.now.vars (given ++ gs) c.add_both.new.graph.items)
    (arrows_two (has_unit c.args.work.now) c.args.lits.now c.a-item.result c.b-item.result c.is_fixed.result same c.is_fixed.ensures.value c.if-is_fixed.false)
    (subst (λ v. Draws v (given ++ arrows_of c.a-item.result c.b-item.result) c.add_both.new.graph.items) c.vars.ensures (c.in_ok-add_both-in-len2.ensures given (subst (λ v. Draws v given c.args.graph.now.items) (sym c.vars.ensures) d)))
