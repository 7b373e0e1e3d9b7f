use Rattle.std.proofs.Common.{◌≡◌, ◌∙◌, ap, sym, subst, arith, ℕ, ◌-◌, ◌+◌, take, length, List, Bool, true}
use Rattle.std.proofs.Math.ListN.{set}
use Rattle.std.proofs.lemmas.List.{take_all}
use Rattle.sat_words.specs.Literal.{Literal}
use Rattle.sat_words.specs.Literal.{IsOn}
use Rattle.top_call.specs.Occurring.{Marks}
use Rattle.top_call.proofs.Models.{marks_start, marks_next}
use Rattle.top_call.proofs.occurring.mark.Goals as goal

pub loop-lit-init : goal.loop-lit-init
loop-lit-init c = marks_start c.args.occurring.now

pub set-requires-clause-in_range : goal.set-requires-clause-in_range
set-requires-clause-in_range c =
    let on : IsOn (length c.args.occurring.now) c.lit-item.result = subst (IsOn (length c.args.occurring.now)) (sym c.lit-item.is) (c.requires c.loop-lit.lit-index c.lit-item.result c.loop-lit-test.true) in
    let high = on.high in
    let long = c.loop-lit.invariant.long in
    let is = c.var.ensures.value in
    omega arith

pub loop-lit-preserved : goal.loop-lit-preserved
loop-lit-preserved c =
    let on : IsOn (length c.args.occurring.now) c.lit-item.result = subst (IsOn (length c.args.occurring.now)) (sym c.lit-item.is) (c.requires c.loop-lit.lit-index c.lit-item.result c.loop-lit-test.true) in
    let next : Marks (take (c.loop-lit.lit-index + 1) c.args.clause.now) c.args.occurring.now (set c.loop-lit.occurring (c.lit-item.result.var - 1) true) =
    marks_next c.args.clause.now c.args.occurring.now c.loop-lit.occurring c.loop-lit.lit-index c.lit-item.result c.loop-lit-test.true c.lit-item.is on.low on.high c.loop-lit.invariant in
    let is : c.set.new.self ≡ set c.loop-lit.occurring (c.lit-item.result.var - 1) true = c.set.ensures ∙ ap (λ (v : ℕ). set c.loop-lit.occurring (v - 1) true) c.var.ensures.value in
    subst (λ (m : List Bool). Marks (take (c.loop-lit.lit-index + 1) c.args.clause.now) c.args.occurring.now m) (sym is) next

pub returns : goal.returns
returns c = subst (λ (d : List Literal). Marks d c.args.occurring.now c.loop-lit.occurring) (take_all c.loop-lit.lit-index c.args.clause.now c.loop-lit-test.false) c.loop-lit.invariant
