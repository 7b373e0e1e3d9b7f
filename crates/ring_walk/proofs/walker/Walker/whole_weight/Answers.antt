use Rattle.std.proofs.Common.{◌∙◌, ap, arith}
use Rattle.std.proofs.lemmas.List.Sums.{sum_by_more}
use Rattle.ring_walk.specs.Walk.{weight_of}
use Rattle.ring_walk.proofs.walker.Walker.whole_weight.Goals as goal

pub loop-lit-preserved : goal.loop-lit-preserved
loop-lit-preserved c =
    let w = c.args.self.now in
    let f = weight_of w.clauses w.fixed w.values in
    let more = sum_by_more f c.args.lits.now c.loop-lit.lit-index c.lit-item.result c.loop-lit-test.true in
    let e = c.weight-sum.ensures.value ∙ ap f c.lit-item.is in
    let was = c.loop-lit.invariant.sum in
    let small = c.loop-lit.invariant.small in
    let one = c.weight-sum.ensures.small in
    record { sum = omega arith; small = omega arith }
