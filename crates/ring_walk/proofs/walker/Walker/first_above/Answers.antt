use Rattle.std.proofs.Common.{◌∙◌, ap, arith}
use Rattle.std.proofs.lemmas.List.Sums.{sum_by_more}
use Rattle.ring_walk.specs.Walk.{weight_of}
use Rattle.ring_walk.proofs.Drawing.{first}
use Rattle.ring_walk.proofs.walker.Walker.first_above.Goals as goal

pub returns-then-left-weight : goal.returns-then-left-weight
returns-then-left-weight c =
    let w = c.args.self.now in
    let e = c.weight-weight.ensures.value in
    let lt = c.if-left-weight.true in
    record {
      first = first (weight_of w.clauses w.fixed w.values) c.args.lits.now c.args.number c.loop-lit.lit-index c.loop-lit.left c.lit-item.result c.loop-lit-test.true c.lit-item.is c.loop-lit.invariant (omega arith);
    }

pub loop-lit-preserved : goal.loop-lit-preserved
loop-lit-preserved c =
    let w = c.args.self.now in
    let f = weight_of w.clauses w.fixed w.values in
    let more = sum_by_more f c.args.lits.now c.loop-lit.lit-index c.lit-item.result c.loop-lit-test.true in
    let e = c.weight-weight.ensures.value ∙ ap f c.lit-item.is in
    let high = c.if-left-weight.false in
    let was = c.loop-lit.invariant in
    omega arith
