use Rattle.std.proofs.Common.{length, arith}
use Rattle.sat_words.specs.Literal.{IsOn}
use Rattle.ring_walk.specs.Walk.{weight_of}
use Rattle.ring_walk.proofs.Drawing.{first_in}
use Rattle.ring_walk.proofs.walker.Walker.step.Goals as goal

pub flip-requires-clause-high : goal.flip-requires-clause-high
flip-requires-clause-high c =
    let w = c.args.self.now in
    let on = first_in (IsOn (length w.values)) (weight_of w.clauses w.fixed w.values) c.drawn-lits.result.now _ c.first_above-lit.result c.drawn-lits.ensures.on c.first_above-lit.ensures.first in
    let h = on.high in
    let v = c.var.ensures.value in
    omega arith
