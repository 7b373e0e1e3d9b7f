use Rattle.std.proofs.Common.{◌≡◌, ◌∙◌, ◌+◌, [], get_or, ap, arith}
use Rattle.std.proofs.lemmas.List.{get_or_default}
use Rattle.ring_walk.specs.Occurrences.{times}
use Rattle.ring_walk.proofs.Ranking.{rank_next, rank_small}
use Rattle.ring_walk.proofs.occurrences.sizes_of.Goals as goal

pub add_times-requires-clause-few : goal.add_times-requires-clause-few
add_times-requires-clause-few c = λ x low.
    let G = c.args.clauses.now in
    let i = c.loop-clause.clause-index in
    let lt = c.loop-clause-test.true in
    let len = c.loop-clause.invariant.len in
    let was = c.loop-clause.invariant.each x (omega arith) in
    let next = rank_next G x i lt in
    let lits : c.lits.result.now ≡ get_or G i [] = c.lits.ensures.value ∙ c.clause-item.is ∙ get_or_default G i c.clause-item.result [] lt in
    let e = ap (times x) lits in
    let small = rank_small G x (i + 1) c.requires.ordered in
    let few = c.requires.few in
    omega arith
