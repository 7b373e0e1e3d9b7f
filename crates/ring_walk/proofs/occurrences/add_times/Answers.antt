use Rattle.std.proofs.Common.{◌≡◌, ◌+◌, ◌<◌, length, get_or, arith, rules}
use Rattle.std.specs.Prelude.{◌^◌}
use Rattle.std.proofs.lemmas.List.{get_or_read}
use Rattle.sat_words.specs.Literal.{code_of}
use Rattle.ring_walk.proofs.Filling.{times_within}
use Rattle.ring_walk.proofs.occurrences.add_times.Goals as goal

pub overflow_add-index_mut : goal.overflow_add-index_mut
overflow_add-index_mut c =
    let l = c.lit-item.result in
    let F = c.loop-lit.sizes.items in
    let k = c.loop-lit.lit-index in
    let low : code_of l < length c.args.sizes.now.items = search rules in
    let len = c.loop-lit.invariant.len in
    let there : c.index_mut.result.now ≡ get_or F (code_of l) 0 = get_or_read F (code_of l) c.index_mut.result.now (omega arith) (search rules) 0 in
    let was = c.loop-lit.invariant.each (code_of l) low in
    let within = times_within c.args.lits.now k l c.loop-lit-test.true c.lit-item.is in
    let few = c.requires.few (code_of l) low in
    let small : c.index_mut.result.now + 1 < 2 ^ 32 = omega arith in
    search rules
