use Rattle.std.proofs.Common.{◌∙◌, ◌+◌, ◌-◌, ◌%◌, Bool, not, List, length, ap}
use Rattle.std.proofs.lemmas.List.{length-set}
use Rattle.sat_words.specs.Truth.{value_of}
use Rattle.ring_walk.specs.WalkData.{WalkData}
use Rattle.ring_walk.proofs.tests.counts_are_those_of_a_slow_count.Goals as goal

pub loop-flip-preserved : goal.loop-flip-preserved
loop-flip-preserved g c =
    let w = c.loop-flip.walker in
    let a = c.loop-flip.values in
    let v = c.next_word.result % 12 + 1 in
    record {
      walker = ap (λ (d : WalkData). length d.values) c.flip.ensures ∙ length-set w.values (v - 1) (not (value_of w.values v)) ∙ c.loop-flip.invariant.walker;
      free = λ u. ap (λ (d : WalkData). value_of d.fixed u) c.flip.ensures ∙ c.loop-flip.invariant.free u;
      values = ap (λ (b : List Bool). length b) c.set.ensures ∙ length-set a (v - 1) (not c.value-value.result) ∙ c.loop-flip.invariant.values;
    }
