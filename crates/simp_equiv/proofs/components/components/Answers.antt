use Rattle.std.proofs.Common.{◌∙◌, List, map, ap, arith}
use Rattle.simp_equiv.specs.States.{number_of}
use Rattle.simp_equiv.specs.declared.components.Mark.{Mark}
use Rattle.simp_equiv.proofs.Moves.{all_numbered}
use Rattle.simp_equiv.proofs.components.components.Goals as goal

pub returns : goal.returns
returns c =
    let over = c.loop-root-test.false in
    all_numbered c.args.graph.now c.loop-root.search c.in_ok-numbers.numbers.items c.loop-root.invariant.searching (λ v h. c.loop-root.invariant.met v (omega arith))
    (c.in_ok-numbers.ensures ∙ ap (λ (x : List Mark). map number_of x) c.as_slice.ensures.value)
