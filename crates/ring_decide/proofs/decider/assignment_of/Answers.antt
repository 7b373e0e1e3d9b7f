use Rattle.std.proofs.Common.{◌≡◌, ◌<◌, ◌≤◌, false, length, arith}
use Rattle.std.proofs.lemmas.List.{ext_get_or}
use Rattle.ring_decide.proofs.decider.assignment_of.Goals as goal

pub returns : goal.returns
returns c =
    let len = c.loop-i.invariant.len in
    ext_get_or false c.loop-i.assignment c.args.values.now len (λ k lt. c.loop-i.invariant.each k (omega (arith, c.loop-i-test.false, c.loop-i.auto)))
