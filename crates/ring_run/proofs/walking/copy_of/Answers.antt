use Rattle.std.proofs.Common.{false, arith}
use Rattle.std.proofs.lemmas.List.{ext_get_or}
use Rattle.ring_run.proofs.walking.copy_of.Goals as goal

pub returns : goal.returns
returns c = ext_get_or false c.loop-i.copy c.args.model.now c.loop-i.invariant.len (λ k lt. c.loop-i.invariant.each k (let len = c.loop-i.invariant.len in omega (arith, c.loop-i-test.false, c.loop-i.auto, c.len-i-end.ensures)))
