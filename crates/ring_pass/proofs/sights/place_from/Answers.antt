use Rattle.std.proofs.Common.{false, arith}
use Rattle.ring_pass.proofs.UnitsHere.{none_from}
use Rattle.ring_pass.proofs.sights.place_from.Goals as goal

pub returns : goal.returns
returns c = none_from c.args.from c.args.lits.now c.args.lit (record { var = 0; neg = false }) (λ j le lt. c.loop-place.invariant j le (let end = c.loop-place-test.false in omega arith))
