use Rattle.std.proofs.Common.{arith}
use Rattle.watch_prop.proofs.watches.Watches.thin_out.Goals as goal

pub returns-then-saturating_sub-count-clause-few : goal.returns-then-saturating_sub-count-clause-few
returns-then-saturating_sub-count-clause-few c = omega (arith, c.take_free_out.ensures.full)
