use Rattle.std.proofs.Common.{refl}
use Rattle.portfolio_run.proofs.solving.solve_left.Goals as goal

pub run_round-requires : goal.run_round-requires
run_round-requires g c κs within =
    let q = c.requires.1.1.1.1.1.1 in
    let at = c.loop-next.invariant in
    (within.0, (within.1.0, (within.1.1, (c.requires.1.1.1.0, (c.requires.1.1.1.1.0, (c.requires.1.1.1.1.1.0, (q.0, (q.1.0, (q.1.1.0, (q.1.1.1.0, (q.1.1.1.1.0, (q.1.1.1.1.1.0, (q.1.1.1.1.1.1.0, (q.1.1.1.1.1.1.1.0, (at.1, (refl, (at.2, q.1.1.1.1.1.1.1.1.1.1)))))))))))))))))
