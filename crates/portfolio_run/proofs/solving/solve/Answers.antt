use Rattle.std.proofs.Common.{refl}
use Rattle.portfolio_run.proofs.solving.solve.Goals as goal

pub solve_counted-requires : goal.solve_counted-requires
solve_counted-requires g c κs within =
    let r = c.requires in
    (within.0, (within.1.0, (within.1.1, (c.type_bounds.send-S, (c.type_bounds.sync-G, (c.type_bounds.sync-H, (refl, (r.threads, (r.conflicts, (r.words, (r.slots, (r.round, (r.few, (r.on, (r.empty, ((c.in-Ok.ensures, c.in-Ok-none_counted.ensures), r.plain))))))))))))))))
