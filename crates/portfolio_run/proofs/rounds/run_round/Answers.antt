use Rattle.std.proofs.Common.{refl, subst}
use Rattle.portfolio_run.specs.Pauses.{Pause, IsPausedAt}
use Rattle.portfolio_run.proofs.rounds.run_round.Goals as goal

pub run_noted-requires : goal.run_noted-requires
run_noted-requires g c κs within =
    let q = c.requires.1.1.1.1.1.1 in
    let at = subst (λ (p : Pause). IsPausedAt p c.of_pause-journal.result.entries) q.1.1.1.1.1.1.1.1.1.0 c.of_pause-journal.ensures in
    (within.0, (within.1.0, (within.1.1, (c.requires.1.1.1.0, (c.requires.1.1.1.1.0, (c.requires.1.1.1.1.1.0, (q.0, (q.1.0, (q.1.1.0, (q.1.1.1.0, (q.1.1.1.1.0, (q.1.1.1.1.1.0, (q.1.1.1.1.1.1.0, (q.1.1.1.1.1.1.1.0, (at, ((refl, refl), q.1.1.1.1.1.1.1.1.1.1))))))))))))))))
