use Rattle.std.proofs.Common.{Bool, sym, subst}
use Rattle.ruler_simp.specs.Passes.{WereRun, round_passes}
use Rattle.ruler_simp.proofs.rounds.run_round.Goals as goal

pub returns-then-additions-clause-ran : goal.returns-then-additions-clause-ran
returns-then-additions-clause-ran g c = subst (λ (b : Bool). WereRun (round_passes b) c.args.work.now c.run_all.new.work c.run_all.result) (sym c.if-additions.true) c.run_all.ensures.ran

pub returns-else-additions-clause-ran : goal.returns-else-additions-clause-ran
returns-else-additions-clause-ran g c =
    subst (λ (b : Bool). WereRun (round_passes b) c.args.work.now c.run_all-else-additions.new.work c.run_all-else-additions.result) (sym c.if-additions.false) c.run_all-else-additions.ensures.ran
