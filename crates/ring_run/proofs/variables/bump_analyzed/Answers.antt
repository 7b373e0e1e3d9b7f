use Rattle.std.proofs.Common.{All, length, subst, sym}
use Rattle.std.proofs.lemmas.List.Sorted.{All-permutation}
use Rattle.analyze.specs.AnalysisData.{IsVariable}
use Rattle.ring_run.specs.declared.variables.Bump.{Bump}
use Rattle.ring_run.proofs.variables.bump_analyzed.Goals as goal

pub bump_each-requires : goal.bump_each-requires
bump_each-requires c = record {
  on = subst (All (λ (b : Bump). IsVariable (length c.args.decider.now.active) b.var)) (sym c.as_slice.ensures.value)
      (All-permutation (λ (b : Bump). IsVariable (length c.args.decider.now.active) b.var) c.list_bumps.new.bumps.items c.sort_unstable.new.self.items c.sort_unstable.ensures.permutation c.in_ok-list_bumps.ensures.on);
}
