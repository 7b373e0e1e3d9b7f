use Rattle.std.proofs.Common.{◌≢◌, inl, inr, arith, subst, Some, ℕ}
use Rattle.watch_prop.specs.Watched.{At}
use Rattle.watch_prop.proofs.ListsLemmas.{cases_eq}
use Rattle.watch_prop.proofs.Detaching.{Freed-trans}
use Rattle.watch_prop.proofs.watches.Watches.free_waiting.Goals as goal

pub loop-index-preserved : goal.loop-index-preserved
loop-index-preserved c = record {
  freed = Freed-trans c.args.self.now c.loop-index.self c.free.new.self c.args.c.address c.loop-index.invariant.freed c.free.ensures.freed;
  gone = λ i s past lt at. elim (cases_eq i c.loop-index.index) as (λ _. s.clause.address ≢ c.args.c.address) [
    | inl e ↦ c.free.ensures.gone s (subst (λ (n : ℕ). At c.free.new.self.slots n (Some s)) e at)
    | inr ne ↦ c.loop-index.invariant.gone i s past (omega arith) (c.free.ensures.freed.thinned.only i s at)
  ];
}
