use Rattle.std.proofs.Common.{◌≡◌}
use Rattle.watch_prop.specs.WatchData.{attached}
use Rattle.test_search.specs.Sampled.{IsSampled, left_by}
use Rattle.test_search.proofs.sampled.Sampled.come_and_go.Given as goal

abbrev pub invariant-loop-done : goal.invariant-loop-done
invariant-loop-done l = record {
  sampled : IsSampled l.self.watches l.self.trail;
  attached : attached l.self.watches ≡ left_by l._done (attached l.fn.self.watches);
  trail : l.self.trail ≡ l.fn.self.trail;
}
