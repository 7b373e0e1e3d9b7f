use Rattle.std.proofs.Common.{◌≡◌, ◌++◌, map, take}
use Rattle.watch_prop.specs.WatchData.{attached}
use Rattle.test_search.specs.Sampled.{IsSampled, cref_of}
use Rattle.test_search.proofs.sampled.Sampled.attach_all.Given as goal

abbrev pub invariant-loop-clause : goal.invariant-loop-clause
invariant-loop-clause l = record {
  sampled : IsSampled l.self.watches l.self.trail;
  attached : attached l.self.watches ≡ attached l.fn.self.watches ++ map cref_of (take l.clause-index l.clauses);
  trail : l.self.trail ≡ l.fn.self.trail;
}
