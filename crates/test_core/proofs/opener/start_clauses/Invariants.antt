use Rattle.std.proofs.Common.{◌≡◌, map, take}
use Rattle.share_core.specs.Machine.{start_at}
use Rattle.test_core.proofs.opener.start_clauses.Given as goal

abbrev pub invariant-loop-pair : goal.invariant-loop-pair
invariant-loop-pair l = l.starts.items ≡ map (start_at l.clauses) (take l.pair-index l.start)
