use Rattle.std.proofs.Common.{◌≡◌, take}
use Rattle.ring_run.specs.Course.{last_of}
use Rattle.ring_run.proofs.run.last_of.Given as goal

abbrev pub invariant-loop-clause : goal.invariant-loop-clause
invariant-loop-clause l = l.last ≡ last_of (take l.clause-index l.clauses)
