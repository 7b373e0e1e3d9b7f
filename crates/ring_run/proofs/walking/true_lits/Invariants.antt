use Rattle.std.proofs.Common.{◌≡◌, take}
use Rattle.ring_run.specs.Walked.{lits_of}
use Rattle.ring_run.proofs.walking.true_lits.Given as goal

abbrev pub invariant-loop-place : goal.invariant-loop-place
invariant-loop-place l = l.lits.items ≡ lits_of (take l.place l.trail.steps)
