use Rattle.std.proofs.Common.{◌≡◌, take}
use Rattle.reduce_db.proofs.Marks.{marks}
use Rattle.reduce_db.proofs.reasons.reasons_of.Given as goal

abbrev pub invariant-loop-place : goal.invariant-loop-place
invariant-loop-place l = l.reasons.items ≡ marks (take l.place l.trail.steps)
