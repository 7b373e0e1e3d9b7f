use Rattle.std.proofs.Common.{◌≡◌, ◌≤◌, take}
use Rattle.share_core.specs.State.{times_at}
use Rattle.share_core.proofs.ring.times_of.Given as goal

abbrev pub invariant-loop-h : goal.invariant-loop-h
invariant-loop-h l = (l.times ≡ times_at l.address (take l.h-index l.list)) × (l.times ≤ l.h-index)
