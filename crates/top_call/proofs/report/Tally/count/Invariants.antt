use Rattle.std.proofs.Common.{◌≡◌, take}
use Rattle.top_call.specs.Tallied.{counted}
use Rattle.top_call.proofs.report.Tally.count.Given as goal

abbrev pub invariant-loop-ring : goal.invariant-loop-ring
invariant-loop-ring l = l.self ≡ counted (take l.ring l.fn.counts) l.fn.self
