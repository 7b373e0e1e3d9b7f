use Rattle.std.proofs.Common.{◌≡◌, take}
use Rattle.share_core.specs.NextRound.{numbers_of}
use Rattle.share_core.proofs.rounds.numbers_of.Given as goal

abbrev pub invariant-loop-pair : goal.invariant-loop-pair
invariant-loop-pair l = l.numbers.items ≡ numbers_of (take l.pair-index l.start)
