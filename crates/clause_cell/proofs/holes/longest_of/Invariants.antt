use Rattle.std.proofs.Common.{◌≡◌, take}
use Rattle.clause_cell.specs.Free.{largest}
use Rattle.clause_cell.specs.Blocks.{holes_of}
use Rattle.clause_cell.proofs.holes.longest_of.Given as goal

abbrev pub invariant-loop-block : goal.invariant-loop-block
invariant-loop-block l = l.most ≡ largest (holes_of (take l.block-index l.blocks))
