use Rattle.std.proofs.Common.{◌≡◌, map, take}
use Rattle.share_core.specs.Machine.{start_stored}
use Rattle.share_core.proofs.openings.start_cells.Given as goal

abbrev pub invariant-loop-s : goal.invariant-loop-s
invariant-loop-s l = l.cells.items ≡ map (start_stored l.rings) (take l.s-index l.starts)
