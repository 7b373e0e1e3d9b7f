use Rattle.std.proofs.Common.{◌≡◌, map, take}
use Rattle.share_core.specs.Machine.{start_at}
use Rattle.share_core.proofs.openings.start_clauses.Given as goal

abbrev pub invariant-loop-pair : goal.invariant-loop-pair
invariant-loop-pair l = l.starts ≡ map (start_at l.clauses) (take l.pair-index l.start)
