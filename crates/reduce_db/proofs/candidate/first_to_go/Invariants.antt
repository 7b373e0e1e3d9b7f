use Rattle.std.proofs.Common.{◌≡◌, take}
use Rattle.reduce_db.specs.Ranking.{only_some}
use Rattle.reduce_db.proofs.candidate.first_to_go.Given as goal

abbrev pub invariant-loop-candidate : goal.invariant-loop-candidate
invariant-loop-candidate l = l.in_order.items ≡ only_some (take l.candidate-index l.candidates)
