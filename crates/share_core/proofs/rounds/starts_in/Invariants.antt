use Rattle.std.proofs.Common.{◌≡◌, map, take}
use Rattle.rup_model.specs.Journal.{book}
use Rattle.share_core.specs.NextRound.{start_in}
use Rattle.share_core.proofs.rounds.starts_in.Given as goal

abbrev pub invariant-loop-pair : goal.invariant-loop-pair
invariant-loop-pair l = l.starts ≡ map (start_in (book l.clauses l.journal)) (take l.pair-index l.start)
