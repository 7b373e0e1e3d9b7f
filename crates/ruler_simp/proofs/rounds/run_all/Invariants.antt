use Rattle.std.proofs.Common.{drop}
use Rattle.ruler_simp.proofs.Turning.{Row}
use Rattle.ruler_simp.proofs.rounds.run_all.Given as goal

abbrev pub invariant-loop-pass : goal.invariant-loop-pass
invariant-loop-pass g l = Row l.passes (drop l.pass-index l.passes) l.initial.work l.work
