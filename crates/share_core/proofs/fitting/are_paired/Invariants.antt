use Rattle.std.proofs.Common.{take}
use Rattle.rup_model.specs.Journal.{book}
use Rattle.share_core.specs.State.{ArePaired, unit_lits, unit_numbers}
use Rattle.share_core.proofs.fitting.are_paired.Given as goal

abbrev pub invariant-loop-unit : goal.invariant-loop-unit
invariant-loop-unit l = ArePaired (book l.clauses l.journal) (unit_lits (take l.unit-index l.units)) (unit_numbers (take l.unit-index l.units))
