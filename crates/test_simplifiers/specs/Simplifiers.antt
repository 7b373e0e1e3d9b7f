-- What each simplifier promises.
use Rattle.std.specs.Prelude.{Result}
use Rattle.drat_text.specs.declared.stop.LineStop.{LineStop}
use Rattle.simp_base.specs.WorkState.{WorkState}
use Rattle.simp_base.specs.declared.work.Run.{Run}
use Rattle.simp_units.specs.Ends.{Ends as UnitsEnd}
use Rattle.simp_subsume.specs.Ends.{Ends as SubsumptionEnds}
use Rattle.simp_equiv.specs.Ends.{Ends as EquivalenceEnds}
use Rattle.simp_elim.specs.Ends.{Ends as EliminationEnds}
use Rattle.test_simplifiers.specs.declared.simplifiers.Simplifier.{Simplifier}
use Rattle.test_simplifiers.specs.declared.simplifiers.Simplifier.TheVariants.{Units, Subsumption, Equivalence, Elimination}

-- a run of the simplifier ends as its own crate says
abbrev pub EndsAs : Simplifier → WorkState → WorkState → Result Run LineStop → Type 0
EndsAs Units old new answer = UnitsEnd old new answer
EndsAs Subsumption old new answer = SubsumptionEnds old new answer
EndsAs Equivalence old new answer = EquivalenceEnds old new answer
EndsAs Elimination old new answer = EliminationEnds old new answer
