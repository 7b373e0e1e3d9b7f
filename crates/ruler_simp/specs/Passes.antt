-- Simplifiers that run one after another.
use Rattle.std.specs.Prelude.{◌≡◌, ◌≢◌, ◌⊎◌, Bool, true, false, List, [], ◌∷◌, ◌++◌, Result, Ok, if◌then◌else◌}
use Rattle.rup_model.specs.declared.journal.Entry.{Entry}
use Rattle.drat_text.specs.declared.stop.LineStop.{LineStop}
use Rattle.simp_base.specs.WorkState.{WorkState, IsWork}
use Rattle.simp_base.specs.Log.{Grows}
use Rattle.simp_base.specs.declared.work.Run.{Run}
use Rattle.simp_base.specs.declared.work.Run.TheVariants.{Done}
use Rattle.simp_units.specs.Ends.{Ends as UnitsEnds}
use Rattle.simp_subsume.specs.Ends.{Ends as SubsumptionEnds}
use Rattle.simp_equiv.specs.Ends.{Ends as EquivalenceEnds}
use Rattle.simp_elim.specs.Ends.{Ends as EliminationEnds}
use Rattle.simp_add.specs.Ends.{Ends as AdditionEnds}
use Rattle.ruler_simp.specs.declared.passes.Simplifier.{Simplifier}
use Rattle.ruler_simp.specs.declared.passes.Simplifier.TheVariants.{Units, Subsumption, Equivalence, Elimination, Addition}

-- how a run of the simplifier ends
abbrev pub Ends : Simplifier → WorkState → WorkState → Result Run LineStop → Type 0
Ends Units old new result = UnitsEnds old new result
Ends Subsumption old new result = SubsumptionEnds old new result
Ends Equivalence old new result = EquivalenceEnds old new result
Ends Elimination old new result = EliminationEnds old new result
Ends Addition old new result = AdditionEnds old new result

-- the simplifier may add variables
abbrev pub adds_variables : Simplifier → Bool
adds_variables Units = false
adds_variables Subsumption = false
adds_variables Equivalence = false
adds_variables Elimination = false
adds_variables Addition = true

-- it ended so, and the journal has gained these entries; there are more variables only if it may add some
pub record Ran (pass : Simplifier) (old new : WorkState) (result : Result Run LineStop) (entries : List Entry) : Type 0 where
  pub ends : Ends pass old new result
  pub log : Grows entries old new
  pub vars : adds_variables pass ≡ false → new.vars ≡ old.vars
  pub work : IsWork new

-- the simplifiers ran in this order, each over what the one before left; the first that is not done ends it
abbrev pub RunTo : List Simplifier → WorkState → WorkState → Result Run LineStop → List Entry → Type 0
RunTo [] old new result entries = (result ≡ Ok Done) × (new ≡ old) × (entries ≡ [])
RunTo (pass ∷ rest) old new result entries = (Ran pass old new result entries × (result ≢ Ok Done))
    ⊎ ((mid : WorkState) × (first : List Entry) × (later : List Entry) × Ran pass old mid (Ok Done) first × RunTo rest mid new result later × (entries ≡ first ++ later))

-- with some entries
abbrev pub WereRun : List Simplifier → WorkState → WorkState → Result Run LineStop → Type 0
WereRun passes old new result = (entries : List Entry) × RunTo passes old new result entries

-- those of a round, in their order: with additions, or without
abbrev pub round_passes : Bool → List Simplifier
round_passes additions = Units ∷ Subsumption ∷ Equivalence ∷ Elimination ∷ (if additions then Addition ∷ Units ∷ [] else Units ∷ [])
