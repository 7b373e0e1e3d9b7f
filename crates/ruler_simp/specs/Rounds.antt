-- Rounds of simplifiers.
use Rattle.std.specs.Prelude.{◌≡◌, ◌⊎◌, ℕ, zero, suc, Bool, List, [], ◌∷◌, ◌++◌, Result, Ok}
use Rattle.rup_model.specs.declared.journal.Entry.{Entry}
use Rattle.drat_text.specs.declared.stop.LineStop.{LineStop}
use Rattle.simp_base.specs.WorkState.{WorkState}
use Rattle.simp_base.specs.declared.work.Run.{Run}
use Rattle.simp_base.specs.declared.work.Run.TheVariants.{Done}
use Rattle.ruler_simp.specs.declared.passes.Simplifier.TheVariants.{Units}
use Rattle.ruler_simp.specs.declared.rounds.Schedule.{Schedule}
use Rattle.ruler_simp.specs.Passes.{RunTo, round_passes}

-- no line was written
abbrev pub WroteNothing : WorkState → WorkState → Type 0
WroteNothing old new = new.output.entries ≡ old.output.entries

-- as many rounds as these, or fewer: the first that is not done, or that wrote no line, is the last
abbrev pub RoundsTo : Bool → ℕ → WorkState → WorkState → Result Run LineStop → List Entry → Type 0
RoundsTo additions zero old new result entries = (result ≡ Ok Done) × (new ≡ old) × (entries ≡ [])
RoundsTo additions (suc n) old new result entries = (RunTo (round_passes additions) old new result entries × (result ≡ Ok Done → WroteNothing old new))
    ⊎ ((mid : WorkState) × (first : List Entry) × (later : List Entry) × RunTo (round_passes additions) old mid (Ok Done) first × (WroteNothing old mid → ⊥) × RoundsTo additions n mid new result later × (entries ≡ first ++ later))

-- with some entries
abbrev pub WereRounds : Bool → ℕ → WorkState → WorkState → Result Run LineStop → Type 0
WereRounds additions n old new result = (entries : List Entry) × RoundsTo additions n old new result entries

-- in no round, units alone
abbrev pub SimplifiedIn : Bool → ℕ → WorkState → WorkState → Result Run LineStop → List Entry → Type 0
SimplifiedIn additions zero old new result entries = RunTo (Units ∷ []) old new result entries
SimplifiedIn additions (suc n) old new result entries = RoundsTo additions (suc n) old new result entries

-- in the rounds of the schedule
abbrev pub SimplifiedTo : Schedule → WorkState → WorkState → Result Run LineStop → List Entry → Type 0
SimplifiedTo schedule old new result entries = SimplifiedIn schedule.additions schedule.rounds old new result entries

-- with some entries
abbrev pub WasSimplified : Schedule → WorkState → WorkState → Result Run LineStop → Type 0
WasSimplified schedule old new result = (entries : List Entry) × SimplifiedTo schedule old new result entries
