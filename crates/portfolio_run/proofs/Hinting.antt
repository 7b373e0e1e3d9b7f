-- A journal whose additions have hints goes on with entries that add nothing; and the simplifiers leave the format of their output.
use Rattle.std.proofs.Common.{◌≡◌, ◌∙◌, ℕ, zero, suc, Bool, List, [], ◌∷◌, ◌++◌, Ok, ap, inl, inr}
use Rattle.std.specs.Prelude.{Result}
use Rattle.sat_words.specs.Literal.{Literal}
use Rattle.rup_model.specs.declared.journal.TheConstants.{RULER_RING}
use Rattle.rup_model.specs.declared.journal.Round.{Round as RoundStart}
use Rattle.rup_model.specs.declared.journal.Entry.{Entry}
use Rattle.rup_model.specs.declared.journal.Entry.TheVariants.{Del, Round}
use Rattle.rup_model.specs.Basics.{EachAfter}
use Rattle.rup_model.specs.NumberedLines.{IsHinted, AreHinted}
use Rattle.rup_model.proofs.Sequences.{each_both}
use Rattle.drat_text.specs.declared.stop.LineStop.{LineStop}
use Rattle.simp_base.specs.WorkState.{WorkState}
use Rattle.simp_base.specs.declared.work.Run.{Run}
use Rattle.simp_base.specs.declared.work.Run.TheVariants.{Done}
use Rattle.ruler_simp.specs.declared.passes.Simplifier.{Simplifier}
use Rattle.ruler_simp.specs.declared.passes.Simplifier.TheVariants.{Units}
use Rattle.ruler_simp.specs.declared.rounds.Schedule.{Schedule}
use Rattle.ruler_simp.specs.Passes.{RunTo, round_passes}
use Rattle.ruler_simp.specs.Rounds.{RoundsTo, SimplifiedIn, SimplifiedTo}
use Rattle.portfolio_run.specs.Rulings.{deletions}

-- Entries that add nothing

-- an entry that begins a round
pub hinted_begun : (F : List (List Literal)) (J : List Entry) (x : RoundStart) → AreHinted F J → AreHinted F (J ++ Round x ∷ [])
hinted_begun F J x h = each_both (IsHinted F) [] J (Round x ∷ []) h (tt, tt)

deletions_hinted : (F : List (List Literal)) (before : List Entry) (ns : List ℕ) → EachAfter (IsHinted F) before (deletions ns)
deletions_hinted F before [] = tt
deletions_hinted F before (n ∷ ns) = (tt, deletions_hinted F (before ++ Del RULER_RING n ∷ []) ns)

-- deletions
pub hinted_deleted : (F : List (List Literal)) (J : List Entry) (ns : List ℕ) → AreHinted F J → AreHinted F (J ++ deletions ns)
hinted_deleted F J ns h = each_both (IsHinted F) [] J (deletions ns) h (deletions_hinted F J ns)

-- The format

row_format : (passes : List Simplifier) (old new : WorkState) (result : Result Run LineStop) (entries : List Entry) → RunTo passes old new result entries → new.output.format ≡ old.output.format
row_format [] old new result entries h = ap (λ (w : WorkState). w.output.format) h.1
row_format (p ∷ rest) old new result entries (inl h) = h.0.log.format
row_format (p ∷ rest) old new result entries (inr h) = row_format rest h.0 new result h.2 h.4 ∙ h.3.log.format

rounds_format : (additions : Bool) (n : ℕ) (old new : WorkState) (result : Result Run LineStop) (entries : List Entry) → RoundsTo additions n old new result entries → new.output.format ≡ old.output.format
rounds_format additions zero old new result entries h = ap (λ (w : WorkState). w.output.format) h.1
rounds_format additions (suc n) old new result entries (inl h) = row_format (round_passes additions) old new result entries h.0
rounds_format additions (suc n) old new result entries (inr h) = rounds_format additions n h.0 new result h.2 h.5 ∙ row_format (round_passes additions) old h.0 (Ok Done) h.1 h.3

in_format : (additions : Bool) (n : ℕ) (old new : WorkState) (result : Result Run LineStop) (entries : List Entry) → SimplifiedIn additions n old new result entries → new.output.format ≡ old.output.format
in_format additions zero old new result entries h = row_format (Units ∷ []) old new result entries h
in_format additions (suc n) old new result entries h = rounds_format additions (suc n) old new result entries h

-- whatever the simplifiers come to, the output spells its lines as before
pub simplified_format : (schedule : Schedule) (old new : WorkState) (result : Result Run LineStop) (entries : List Entry) → SimplifiedTo schedule old new result entries → new.output.format ≡ old.output.format
simplified_format schedule old new result entries h = in_format schedule.additions schedule.rounds old new result entries h
