-- The check of a log that is accepted.
use Rattle.std.proofs.Common.{◌≡◌, ◌∙◌, ℕ, true, List, [], ◌∷◌, Some, None, sym, subst, true≢false}
use Rattle.std.specs.Prelude.{IfSome}
use Rattle.std.specs.declared.option.Option.{Option}
use Rattle.sat_words.specs.Literal.{Literal}
use Rattle.sat_words.specs.declared.line.Line.{Line}
use Rattle.rup_model.specs.declared.journal.Entry.{Entry}
use Rattle.rup_model.specs.Journal.{lines}
use Rattle.rup_model.specs.Log.{Accepted, alive, is_valid}
use Rattle.rup_model.proofs.Sequences.{each_back}
use Rattle.drat_check.specs.Verdict.{IsFirstBad}

-- no line of it is the first that is not valid
pub none_bad : (F : List (List Literal)) (L : List Line) (n : ℕ) → Accepted F L → IsFirstBad F L n → ⊥
none_bad F L n accepted b =
    let at = each_back (λ before x. is_valid (alive F before) x ≡ true) [] b.before (b.line ∷ b.behind) (subst (Accepted F) b.lines accepted) in
    true≢false (sym at.0 ∙ b.bad)

-- lines that were kept are accepted, if they are those of the journal
pub kept_accepted : (F : List (List Literal)) (J : List Entry) (kept : Option (List Line)) → IfSome kept (λ L. L ≡ lines F J) → Accepted F (lines F J) → IfSome kept (Accepted F)
kept_accepted F J None keeps accepted = tt
kept_accepted F J (Some L) keeps accepted = subst (Accepted F) (sym keeps) accepted
