-- In rounds with hints each addition is hinted, if those of the ruler are.
use Rattle.std.proofs.Common.{◌≡◌, ◌∙◌, ℕ, true, List, [], ◌∷◌, ◌++◌, All, Option, sym, ap, subst}
use Rattle.std.proofs.lemmas.List.Elements.{All-head, All-tail}
use Rattle.sat_words.specs.Literal.{Literal}
use Rattle.rup_model.specs.declared.journal.Entry.{Entry}
use Rattle.rup_model.specs.Basics.{EachAfter}
use Rattle.rup_model.specs.NumberedLines.{IsHinted, AreHinted}
use Rattle.rup_model.specs.Opening.{is_rulers}
use Rattle.rup_model.proofs.Sequences.{each_both, each_front, each_back}
use Rattle.share_core.specs.declared.part.CoreOpening.{CoreOpening}
use Rattle.share_core.specs.State.{later}
use Rattle.core_rounds.specs.InRounds.{IsHintedByRuler}
use Rattle.core_rounds.specs.Rounds.{RoundRun, left_by, written_in, beginning_of, IsRound, AreRounds}
use Rattle.core_rounds.proofs.OneRound.{sound, same_opening, journal_is}

-- the ruler's entries between two rounds
rulers_hinted : (F : List (List Literal)) (before rest : List Entry) → All (λ e. is_rulers e ≡ true) rest → EachAfter (IsHintedByRuler F) before rest → EachAfter (IsHinted F) before rest
rulers_hinted F before [] rulers h = tt
rulers_hinted F before (e ∷ rest) rulers h =
    (h.0 (All-head (λ (x : Entry). is_rulers x ≡ true) e rest rulers), rulers_hinted F (before ++ e ∷ []) rest (All-tail (λ (x : Entry). is_rulers x ≡ true) e rest rulers) h.1)

-- the entries of one round
round_hinted : {rings depth limit : ℕ} {F : List (List Literal)} {before : List Entry} {x : RoundRun} → IsRound rings depth limit F before x → x.opening.hinted ≡ true
    → EachAfter (IsHinted F) (before ++ beginning_of x.opening ∷ []) (written_in x)
round_hinted {F = F} {x = x} o hinted =
    let own = (sound o).log.hints (ap (λ (p : CoreOpening). p.hinted) (same_opening o) ∙ hinted) in
    let here : EachAfter (IsHinted x.opening.formula) x.opening.journal (written_in x) = subst (λ (p : CoreOpening). EachAfter (IsHinted p.formula) p.journal (later p (left_by x).journal)) (same_opening o) own in
    subst (λ (J : List Entry). EachAfter (IsHinted F) J (written_in x)) o.journal_is
    (subst (λ (G : List (List Literal)). EachAfter (IsHinted G) x.opening.journal (written_in x)) o.formula_is here)

pub rounds_hinted : (rings depth : ℕ) (every : Option ℕ) (most : ℕ) (F : List (List Literal)) (xs : List RoundRun) (J : List Entry) → AreRounds rings depth every most F xs J
    → All (λ x. x.opening.hinted ≡ true) xs → EachAfter (IsHintedByRuler F) [] J → AreHinted F J
rounds_hinted rings depth every most F [] J r hinted h = subst (AreHinted F) (sym r) tt
rounds_hinted rings depth every most F (x ∷ xs) J r hinted h =
    let P : List Entry → Entry → Type 0 = IsHintedByRuler F in
    let own : List Entry = beginning_of x.opening ∷ written_in x in
    let whole : J ≡ (r.0 ++ r.1) ++ own = r.6 ∙ journal_is r.5 in
    let front = each_front P [] (r.0 ++ r.1) own (subst (EachAfter P []) whole h) in
    let old = rounds_hinted rings depth every most F xs r.0 r.2 (All-tail (λ (y : RoundRun). y.opening.hinted ≡ true) x xs hinted) (each_front P [] r.0 r.1 front) in
    let between = rulers_hinted F r.0 r.1 r.3 (each_back P [] r.0 r.1 front) in
    subst (AreHinted F) (sym whole) (each_both (IsHinted F) [] (r.0 ++ r.1) own (each_both (IsHinted F) [] r.0 r.1 old between)
    (tt, round_hinted r.5 (All-head (λ (y : RoundRun). y.opening.hinted ≡ true) x xs hinted)))
