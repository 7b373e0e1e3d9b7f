-- A journal that adds the empty clause refutes the formula.
use Rattle.std.proofs.Common.{◌≡◌, Bool, true, false, ◌||◌, List, [], ◌∷◌, ◌++◌, refl, sym, ap, subst, ◌∙◌}
use Rattle.std.specs.List.{list_any}
use Rattle.std.proofs.lemmas.Bool.{false≢true}
use Rattle.std.proofs.lemmas.List.Folds.{list_any-append}
use Rattle.sat_words.specs.Literal.{Literal}
use Rattle.sat_words.specs.Clause.{is_empty}
use Rattle.sat_words.specs.declared.line.Line.{Line}
use Rattle.sat_words.specs.declared.line.Line.TheVariants.{Add as AddLine}
use Rattle.rup_model.specs.declared.journal.Entry.{Entry}
use Rattle.rup_model.specs.declared.journal.Entry.TheVariants.{Add, Del, Reduce, Round}
use Rattle.rup_model.specs.Log.{Refutes}
use Rattle.rup_model.specs.Journal.{added, lines, EmptyLast, LogSound}
use Rattle.rup_model.proofs.Additions.{added-append}
use Rattle.rup_model.proofs.Numbers.{lines_last}
use Rattle.rup_model.proofs.Sequences.{each_back}

-- the last entry, and those before it
record Parted (J : List Entry) : Type 0 where
  front : List Entry
  last : Entry
  is : J ≡ front ++ last ∷ []

parted : (e : Entry) (J : List Entry) → Parted (e ∷ J)
parted e [] = record { front = []; last = e; is = refl }
parted e (d ∷ J) = let t = parted d J in record { front = e ∷ t.front; last = t.last; is = ap (λ K. e ∷ K) t.is }

-- an entry that adds the empty clause
empty_entry : (F : List (List Literal)) (J : List Entry) (e : Entry) → list_any is_empty (added (e ∷ [])) ≡ true → lines F (J ++ e ∷ []) ≡ lines F J ++ AddLine [] ∷ []
empty_entry F J (Add x) h = lines_last F J (Add x) ∙ ap (λ c. lines F J ++ AddLine c ∷ []) (none x.lits (either (is_empty x.lits) h))
  where
    either : (b : Bool) → (b || false) ≡ true → b ≡ true
    either true e = refl
    either false e = e

    none : (c : List Literal) → is_empty c ≡ true → c ≡ []
    none [] e = refl
    none (l ∷ c) e = absurd (false≢true e)
empty_entry F J (Del r n) h = absurd (false≢true h)
empty_entry F J (Reduce r) h = absurd (false≢true h)
empty_entry F J (Round x) h = absurd (false≢true h)

ends_by : (F : List (List Literal)) (J : List Entry) → EmptyLast J → list_any is_empty (added J) ≡ true → (before : List Line) × (lines F J ≡ before ++ AddLine [] ∷ [])
ends_by F [] last some = absurd (false≢true some)
ends_by F (d ∷ J) last some =
    let t = parted d J in
    let quiet : list_any is_empty (added t.front) ≡ false = (each_back (λ before e. list_any is_empty (added before) ≡ false) [] t.front (t.last ∷ []) (subst EmptyLast t.is last)).0 in
    let here : (list_any is_empty (added t.front) || list_any is_empty (added (t.last ∷ []))) ≡ true =
    sym (ap (list_any is_empty) (added-append t.front (t.last ∷ [])) ∙ list_any-append is_empty (added t.front) (added (t.last ∷ []))) ∙ subst (λ K. list_any is_empty (added K) ≡ true) t.is some in
    (lines F t.front, ap (lines F) t.is ∙ empty_entry F t.front t.last (sym (ap (λ b. b || list_any is_empty (added (t.last ∷ []))) quiet) ∙ here))

pub added_empty_refutes : (F : List (List Literal)) (J : List Entry) → LogSound F J → list_any is_empty (added J) ≡ true → Refutes F (lines F J)
added_empty_refutes F J h some = record { accepted = h.accepted; ends = ends_by F J h.empty_last some }
