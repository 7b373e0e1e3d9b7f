-- A sound journal with one more entry.
use Rattle.std.proofs.Common.{◌≡◌, ℕ, true, false, List, [], ◌∷◌, ◌++◌, Option, Some, sym, ap, ◌∙◌, subst, append-nil}
use Rattle.std.specs.List.{list_any}
use Rattle.std.specs.Option.{unwrap_or}
use Rattle.std.proofs.lemmas.Bool.{or_left, or_parts, and_from}
use Rattle.std.proofs.lemmas.List.Folds.{list_any-append}
use Rattle.sat_words.specs.Literal.{Literal}
use Rattle.sat_words.specs.Clause.{same_set, is_empty, two_or_more}
use Rattle.sat_words.specs.declared.line.Line.{Line}
use Rattle.sat_words.specs.declared.line.Line.TheVariants.{Add as AddLine, Del as DelLine}
use Rattle.rup_model.specs.Rup.{rup}
use Rattle.rup_model.specs.Log.{alive, is_valid, Accepted}
use Rattle.rup_model.specs.declared.journal.Addition.{Addition}
use Rattle.rup_model.specs.declared.journal.Round.{Round as RoundStart}
use Rattle.rup_model.specs.declared.journal.Entry.{Entry}
use Rattle.rup_model.specs.declared.journal.Entry.TheVariants.{Add, Del, Reduce, Round}
use Rattle.rup_model.specs.Journal.{spelled_by, book, lines, IsFit, added, ended, EmptyLast, LogSound}
use Rattle.rup_model.proofs.Sequences.{each_last}
use Rattle.rup_model.proofs.Copies.{copies_any}
use Rattle.rup_model.proofs.Covers.{same_back}
use Rattle.rup_model.proofs.Respelling.{spelled_by_same}
use Rattle.rup_model.proofs.Units.{two_more, two_same}
use Rattle.rup_model.proofs.Numbers.{same_copies_alive, journal_matches, lines_last}

-- if the log is not ended, no entry adds the empty clause
pub not_added : (F : List (List Literal)) (J : List Entry) → ended F J ≡ false → list_any is_empty (added J) ≡ false
not_added F J going = (or_parts (list_any is_empty F) (list_any is_empty (added J)) (sym (list_any-append is_empty F (added J)) ∙ going)).1

empty_last_more : (J : List Entry) (e : Entry) → EmptyLast J → list_any is_empty (added J) ≡ false → EmptyLast (J ++ e ∷ [])
empty_last_more J e h going = each_last (λ (before : List Entry) (_ : Entry). list_any is_empty (added before) ≡ false) [] J e h going

one_more_line : (F : List (List Literal)) (L : List Line) (x : Line) → Accepted F L → is_valid (alive F L) x ≡ true → Accepted F (L ++ x ∷ [])
one_more_line F L x h v = each_last (λ (before : List Line) (y : Line). is_valid (alive F before) y ≡ true) [] L x h v

module _ (F : List (List Literal)) (J : List Entry) (h : LogSound F J) where
  pub log_adds_valid : (x : Addition) → x.number ≡ (book F J).next → is_valid (alive F (lines F J)) (AddLine x.lits) ≡ true → list_any is_empty (added J) ≡ false → LogSound F (J ++ Add x ∷ [])
  log_adds_valid x number valid going = record {
    fits = each_last (λ before e. IsFit (book F before) e) [] J (Add x) h.fits (record { numbered = number; names = tt });
    accepted = subst (Accepted F) (sym (lines_last F J (Add x))) (one_more_line F (lines F J) (AddLine x.lits) h.accepted valid);
    empty_last = empty_last_more J (Add x) h.empty_last going;
  }

  pub log_adds : (x : Addition) → x.number ≡ (book F J).next → rup (alive F (lines F J)) x.lits ≡ true → list_any is_empty (added J) ≡ false → LogSound F (J ++ Add x ∷ [])
  log_adds x number follows going = log_adds_valid x number (or_left _ _ follows) going

  pub log_dels : (r n : ℕ) (c : List Literal) → (book F J).clause n ≡ Some c → two_or_more c ≡ true → list_any is_empty (added J) ≡ false → LogSound F (J ++ Del r n ∷ [])
  log_dels r n c is two going =
      let d : List Literal = unwrap_or ((book F J).clause n) [] in
      let s : List Literal = spelled_by r d in
      let alike : same_set d s ≡ true = spelled_by_same r d in
      let same_d : c ≡ d = sym (ap (λ (o : Option (List Literal)). unwrap_or o []) is) in
      let m = journal_matches F J h.fits in
      let is_d : (book F J).clause n ≡ Some d = is ∙ ap (λ (q : List Literal). Some q) same_d in
      record {
        fits = each_last (λ before e. IsFit (book F before) e) [] J (Del r n) h.fits (record { numbered = tt; names = (c, is, two) });
        accepted = subst (Accepted F) (sym (lines_last F J (Del r n))) (one_more_line F (lines F J) (DelLine s) h.accepted
            (and_from _ _ (copies_any s (alive F (lines F J)) (same_copies_alive (book F J) (alive F (lines F J)) n s d m is_d (same_back d s alike)))
            (two_more s (two_same d s alike (subst (λ (q : List Literal). two_or_more q ≡ true) same_d two)))));
        empty_last = empty_last_more J (Del r n) h.empty_last going;
      }

  pub log_reduces : (r : ℕ) → list_any is_empty (added J) ≡ false → LogSound F (J ++ Reduce r ∷ [])
  log_reduces r going = record {
    fits = each_last (λ before e. IsFit (book F before) e) [] J (Reduce r) h.fits (record { numbered = tt; names = tt });
    accepted = subst (Accepted F) (sym (lines_last F J (Reduce r) ∙ append-nil (lines F J))) h.accepted;
    empty_last = empty_last_more J (Reduce r) h.empty_last going;
  }

  pub log_rounds : (x : RoundStart) → list_any is_empty (added J) ≡ false → LogSound F (J ++ Round x ∷ [])
  log_rounds x going = record {
    fits = each_last (λ before e. IsFit (book F before) e) [] J (Round x) h.fits (record { numbered = tt; names = tt });
    accepted = subst (Accepted F) (sym (lines_last F J (Round x) ∙ append-nil (lines F J))) h.accepted;
    empty_last = empty_last_more J (Round x) h.empty_last going;
  }

-- the empty journal
pub log_starts : (F : List (List Literal)) → LogSound F []
log_starts F = record { fits = tt; accepted = tt; empty_last = tt }
