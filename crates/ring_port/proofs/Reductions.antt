-- What the note of a reduction keeps of the one journal behind its port.
use Rattle.std.proofs.Common.{◌≡◌, true, false, List, [], ◌∷◌, ◌++◌, length, sym, refl, ap, subst, ◌∙◌, Some, None, append_assoc, append-nil}
use Rattle.std.specs.List.{list_any, All}
use Rattle.std.specs.Prelude.{IsSomeAnd}
use Rattle.std.specs.declared.option.Option.{Option}
use Rattle.std.proofs.lemmas.Bool.{not-true, false≢true}
use Rattle.std.proofs.lemmas.List.Elements.{All-append}
use Rattle.sat_words.specs.Literal.{Literal}
use Rattle.sat_words.specs.Clause.{same_set, is_empty}
use Rattle.rup_model.specs.declared.journal.Entry.{Entry}
use Rattle.rup_model.specs.declared.journal.Entry.TheVariants.{Reduce}
use Rattle.rup_model.specs.Journal.{Book, book, lines, added, ring_of, LogSound}
use Rattle.rup_model.proofs.Numbers.{book_last, lines_last}
use Rattle.rup_model.proofs.JournalSteps.{not_added, log_reduces}
use Rattle.rup_model.proofs.Additions.{added-append}
use Rattle.rup_model.proofs.Sequences.{each_last}
use Rattle.rup_model.specs.NumberedLines.{IsHinted}
use Rattle.drat_text.specs.LineState.{LineState}
use Rattle.drat_text.proofs.JournalLines.{has_text_still}
use Rattle.ring_port.specs.PortState.{PortState, IsOn}
use Rattle.ring_port.specs.Port.{is_usable}
use Rattle.ring_port.specs.Log.{Origin, StandsOver, HasLines, journal_of}
use Rattle.ring_port.proofs.LogSteps.{one_All, caused_same}

module _ (o : Origin) (s : PortState) (h : StandsOver o s) where
  abbrev F : List (List Literal)
  F = o.formula

  abbrev J : List Entry
  J = journal_of o s

  abbrev reduced : List Entry
  reduced = o.journal ++ (s.mine ++ Reduce s.ring ∷ [])

  reduced_is : reduced ≡ J ++ Reduce s.ring ∷ []
  reduced_is = sym (append_assoc o.journal s.mine (Reduce s.ring ∷ []))

  book_same : book F reduced ≡ book F J
  book_same = ap (book F) reduced_is ∙ book_last F J (Reduce s.ring)

  lines_same : lines F reduced ≡ lines F J
  lines_same = ap (lines F) reduced_is ∙ lines_last F J (Reduce s.ring) ∙ append-nil (lines F J)

  added_same : added reduced ≡ added J
  added_same = ap added reduced_is ∙ added-append J (Reduce s.ring ∷ []) ∙ append-nil (added J)

  own_added : added (s.mine ++ Reduce s.ring ∷ []) ≡ added s.mine
  own_added = added-append s.mine (Reduce s.ring ∷ []) ∙ append-nil (added s.mine)

  abbrev after_reduce : PortState
  after_reduce = record s { mine = s.mine ++ Reduce s.ring ∷ []; taken = [] }

  has_lines_still : is_usable s.refused ≡ true → (a : LineState) → HasLines o s a → HasLines o after_reduce a
  has_lines_still usable a was =
      let unspent : a.spent ≡ false = not-true a.spent (sym was.usable ∙ usable) in
      record {
        entries = was.entries ∙ ap (λ L. length L) (sym lines_same);
        last = ap (λ (k : Book). k.next) book_same ∙ was.last;
        hinted = was.hinted;
        usable = was.usable;
        caused = caused_same s after_reduce a s.refused refl was.caused;
        whole = λ q. has_text_still o s.mine a (Reduce s.ring) refl (was.whole unspent);
        short = λ q. absurd (false≢true (sym unspent ∙ q));
        target = was.target;
        flushed = was.flushed;
      }

  pub stands_reduced : s.ended ≡ false → is_usable s.refused ≡ true → StandsOver o after_reduce
  stands_reduced going usable = record {
    opens = h.opens;
    given = h.given;
    sound = subst (LogSound F) (sym reduced_is) (log_reduces F J h.sound s.ring (not_added F J (sym h.ended ∙ going)));
    of_ring = All-append (λ e. ring_of e ≡ s.ring) s.mine (Reduce s.ring ∷ []) h.of_ring (one_All (λ e. ring_of e ≡ s.ring) (Reduce s.ring) refl);
    on = subst (λ G. All (All (IsOn s.vars)) G) (sym own_added) h.on;
    ended = h.ended ∙ ap (λ G. list_any is_empty (F ++ G)) (sym added_same);
    held = subst (λ (b : Book). All (λ c. b.clause c.number ≡ Some c.lits) s.held) (sym book_same) h.held;
    waiting = subst (λ (b : Book). All (λ c. b.clause c.number ≡ Some c.lits) s.waiting) (sym book_same) h.waiting;
    numbers = h.numbers;
    seen = subst (λ (G : List (List Literal)). All (λ l. list_any (same_set (l ∷ [])) (F ++ G) ≡ true) s.seen) (sym added_same) h.seen;
    told = λ q. subst (λ (b : Book). All (λ u. b.clause u.1 ≡ Some (u.0 ∷ [])) s.told) (sym book_same) (h.told q);
    hints = λ q. each_last (IsHinted F) o.journal s.mine (Reduce s.ring) (h.hints q) tt;
    output = some_still s.output (has_lines_still usable) h.output;
  }
    where
      some_still : (w : Option LineState) → ((a : LineState) → HasLines o s a → HasLines o after_reduce a) → IsSomeAnd w (HasLines o s) → IsSomeAnd w (HasLines o after_reduce)
      some_still None f has = has
      some_still (Some a) f has = f a has
