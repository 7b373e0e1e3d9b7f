-- A book that is filled through the bound of a line output.
use Rattle.io_edge.specs.declared.edge.Sink.{Ghosts}
use Rattle.std.proofs.Common.{◌≡◌, ◌∙◌, ℕ, ◌+◌, ◌<◌, Bool, true, false, List, [], ◌∷◌, ◌++◌, length, length-append, Some, None, refl, sym, ap, subst, append-nil, arith, true≢false}
use Rattle.std.specs.Prelude.{is_some}
use Rattle.std.specs.declared.option.Option.{Option}
use Rattle.std.specs.Io.KnownBytes.{append_known}
use Rattle.io_edge.specs.Bytes.{IsFront}
use Rattle.io_edge.specs.Paths.{IsEmptyWhereTold}
use Rattle.sat_words.specs.Literal.{Literal}
use Rattle.sat_words.specs.declared.line.Line.{Line}
use Rattle.sat_words.specs.declared.line.ProofFormat.{ProofFormat}
use Rattle.sat_words.specs.declared.shared.TheConstants.{MAX_ENTRIES}
use Rattle.rup_model.specs.declared.journal.Round.{Round as RoundStart}
use Rattle.rup_model.specs.declared.journal.Entry.{Entry}
use Rattle.rup_model.specs.declared.journal.Entry.TheVariants.{Round}
use Rattle.rup_model.specs.Journal.{Book as Numbers, lines}
use Rattle.rup_model.specs.NumberedLines.{NumberedLine, numbered_lines}
use Rattle.rup_model.proofs.Numbers.{book_last, lines_last}
use Rattle.drat_text.specs.Text.{CanBeSpelled}
use Rattle.drat_text.specs.JournalText.{Origin}
use Rattle.drat_text.proofs.JournalLines.{has_text_still}
use Rattle.drat_text.specs.Spelling.{spelling, proof_bytes}
use Rattle.drat_text.specs.LineState.{with_lines}
use Rattle.drat_text.specs.LineOut.{PutLine, FailedLine}
use Rattle.drat_text.specs.SinkData.{told_by}
use Rattle.share_core.proofs.Counting.{some_same, none_some}
use Rattle.share_rule.specs.declared.Layout.{Layout}
use Rattle.share_rule.specs.Books.{HasLog}
use Rattle.log_book.specs.declared.book.Book.{Book}
use Rattle.log_book.specs.Kept.{HoldsText}
use Rattle.log_book.specs.Books.{no_byte, no_line, begun, account_of, IsNew, AreAlike, CountsOneMore, IsFilled, told_of, told_new, origin_of, HasPut, HasFailed, IsLogOf, IsFrom, IsCutOff, IsCutLog}

-- Bytes

-- bytes that are the text, if they are known, are those since there was none
since_none : (bytes : Option (List ℕ)) (more all : List ℕ) → HoldsText (append_known bytes more) all → append_known bytes more ≡ append_known (no_byte (is_some bytes)) all
since_none None more all h = refl
since_none (Some bytes) more all h = ap Some h

-- if there was none, bytes that grew by the text are the text
holds_grown : (now was : Option (List ℕ)) (all : List ℕ) → IsEmptyWhereTold was → now ≡ append_known was all → HoldsText now all
holds_grown None was all none e = tt
holds_grown (Some bytes) None all none e = absurd (none_some bytes (sym e))
holds_grown (Some bytes) (Some was) all none e = some_same bytes (was ++ all) e ∙ ap (λ (bs : List ℕ). bs ++ all) none

still_empty : (bytes : Option (List ℕ)) → IsEmptyWhereTold bytes → IsEmptyWhereTold (append_known bytes [])
still_empty None none = tt
still_empty (Some bytes) none = append-nil bytes ∙ none

-- what is told of bytes that began with none, when a line of these had failed, is a front of these
cut_since : (now was : Option (List ℕ)) (more all : List ℕ) → IsEmptyWhereTold was → IsFront (append_known now more) (append_known was all) → IsFront (append_known now more) (append_known (no_byte (is_some now)) all)
cut_since None was more all none f = record { rest = []; whole = refl }
cut_since (Some bytes) None more all none f = absurd (none_some ((bytes ++ more) ++ f.rest) f.whole)
cut_since (Some bytes) (Some was) more all none f = subst (λ (w : List ℕ). IsFront (Some (bytes ++ more)) (Some (w ++ all))) none f

-- Kept lines

kept_asked : (asked : Bool) (kept : Option (List Line)) (L : List Line) → kept ≡ with_lines (no_line asked) L → (is_some kept ≡ asked) × ((ls : List Line) → kept ≡ Some ls → ls ≡ L)
kept_asked true kept L e = (ap is_some e, λ ls q. some_same ls L (sym q ∙ e))
kept_asked false kept L e = (ap is_some e, λ ls q. absurd (none_some ls (sym e ∙ q)))

module _ {S : Type 0} {d : Ghosts S} (written flushed target : S → Option (List ℕ)) (faults : S → ℕ) where
  -- room changes nothing of what is known
  pub told_alike : (old new : Book S d) → AreAlike old new → told_of written flushed target faults new ≡ told_of written flushed target faults old
  told_alike old new a = λ i. record (told_by written flushed target faults (a.lines i)) { entries = a.entries i; kept = a.kept i }

  -- the line stands in what is known
  pub told_put : (old new : Book S d) (x : NumberedLine) → old.entries < MAX_ENTRIES → HasPut written flushed target faults old new x → PutLine (told_of written flushed target faults old) (told_of written flushed target faults new) x
  told_put old new x room p = record { room = room; state = λ i. record (p.put.state i) { entries = p.entries i; kept = p.kept i } }

  -- and so does its failure
  pub told_failed : (old new : Book S d) (x : NumberedLine) → old.entries < MAX_ENTRIES → HasFailed written flushed target faults old new x → FailedLine (told_of written flushed target faults old) (told_of written flushed target faults new) x
  told_failed old new x room p = record {
    room = room;
    rose = p.failed.rose;
    later = p.failed.later;
    front = p.failed.front;
    state = λ i. record (p.failed.state i) { entries = p.entries i; kept = p.kept i };
  }

  -- the book has the log that it tells
  pub filled : (b : Book S d) (f : ProofFormat) (sink : S) (asked : Bool) (F : List (List Literal)) (J : List Entry) (l : Layout) → IsEmptyWhereTold (written sink)
      → IsFilled (begun F (told_new written flushed target faults f (length F) sink asked)) J (told_of written flushed target faults b)
      → HasLog account_of (IsLogOf written flushed target faults) b (origin_of written flushed target faults b) l F J × IsFrom target faults f sink asked (origin_of written flushed target faults b)
  filled b f sink asked F J l none h =
      let text : List ℕ = proof_bytes f (numbered_lines F J) in
      let bytes = holds_grown (append_known (written b.log.lines.sink) b.log.lines.waiting) (append_known (written sink) []) text (still_empty (written sink) none) h.text.bytes in
      let since = since_none (written b.log.lines.sink) b.log.lines.waiting text bytes in
      let kept = kept_asked asked b.log.kept.lines (lines F J) h.text.kept in (
        record {
          entries = h.entries;
          last = h.last;
          keeps = refl;
          kept = λ _ ls q. kept.1 ls q;
          sink = record {
            whole = λ _. record { quiet = refl; format = refl; bytes = since ∙ ap (λ (g : ProofFormat). append_known (no_byte (is_some (written b.log.lines.sink))) (proof_bytes g (numbered_lines F J))) (sym h.text.format); kept = refl };
            cut = λ q. absurd (true≢false (sym q ∙ h.unspent));
            target_is = refl;
            flushed_is = refl;
          };
        },
        record { format_is = h.text.format; target_is = h.target; faults_are = h.text.quiet; keeps = kept.0 },
      )

  -- the book failed after the log that it tells
  pub cut_off : (b : Book S d) (f : ProofFormat) (sink : S) (asked : Bool) (F : List (List Literal)) (J : List Entry) (l : Layout) → IsEmptyWhereTold (written sink)
      → IsCutOff (begun F (told_new written flushed target faults f (length F) sink asked)) J l.vars (told_of written flushed target faults b) → IsCutLog written flushed target faults f sink b l F J
  cut_off b f sink asked F J l none h = record {
    origin = record (origin_of written flushed target faults b) { format = f; faults = faults sink };
    format_is = refl;
    target_is = h.target;
    faults_are = refl;
    log = record {
      whole = λ q. absurd (true≢false (sym h.spent ∙ q));
      cut = λ _. record {
        next = h.text.next;
        line = h.text.line;
        one = h.text.one;
        sound = h.text.sound;
        hinted = h.text.hinted;
        on = h.text.on;
        format = h.text.format;
        rose = h.text.rose;
        front = cut_since (written b.log.lines.sink) (append_known (written sink) []) b.log.lines.waiting (proof_bytes f (numbered_lines F J) ++ spelling f h.text.line) (still_empty (written sink) none) h.text.front;
      };
      target_is = refl;
      flushed_is = refl;
    };
  }

  -- a new book says that it is
  pub told_begun : (b : Book S d) (f : ProofFormat) (clauses : ℕ) (sink : S) (asked : Bool) → IsNew f clauses sink asked b → told_of written flushed target faults b ≡ told_new written flushed target faults f clauses sink asked
  told_begun b f clauses sink asked n = λ i. record (told_by written flushed target faults (n.lines i)) { entries = n.entries i; kept = n.kept i }

  -- an entry that begins a round has no line
  pub filled_round : (old new : Book S d) → CountsOneMore old new → (o : Origin) (J : List Entry) (x : RoundStart) → IsFilled o J (told_of written flushed target faults old) → IsFilled o (J ++ Round x ∷ []) (told_of written flushed target faults new)
  filled_round old new one o J x h =
      let F : List (List Literal) = o.formula in
      let told : told_of written flushed target faults new ≡ record (told_of written flushed target faults old) { entries = old.entries + 1 } = λ i. record (told_by written flushed target faults (one.log i).lines) { entries = one.entries i; kept = (one.log i).kept.lines } in
      let none : lines F (J ++ Round x ∷ []) ≡ lines F J = lines_last F J (Round x) ∙ append-nil (lines F J) in
      let n = length-append J (Round x ∷ []) in
      let was = h.entries in
      subst (IsFilled o (J ++ Round x ∷ [])) (sym told) (record {
        unspent = h.unspent;
        entries = omega arith;
        last = h.last ∙ ap (λ (b : Numbers). b.next) (sym (book_last F J (Round x)));
        text = has_text_still o J _ (Round x) refl (record { quiet = h.text.quiet; format = h.text.format; bytes = h.text.bytes; kept = h.text.kept });
        target = h.target;
        flushed = h.flushed;
        spelled = subst CanBeSpelled (sym none) h.spelled;
      })
