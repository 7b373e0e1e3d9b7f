-- The lines of a journal that goes on, in one output.
use Rattle.std.proofs.Common.{◌≡◌, ◌∙◌, ℕ, Bool, true, false, List, [], ◌∷◌, ◌++◌, Some, None, refl, sym, ap, subst, arith, append_assoc, append-nil, true≢false}
use Rattle.std.specs.Prelude.{is_some}
use Rattle.std.specs.List.{fold}
use Rattle.std.specs.declared.option.Option.{Option}
use Rattle.std.specs.Io.KnownBytes.{append_known}
use Rattle.io_edge.specs.Paths.{IsEmptyWhereTold}
use Rattle.io_edge.specs.Causes.{Rose}
use Rattle.io_edge.proofs.Growth.{append_known-append}
use Rattle.sat_words.specs.Literal.{Literal}
use Rattle.sat_words.specs.declared.line.Line.{Line}
use Rattle.sat_words.specs.Formats.{has_hints}
use Rattle.sat_words.specs.declared.line.ProofFormat.{ProofFormat}
use Rattle.rup_model.specs.declared.journal.Entry.{Entry}
use Rattle.rup_model.specs.Journal.{Book, formula_book, book_after, book, lines, lines_from}
use Rattle.rup_model.specs.NumberedLines.{NumberedLine, numbered_after, numbered_from, numbered_lines}
use Rattle.rup_model.proofs.Numbers.{lines_both}
use Rattle.drat_text.specs.LineState.{LineState, with_lines}
use Rattle.drat_text.specs.Text.{CanBeSpelled}
use Rattle.drat_text.specs.Spelling.{spelling, proof_bytes}
use Rattle.drat_text.specs.JournalText.{Origin, HasText, HasTextCut}
use Rattle.simp_base.specs.Log.{HasLines}
use Rattle.log_book.specs.Books.{begun, no_byte, no_line, IsFilled, IsCutOff}

-- Bytes and lines

bytes_both : (f : ProofFormat) (L M : List NumberedLine) → proof_bytes f (L ++ M) ≡ proof_bytes f L ++ proof_bytes f M
bytes_both f [] M = refl
bytes_both f (x ∷ L) M = ap (λ (bs : List ℕ). spelling f x ++ bs) (bytes_both f L M) ∙ sym (append_assoc (spelling f x) (proof_bytes f L) (proof_bytes f M))

numbered_both : (b : Book) (J K : List Entry) → numbered_from b (J ++ K) ≡ numbered_from b J ++ numbered_from (fold book_after b J) K
numbered_both b [] K = refl
numbered_both b (e ∷ J) K =
    ap (λ (N : List NumberedLine). numbered_after b e ++ N) (numbered_both (book_after b e) J K)
    ∙ sym (append_assoc (numbered_after b e) (numbered_from (book_after b e) J) (numbered_from (fold book_after (book_after b e) J) K))

kept_both : (kept : Option (List Line)) (L M : List Line) → with_lines (with_lines kept L) M ≡ with_lines kept (L ++ M)
kept_both None L M = refl
kept_both (Some K) L M = ap Some (append_assoc K L M)

-- where nothing was written, there is no byte
pub no_byte_there : (was : Option (List ℕ)) → IsEmptyWhereTold was → append_known was [] ≡ no_byte (is_some was)
no_byte_there None none = refl
no_byte_there (Some bytes) none = ap Some (append-nil bytes ∙ none)

-- bytes are told as before
pub told_still : (was : Option (List ℕ)) (more : List ℕ) → is_some (append_known was more) ≡ is_some was
told_still None more = refl
told_still (Some bytes) more = refl

-- lines that are kept are all, if it was asked for them
pub kept_all : (kept : Option (List Line)) (asked : Bool) (L : List Line) → is_some kept ≡ asked → ((ls : List Line) → kept ≡ Some ls → ls ≡ L) → kept ≡ with_lines (no_line asked) L
kept_all None true L is all = absurd (true≢false (sym is))
kept_all None false L is all = refl
kept_all (Some ls) true L is all = ap Some (all ls refl)
kept_all (Some ls) false L is all = absurd (true≢false is)

-- An output that had the lines of a journal, and has those of later entries

module _ (F : List (List Literal)) (before old new : LineState) (J mine : List Entry) where
  -- from the first line on
  abbrev first : Origin
  first = begun F before

  -- from the later entries on
  abbrev next : Origin
  next = record { formula = F; journal = J; output = old }

  abbrev L : List Line
  L = lines F J

  abbrev M : List Line
  M = lines_from (book F J) mine

  both : lines F (J ++ mine) ≡ L ++ M
  both = lines_both F J mine

  -- with their numbers
  abbrev N : List NumberedLine
  N = numbered_lines F J

  abbrev O : List NumberedLine
  O = numbered_from (book F J) mine

  -- the bytes of all
  all_bytes : (f : ProofFormat) → proof_bytes f N ++ proof_bytes f O ≡ proof_bytes f (numbered_lines F (J ++ mine))
  all_bytes f = sym (bytes_both f N O) ∙ ap (proof_bytes f) (sym (numbered_both (formula_book F) J mine))

  module _ (was : HasText first J old) where
    pub text_on : HasText next mine new → HasText first (J ++ mine) new
    text_on h = record {
      quiet = h.quiet ∙ was.quiet;
      format = h.format ∙ was.format;
      bytes =
          h.bytes ∙ (λ i. append_known (was.bytes i) (proof_bytes (was.format i) O))
          ∙ append_known-append before.written (proof_bytes before.format N) (proof_bytes before.format O) ∙ ap (append_known before.written) (all_bytes before.format);
      kept = h.kept ∙ ap (λ (k : Option (List Line)). with_lines k M) was.kept ∙ kept_both before.kept L M ∙ ap (with_lines before.kept) (sym both);
    }

    pub cut_on : (vars : ℕ) → HasTextCut next mine vars new → HasTextCut first (J ++ mine) vars new
    cut_on vars h =
        let f : ProofFormat = before.format in
        let more : List ℕ = spelling f h.line in
        record {
          next = h.next;
          line = h.line;
          one = h.one;
          sound = h.sound;
          hinted = λ q. h.hinted (ap has_hints was.format ∙ q);
          on = h.on;
          format = h.format ∙ was.format;
          rose = subst (λ (n : ℕ). Rose n new.faults) was.quiet h.rose;
          front = record {
            rest = h.front.rest;
            whole =
                ap (append_known before.written) (ap (λ (bs : List ℕ). bs ++ more) (sym (all_bytes f)) ∙ append_assoc (proof_bytes f N) (proof_bytes f O) more)
                ∙ sym (append_known-append before.written (proof_bytes f N) (proof_bytes f O ++ more))
                ∙ (λ i. append_known (sym was.bytes i) (proof_bytes (sym was.format i) O ++ spelling (sym was.format i) h.line)) ∙ h.front.whole;
          };
        }

  module _ (was : IsFilled first J old) (vars : ℕ) (h : HasLines next mine vars new) where
    pub filled_on : new.spent ≡ false → CanBeSpelled (lines F (J ++ mine)) → IsFilled first (J ++ mine) new
    filled_on unspent spelled =
        let last = h.last in
        record {
          unspent = unspent;
          entries = h.entries;
          last = omega (arith, last);
          text = text_on was.text (h.whole unspent);
          target = h.target ∙ was.target;
          flushed = h.flushed ∙ was.flushed;
          spelled = spelled;
        }

    pub cut_off_on : new.spent ≡ true → IsCutOff first (J ++ mine) vars new
    cut_off_on spent = record { spent = spent; text = cut_on was.text vars (h.short spent); target = h.target ∙ was.target }
