-- What an output has of a journal once one line more was put, or failed.
use Rattle.std.proofs.Common.{◌≡◌, ℕ, true, List, [], ◌∷◌, ◌++◌, Some, None, refl, sym, ap, subst, ◌∙◌, append_assoc, append-nil}
use Rattle.std.specs.List.{All, fold}
use Rattle.std.specs.declared.option.Option.{Option}
use Rattle.std.specs.Io.KnownBytes.{append_known}
use Rattle.std.proofs.lemmas.List.Sums.{fold-append}
use Rattle.sat_words.specs.Literal.{IsOn}
use Rattle.sat_words.specs.declared.line.Line.{Line}
use Rattle.sat_words.specs.Formats.{has_hints}
use Rattle.rup_model.specs.declared.journal.Entry.{Entry}
use Rattle.rup_model.specs.Log.{lits_of}
use Rattle.rup_model.specs.Journal.{Book, formula_book, book_after, book, lines_after, lines_from, LogSound}
use Rattle.rup_model.specs.NumberedLines.{NumberedLine, line_of, numbered_after, numbered_from, IsHinted}
use Rattle.rup_model.proofs.Lines.{numbered_from_next, one_line, no_line}
use Rattle.io_edge.specs.Causes.{Rose}
use Rattle.io_edge.proofs.Growth.{append_known-append}
use Rattle.sat_words.specs.declared.line.ProofFormat.{ProofFormat}
use Rattle.drat_text.specs.Spelling.{spelling, proof_bytes}
use Rattle.drat_text.specs.LineState.{LineState, with_lines}
use Rattle.drat_text.specs.LineOut.{PutLine, FailedLine}
use Rattle.drat_text.specs.JournalText.{Origin, later_lines, later_bytes, HasText, HasTextCut}

-- the later entries' lines, with numbers and hints
abbrev later_numbered : Origin → List Entry → List NumberedLine
later_numbered o mine = numbered_from (book o.formula o.journal) mine

pub bytes_last : (f : ProofFormat) (L : List NumberedLine) (x : NumberedLine) → proof_bytes f (L ++ x ∷ []) ≡ proof_bytes f L ++ spelling f x
bytes_last f [] x = append-nil (spelling f x)
bytes_last f (y ∷ L) x = ap (λ t. spelling f y ++ t) (bytes_last f L x) ∙ sym (append_assoc (spelling f y) (proof_bytes f L) (spelling f x))

-- one entry more, which has these lines there
lines_from_next : (b : Book) (J : List Entry) (e : Entry) (L : List Line) → lines_after (fold book_after b J) e ≡ L → lines_from b (J ++ e ∷ []) ≡ lines_from b J ++ L
lines_from_next b [] e L has = append-nil (lines_after b e) ∙ has
lines_from_next b (y ∷ J) e L has =
    ap (λ (K : List Line). lines_after b y ++ K) (lines_from_next (book_after b y) J e L has)
    ∙ sym (append_assoc (lines_after b y) (lines_from (book_after b y) J) L)

-- lines that are kept, with none more, and with some and then others
with_none : (kept : Option (List Line)) → kept ≡ with_lines kept []
with_none None = refl
with_none (Some L) = ap Some (sym (append-nil L))

with_both : (kept : Option (List Line)) (L M : List Line) → with_lines (with_lines kept L) M ≡ with_lines kept (L ++ M)
with_both None L M = refl
with_both (Some K) L M = ap Some (append_assoc K L M)

none_more : (w : Option (List ℕ)) → w ≡ append_known w []
none_more None = refl
none_more (Some bytes) = ap Some (sym (append-nil bytes))

-- no entry came yet
pub has_text_begun : (o : Origin) → HasText o [] o.output
has_text_begun o = record { quiet = refl; format = refl; bytes = none_more o.output.written; kept = with_none o.output.kept }

module _ (o : Origin) (mine : List Entry) where
  later_next : (e : Entry) (L : List Line) → lines_after (book o.formula (o.journal ++ mine)) e ≡ L → later_lines o (mine ++ e ∷ []) ≡ later_lines o mine ++ L
  later_next e L has =
      lines_from_next (book o.formula o.journal) mine e L (ap (λ k. lines_after k e) (sym (fold-append book_after (formula_book o.formula) o.journal mine)) ∙ has)

  numbered_next : (e : Entry) (L : List NumberedLine) → numbered_after (book o.formula (o.journal ++ mine)) e ≡ L → later_numbered o (mine ++ e ∷ []) ≡ later_numbered o mine ++ L
  numbered_next e L has =
      numbered_from_next (book o.formula o.journal) mine e L (ap (λ k. numbered_after k e) (sym (fold-append book_after (formula_book o.formula) o.journal mine)) ∙ has)

  -- an entry without a line came
  pub has_text_still : (a : LineState) (e : Entry) → lines_after (book o.formula (o.journal ++ mine)) e ≡ [] → HasText o mine a → HasText o (mine ++ e ∷ []) a
  has_text_still a e none was =
      let same : later_lines o (mine ++ e ∷ []) ≡ later_lines o mine = later_next e [] none ∙ append-nil (later_lines o mine) in
      let alike : later_numbered o (mine ++ e ∷ []) ≡ later_numbered o mine =
      numbered_next e [] (no_line (book o.formula (o.journal ++ mine)) e none) ∙ append-nil (later_numbered o mine) in
      record {
        quiet = was.quiet;
        format = was.format;
        bytes = was.bytes ∙ ap (λ (L : List NumberedLine). append_known o.output.written (proof_bytes o.output.format L)) (sym alike);
        kept = was.kept ∙ ap (with_lines o.output.kept) (sym same);
      }

module _ (o : Origin) (mine : List Entry) (a b : LineState) (x : NumberedLine) (was : HasText o mine a) where
  -- how the line is spelled
  abbrev word : List ℕ
  word = spelling o.output.format x

  -- the line stands
  pub has_text_next : (e : Entry) → numbered_after (book o.formula (o.journal ++ mine)) e ≡ x ∷ [] → PutLine a b x → HasText o (mine ++ e ∷ []) b
  has_text_next e one put =
      let line = line_of x in
      let more : later_lines o (mine ++ e ∷ []) ≡ later_lines o mine ++ line ∷ [] =
      later_next o mine e (line ∷ []) (one_line (book o.formula (o.journal ++ mine)) e x one) in
      let next : later_bytes o (mine ++ e ∷ []) ≡ later_bytes o mine ++ word =
      ap (proof_bytes o.output.format) (numbered_next o mine e (x ∷ []) one) ∙ bytes_last o.output.format (later_numbered o mine) x in
      record {
        quiet = ap (λ (s : LineState). s.faults) put.state ∙ was.quiet;
        format = ap (λ (s : LineState). s.format) put.state ∙ was.format;
        bytes =
            ap (λ (s : LineState). s.written) put.state ∙ (λ i. append_known (was.bytes i) (spelling (was.format i) x))
            ∙ append_known-append o.output.written (later_bytes o mine) word ∙ ap (append_known o.output.written) (sym next);
        kept =
            ap (λ (s : LineState). s.kept) put.state ∙ ap (λ k. with_lines k (line ∷ [])) was.kept
            ∙ with_both o.output.kept (later_lines o mine) (line ∷ []) ∙ ap (with_lines o.output.kept) (sym more);
      }

  -- the output failed at the line
  pub has_text_cut : (e : Entry) → numbered_after (book o.formula (o.journal ++ mine)) e ≡ x ∷ [] → LogSound o.formula ((o.journal ++ mine) ++ e ∷ []) → (has_hints o.output.format ≡ true → IsHinted o.formula (o.journal ++ mine) e)
      → (vars : ℕ) → All (IsOn vars) (lits_of (line_of x)) → FailedLine a b x → HasTextCut o mine vars b
  has_text_cut e one sound hinted vars on failed = record {
    next = e;
    line = x;
    one = one;
    sound = sound;
    hinted = hinted;
    on = on;
    format = ap (λ (s : LineState). s.format) failed.state ∙ was.format;
    rose = subst (λ n. Rose n b.faults) was.quiet failed.rose;
    front = record {
      rest = failed.front.rest;
      whole =
          sym (append_known-append o.output.written (later_bytes o mine) word)
          ∙ (λ i. append_known (sym was.bytes i) (spelling (sym was.format i) x)) ∙ failed.front.whole;
    };
  }
