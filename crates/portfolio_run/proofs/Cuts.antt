-- A writer that has a front of the bytes of lines.
use Rattle.std.proofs.Common.{◌≡◌, ◌∙◌, ℕ, true, List, [], ◌∷◌, ◌++◌, Some, None, refl, sym, ap, subst, append-nil}
use Rattle.std.specs.declared.option.Option.{Option}
use Rattle.std.specs.Io.KnownBytes.{append_known}
use Rattle.std.proofs.lemmas.List.Elements.{All-append}
use Rattle.io_edge.specs.Bytes.{IsFront}
use Rattle.io_edge.proofs.Growth.{append_known-append}
use Rattle.sat_words.specs.Literal.{Literal}
use Rattle.sat_words.specs.Formats.{has_hints}
use Rattle.sat_words.specs.declared.line.ProofFormat.{ProofFormat}
use Rattle.rup_model.specs.Journal.{formula_book, book, lines, LogSound}
use Rattle.rup_model.specs.NumberedLines.{NumberedLine, line_of, numbered_after, numbered_lines, IsHinted, AreHinted}
use Rattle.rup_model.specs.declared.journal.Entry.{Entry}
use Rattle.rup_model.proofs.Lines.{numbered_from_next, one_line}
use Rattle.rup_model.proofs.Numbers.{lines_last}
use Rattle.rup_model.proofs.Sequences.{each_last}
use Rattle.drat_text.specs.Text.{CanBeSpelled, IsSpelled}
use Rattle.drat_text.specs.Spelling.{spelling, proof_bytes}
use Rattle.drat_text.proofs.JournalLines.{bytes_last}
use Rattle.log_book.specs.Kept.{HoldsText, IsFrontTold}
use Rattle.ring_port.proofs.LogSteps.{one_All}
use Rattle.portfolio_run.specs.Journaled.{IsCutShort}

module _ (f : ProofFormat) (F : List (List Literal)) (J : List Entry) (written : Option (List ℕ)) (sound : LogSound F J) (hinted : has_hints f ≡ true → AreHinted F J) (spelled : CanBeSpelled (lines F J)) where
  -- a front of the bytes of the journal's lines
  pub cut_whole : IsFrontTold written (proof_bytes f (numbered_lines F J)) → IsCutShort f F J written
  cut_whole bytes =
      let same : J ≡ J ++ [] = sym (append-nil J) in
      record {
        next = None;
        sound = subst (LogSound F) same sound;
        hinted = λ q. subst (AreHinted F) same (hinted q);
        spelled = subst (λ (K : List Entry). CanBeSpelled (lines F K)) same spelled;
        bytes = subst (λ (K : List Entry). IsFrontTold written (proof_bytes f (numbered_lines F K))) same bytes;
      }

  -- or of these and one line more
  pub cut_short : (e : Entry) (x : NumberedLine) → numbered_after (book F J) e ≡ x ∷ [] → LogSound F (J ++ e ∷ []) → (has_hints f ≡ true → IsHinted F J e) → IsSpelled (line_of x)
      → IsFrontTold written (proof_bytes f (numbered_lines F J) ++ spelling f x) → IsCutShort f F J written
  cut_short e x one longer fits spelled_next bytes = record {
    next = Some e;
    sound = longer;
    hinted = λ q. each_last (IsHinted F) [] J e (hinted q) (fits q);
    spelled = subst CanBeSpelled (sym (lines_last F J e ∙ ap (λ L. lines F J ++ L) (one_line (book F J) e x one)))
        (All-append IsSpelled (lines F J) (line_of x ∷ []) spelled (one_All IsSpelled (line_of x) spelled_next));
    bytes = subst (IsFrontTold written) (sym (ap (proof_bytes f) (numbered_from_next (formula_book F) J e (x ∷ []) one) ∙ bytes_last f (numbered_lines F J) x)) bytes;
  }

pub front_of_front : (w some all : Option (List ℕ)) → IsFront w some → IsFront some all → IsFront w all
front_of_front w some all f g = record { rest = f.rest ++ g.rest; whole = g.whole ∙ ap (λ (k : Option (List ℕ)). append_known k g.rest) f.whole ∙ append_known-append w f.rest g.rest }

pub front_of_same : (w : Option (List ℕ)) → IsFront w w
front_of_same None = record { rest = []; whole = refl }
front_of_same (Some bytes) = record { rest = []; whole = ap Some (sym (append-nil bytes)) }

-- a front of the bytes of a text is one of the text
pub front_told : (w all : Option (List ℕ)) (t : List ℕ) → HoldsText all t → IsFront w all → IsFrontTold w t
front_told None all t holds f = tt
front_told (Some bytes) None t holds f = absurd (let e = f.whole in let no : ⊥ = cc in no)
front_told (Some bytes) (Some xs) t holds f = subst (λ (ys : List ℕ). IsFront (Some bytes) (Some ys)) holds f
