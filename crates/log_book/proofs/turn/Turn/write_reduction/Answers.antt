use Rattle.std.proofs.Common.{◌≡◌, ◌∙◌, ◌∷◌, [], ◌++◌, ◌||◌, suc, List, Bool, true, false, append-nil, sym, ap, refl, subst}
use Rattle.std.specs.Prelude.{is_some}
use Rattle.rup_model.specs.declared.journal.Entry.TheVariants.{Reduce as ReduceEntry}
use Rattle.rup_model.specs.Journal.{lines}
use Rattle.drat_text.specs.SinkData.{told_by}
use Rattle.drat_text.specs.JournalText.{HasText}
use Rattle.drat_text.proofs.JournalLines.{has_text_still}
use Rattle.share_rule.specs.declared.note.Note.{Note}
use Rattle.share_rule.specs.declared.note.Note.TheVariants.{Reduce}
use Rattle.share_rule.specs.declared.view.View.{View}
use Rattle.share_rule.specs.Views.{only}
use Rattle.log_book.specs.Books.{begun, began}
use Rattle.log_book.specs.Turns.{sheet}
use Rattle.log_book.proofs.Standings.{note_turn}
use Rattle.log_book.proofs.turn.Turn.write_reduction.Goals as goal

pub returns-clause-added : goal.returns-clause-added
returns-clause-added g c =
    let v : View = c.args.pass.now.me.0 in
    let t = c.args.self.now in
    let h = c.requires.turn in
    let could = c.in_default.ensures.going in
    let note : Note = Reduce in
    let noted_is = c.push_reserved.ensures.items ∙ ap (λ (ns : List Note). ns ++ note ∷ []) c.reserve.ensures.items in
    let x = c.count_entry.ensures in
    let J = (sheet v t).journal in
    let F = v.opening.formula in
    record {
      noted = noted_is;
      refused = refl;
      turn = note_turn g.S.Sink.written g.S.Sink.flushed g.S.Sink.target g.S.Sink.faults v t c.requires.seen h note could c.requires.note _ refl _ noted_is refl (ap (λ l. l.lines.spent) x.log ∙ could.1)
          (x.holes ∙ h.stands.holes could.1) x.entries (ap (λ l. suc l.lines.last) x.log ∙ h.stands.log.last) (x.ended ∙ or_none t.book.ended)
          (ap (λ l. is_some l.kept.lines) x.log)
          (λ ls q. h.stands.log.kept could.1 ls (sym (ap (λ l. l.kept.lines) x.log) ∙ q) ∙ sym (append-nil (lines F J)))
          (subst (λ l. HasText (begun F (began v.origin F)) (J ++ ReduceEntry (only v).core.ring ∷ []) (told_by g.S.Sink.written g.S.Sink.flushed g.S.Sink.target g.S.Sink.faults l.lines)) (sym x.log) (has_text_still (begun F (began v.origin F)) J _ (ReduceEntry (only v).core.ring) refl (h.stands.log.sink.whole could.1)))
          (ap (λ l. g.S.Sink.target l.lines.sink) x.log) (ap (λ l. g.S.Sink.flushed l.lines.sink) x.log);
      going = could;
      whole = ap (λ l. l.lines.spent) x.log ∙ could.1;
    }
  where
    or_none : (b : Bool) → b ≡ (b || false)
    or_none true = refl
    or_none false = refl
