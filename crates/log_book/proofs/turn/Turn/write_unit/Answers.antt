use Rattle.std.proofs.Common.{◌∙◌, ℕ, ◌+◌, ◌∷◌, [], ◌++◌, List, refl, arith}
use Rattle.rup_model.specs.NumberedLines.{Added}
use Rattle.share_rule.specs.declared.note.Note.{Note}
use Rattle.share_rule.specs.declared.note.Note.TheVariants.{Unit as UnitNote}
use Rattle.share_rule.specs.declared.view.View.{View}
use Rattle.log_book.proofs.Standings.{line_turn, failed_turn, next_given}
use Rattle.log_book.proofs.Waits.{all_on}
use Rattle.log_book.proofs.turn.Turn.write_unit.Goals as goal

pub returns-in-Ok-write_addition-clause-added : goal.returns-in-Ok-write_addition-clause-added
returns-in-Ok-write_addition-clause-added g c =
    let v : View = c.args.pass.now.me.0 in
    let t = c.args.self.now in
    let h = c.requires.turn in
    let hints : List ℕ = c.args.hints.now in
    let note : Note = UnitNote c.args.kind c.args.lit hints in
    let could = c.in_default.ensures.going in
    let b = c.make_room_to_add.new.self.book in
    let same = c.make_room_to_add.ensures.same in
    let given = next_given g.S.Sink.written g.S.Sink.flushed g.S.Sink.target g.S.Sink.faults v t c.requires.seen h b same.lines in
    let put = c.in-Ok-write_addition.ensures.put in
    let noted_is = c.push_reserved.ensures.items ∙ (λ i. c.make_room_to_add.ensures.noted.0 i ++ UnitNote c.args.kind c.args.lit (c.in-Ok.ensures i) ∷ []) in
    let last = h.stands.log.last in
    let stood = line_turn g.S.Sink.written g.S.Sink.flushed g.S.Sink.target g.S.Sink.faults v t c.requires.seen h note could c.requires.note _ refl _ (Added (b.log.lines.last + 1) (c.args.lit ∷ []) hints) (λ i. Added (given i) (c.args.lit ∷ []) hints ∷ []) noted_is c.make_room_to_add.ensures.noted.1
    b same.lines same.entries same.ended same.kept c.write_addition.new.self put refl refl refl (put.holes ∙ same.holes ∙ h.stands.holes could.1) (omega arith) refl in
    record {
      noted = noted_is;
      refused = c.make_room_to_add.ensures.noted.1;
      turn = stood.0;
      going = could;
      whole = stood.1;
    }

pub returns-in-Err-write_addition-clause-stopped : goal.returns-in-Err-write_addition-clause-stopped
returns-in-Err-write_addition-clause-stopped g c =
    let v : View = c.args.pass.now.me.0 in
    let t = c.args.self.now in
    let h = c.requires.turn in
    let hints : List ℕ = c.args.hints.now in
    let note : Note = UnitNote c.args.kind c.args.lit hints in
    let could = c.in_default.ensures.going in
    let b = c.make_room_to_add.new.self.book in
    let same = c.make_room_to_add.ensures.same in
    let given = next_given g.S.Sink.written g.S.Sink.flushed g.S.Sink.target g.S.Sink.faults v t c.requires.seen h b same.lines in
    let f = failed_turn g.S.Sink.written g.S.Sink.flushed g.S.Sink.target g.S.Sink.faults v t c.requires.seen h note could c.requires.note _ refl _ (Added (b.log.lines.last + 1) (c.args.lit ∷ []) hints) (λ i. Added (given i) (c.args.lit ∷ []) hints ∷ []) (all_on v.layout (c.args.lit ∷ []) c.requires.note.2) c.make_room_to_add.ensures.noted.0 c.make_room_to_add.ensures.noted.1
    b same.lines same.entries same.ended same.kept c.write_addition.new.self c.in-Err-write_addition.ensures.put refl refl refl in
    record { noted = c.make_room_to_add.ensures.noted.0; refused = c.make_room_to_add.ensures.noted.1; turn = f.0; grounded = f.1; alike = λ ne. absurd (ne refl) }
