use Rattle.std.proofs.Common.{◌≡◌, ◌∙◌, ◌∷◌, [], ◌++◌, ℕ, List, true, All, length, Option, sym, ap, refl, subst, arith}
use Rattle.std.specs.Option.{unwrap_or}
use Rattle.sat_words.specs.Literal.{Literal, IsOn}
use Rattle.clause_cell.specs.declared.holes.Hole.{Hole}
use Rattle.clause_cell.specs.Packing.{words_for}
use Rattle.clause_cell.specs.Free.{is_clear, with_range}
use Rattle.rup_model.specs.Journal.{spelled_by, book}
use Rattle.rup_model.specs.NumberedLines.{Deleted}
use Rattle.share_rule.specs.declared.note.Note.{Note}
use Rattle.share_rule.specs.declared.note.Note.TheVariants.{Bury}
use Rattle.share_rule.specs.declared.view.View.{View}
use Rattle.share_rule.specs.Room.{Room, room, without_words}
use Rattle.share_rule.specs.Views.{only}
use Rattle.log_book.specs.Turns.{sheet, waiting}
use Rattle.log_book.proofs.Standings.{line_turn, failed_turn, last_given}
use Rattle.log_book.proofs.Waits.{Waits, waits_so, waits_clear}
use Rattle.log_book.proofs.turn.Turn.write_deletion.Goals as goal

pub give-requires-clause-range : goal.give-requires-clause-range
give-requires-clause-range g c =
    let v : View = c.args.pass.now.me.0 in
    let t = c.args.self.now in
    let h = c.requires.turn in
    let could = c.in_default.ensures.going in
    let same = c.make_room_to_delete.ensures.same in
    let a : ℕ = c.args.cell.address in
    let note : Note = Bury a in
    let w : Waits v t a = waits_so g.S.Sink.written g.S.Sink.flushed g.S.Sink.target g.S.Sink.faults v t a c.requires.seen h c.requires.note in
    let n : ℕ = (waiting v t a).number in
    let m : Room = room v.layout v.opening (sheet v t).journal in
    let n_is : c.words_for-words.result ≡ words_for (length (waiting v t a).lits) = c.words_for-words.ensures ∙ ap (λ (ks : List Literal). words_for (length ks)) c.requires.clause in
    let holes_are : c.make_room_to_delete.new.self.book.holes ≡ m.holes = same.holes ∙ h.stands.holes could.1 in
    let at = w.room_is.some (waiting v t a).number _ w.words in
    let small = c.requires.seen.small in
    let hi = at.2 in
    (omega arith, omega arith)

pub give-requires-clause-clear : goal.give-requires-clause-clear
give-requires-clause-clear g c =
    let v : View = c.args.pass.now.me.0 in
    let t = c.args.self.now in
    let h = c.requires.turn in
    let could = c.in_default.ensures.going in
    let same = c.make_room_to_delete.ensures.same in
    let a : ℕ = c.args.cell.address in
    let note : Note = Bury a in
    let w : Waits v t a = waits_so g.S.Sink.written g.S.Sink.flushed g.S.Sink.target g.S.Sink.faults v t a c.requires.seen h c.requires.note in
    let n : ℕ = (waiting v t a).number in
    let m : Room = room v.layout v.opening (sheet v t).journal in
    let n_is : c.words_for-words.result ≡ words_for (length (waiting v t a).lits) = c.words_for-words.ensures ∙ ap (λ (ks : List Literal). words_for (length ks)) c.requires.clause in
    let holes_are : c.make_room_to_delete.new.self.book.holes ≡ m.holes = same.holes ∙ h.stands.holes could.1 in
    subst (λ (y : ℕ × List Hole). is_clear a y.0 y.1 ≡ true) (λ i. (sym n_is i, sym holes_are i)) (waits_clear v t a w)

pub returns-in-Ok-write_deletion-clause-added : goal.returns-in-Ok-write_deletion-clause-added
returns-in-Ok-write_deletion-clause-added g c =
    let v : View = c.args.pass.now.me.0 in
    let t = c.args.self.now in
    let h = c.requires.turn in
    let could = c.in_default.ensures.going in
    let same = c.make_room_to_delete.ensures.same in
    let a : ℕ = c.args.cell.address in
    let note : Note = Bury a in
    let w : Waits v t a = waits_so g.S.Sink.written g.S.Sink.flushed g.S.Sink.target g.S.Sink.faults v t a c.requires.seen h c.requires.note in
    let n : ℕ = (waiting v t a).number in
    let m : Room = room v.layout v.opening (sheet v t).journal in
    let n_is : c.words_for-words.result ≡ words_for (length (waiting v t a).lits) = c.words_for-words.ensures ∙ ap (λ (ks : List Literal). words_for (length ks)) c.requires.clause in
    let holes_are : c.make_room_to_delete.new.self.book.holes ≡ m.holes = same.holes ∙ h.stands.holes could.1 in
    let made = c.requires.clause in
    let b = c.make_room_to_delete.new.self.book in
    let last = last_given g.S.Sink.written g.S.Sink.flushed g.S.Sink.target g.S.Sink.faults v t c.requires.seen h b same.lines in
    let line : spelled_by (only v).core.ring (unwrap_or ((book v.opening.formula (sheet v t).journal).clause n) []) ≡ (waiting v t a).lits = ap (λ (q : Option (List Literal)). spelled_by (only v).core.ring (unwrap_or q [])) w.clause ∙ w.spelled in
    let given : c.give.new.self ≡ with_range a (words_for (length (waiting v t a).lits)) m.holes = c.in-Ok.ensures.given ∙ (λ i. with_range a (n_is i) (holes_are i)) in
    let noted_is = c.push_reserved.ensures.items ∙ ap (λ (ns : List Note). ns ++ note ∷ []) c.make_room_to_delete.ensures.noted.0 in
    let stood = line_turn g.S.Sink.written g.S.Sink.flushed g.S.Sink.target g.S.Sink.faults v t c.requires.seen h note could c.requires.note _ refl _ (Deleted b.log.lines.last c.args.number c.args.lits.now) (λ i. Deleted (last i) (sym c.requires.number i) ((line ∙ sym made) i) ∷ []) noted_is c.make_room_to_delete.ensures.noted.1
    _ same.lines same.entries same.ended same.kept c.write_deletion.new.self c.in-Ok-write_deletion.ensures refl refl refl (c.in-Ok-write_deletion.ensures.holes ∙ given ∙ sym (ap (λ (q : Option Hole). (without_words n m q).holes) w.words)) h.stands.log.last refl in
    record {
      noted = noted_is;
      refused = c.make_room_to_delete.ensures.noted.1;
      turn = stood.0;
      going = could;
      whole = stood.1;
    }

pub returns-in-Err-write_deletion-clause-stopped : goal.returns-in-Err-write_deletion-clause-stopped
returns-in-Err-write_deletion-clause-stopped g c =
    let v : View = c.args.pass.now.me.0 in
    let t = c.args.self.now in
    let h = c.requires.turn in
    let could = c.in_default.ensures.going in
    let same = c.make_room_to_delete.ensures.same in
    let a : ℕ = c.args.cell.address in
    let note : Note = Bury a in
    let w : Waits v t a = waits_so g.S.Sink.written g.S.Sink.flushed g.S.Sink.target g.S.Sink.faults v t a c.requires.seen h c.requires.note in
    let n : ℕ = (waiting v t a).number in
    let m : Room = room v.layout v.opening (sheet v t).journal in
    let n_is : c.words_for-words.result ≡ words_for (length (waiting v t a).lits) = c.words_for-words.ensures ∙ ap (λ (ks : List Literal). words_for (length ks)) c.requires.clause in
    let holes_are : c.make_room_to_delete.new.self.book.holes ≡ m.holes = same.holes ∙ h.stands.holes could.1 in
    let made = c.requires.clause in
    let b = c.make_room_to_delete.new.self.book in
    let last = last_given g.S.Sink.written g.S.Sink.flushed g.S.Sink.target g.S.Sink.faults v t c.requires.seen h b same.lines in
    let line : spelled_by (only v).core.ring (unwrap_or ((book v.opening.formula (sheet v t).journal).clause n) []) ≡ (waiting v t a).lits = ap (λ (q : Option (List Literal)). spelled_by (only v).core.ring (unwrap_or q [])) w.clause ∙ w.spelled in
    let f = failed_turn g.S.Sink.written g.S.Sink.flushed g.S.Sink.target g.S.Sink.faults v t c.requires.seen h note could c.requires.note _ refl _ (Deleted b.log.lines.last c.args.number c.args.lits.now) (λ i. Deleted (last i) (sym c.requires.number i) ((line ∙ sym made) i) ∷ []) (subst (λ (ks : List Literal). All (IsOn v.layout.vars) ks) (sym made) w.on) c.make_room_to_delete.ensures.noted.0 c.make_room_to_delete.ensures.noted.1
    _ same.lines same.entries same.ended same.kept c.write_deletion.new.self c.in-Err-write_deletion.ensures refl refl refl in
    record { noted = c.make_room_to_delete.ensures.noted.0; refused = c.make_room_to_delete.ensures.noted.1; turn = f.0; grounded = f.1; alike = λ ne. absurd (ne refl) }

pub overflow_cast-lits : goal.overflow_cast-lits
overflow_cast-lits g c =
    let v : View = c.args.pass.now.me.0 in
    let w : Waits v c.args.self.now c.args.cell.address = waits_so g.S.Sink.written g.S.Sink.flushed g.S.Sink.target g.S.Sink.faults v c.args.self.now c.args.cell.address c.requires.seen c.requires.turn c.requires.note in
    let few = w.few in
    let same = ap (λ (ks : List Literal). length ks) c.requires.clause in
    omega arith
