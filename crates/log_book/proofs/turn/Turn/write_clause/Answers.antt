use Rattle.std.proofs.Common.{◌≡◌, ◌∙◌, ◌∷◌, [], ◌++◌, ◌+◌, ℕ, List, length, Some, sym, ap, refl, subst, arith}
use Rattle.sat_words.specs.Literal.{Literal}
use Rattle.rup_model.specs.NumberedLines.{Added}
use Rattle.clause_cell.specs.Packing.{words_for}
use Rattle.clause_cell.specs.declared.holes.HoleStop.{HoleStop}
use Rattle.clause_cell.specs.declared.holes.HoleStop.TheVariants.{NoHole, Memory}
use Rattle.clause_cell.specs.Free.{largest, without_fit, first_fit}
use Rattle.clause_cell.proofs.Ranges.{some_largest}
use Rattle.io_edge.specs.Causes.{Rose}
use Rattle.drat_text.specs.LineState.{LineState}
use Rattle.share_rule.specs.declared.note.Note.{Note}
use Rattle.share_rule.specs.declared.note.Note.TheVariants.{Clause}
use Rattle.share_rule.specs.declared.view.View.{View}
use Rattle.share_rule.specs.Room.{Room, room, with_clause}
use Rattle.share_rule.specs.Turns.{next_number}
use Rattle.share_rule.specs.Views.{only}
use Rattle.share_rule.proofs.Sheets.{long_entry}
use Rattle.log_book.specs.Turns.{sheet}
use Rattle.log_book.proofs.Standings.{line_turn, failed_turn, next_given, stopped_either, stopped_room}
use Rattle.log_book.proofs.Waits.{all_on, few_lits, not_empty}
use Rattle.log_book.proofs.turn.Turn.write_clause.Goals as goal

-- there is no memory for the literals
pub returns-in_default-from_slice-clause-stopped : goal.returns-in_default-from_slice-clause-stopped
returns-in_default-from_slice-clause-stopped g c =
    stopped_either g.S.Sink.written g.S.Sink.flushed g.S.Sink.target g.S.Sink.faults c.args.pass.now.me.0 c.args.self.now c.requires.seen c.requires.turn c.args.self.now refl refl (record { lines = refl; kept = refl; entries = refl; ended = refl; holes = refl })
    c.in_default.ensures.going.1 c.args.kind c.args.lits.now c.args.hints.now c.words_for-need.result c.requires.note c.words_for-need.ensures c.no_memory.result c.no_memory.ensures

-- or for the hints
pub returns-in_default-from_slice-2-clause-stopped : goal.returns-in_default-from_slice-2-clause-stopped
returns-in_default-from_slice-2-clause-stopped g c =
    stopped_either g.S.Sink.written g.S.Sink.flushed g.S.Sink.target g.S.Sink.faults c.args.pass.now.me.0 c.args.self.now c.requires.seen c.requires.turn c.args.self.now refl refl (record { lines = refl; kept = refl; entries = refl; ended = refl; holes = refl })
    c.in_default.ensures.going.1 c.args.kind c.args.lits.now c.args.hints.now c.words_for-need.result c.requires.note c.words_for-need.ensures c.no_memory-in_default-from_slice-2.result c.no_memory-in_default-from_slice-2.ensures

-- or for the line
pub returns-then-is_err-clause-stopped : goal.returns-then-is_err-clause-stopped
returns-then-is_err-clause-stopped g c =
    stopped_either g.S.Sink.written g.S.Sink.flushed g.S.Sink.target g.S.Sink.faults c.args.pass.now.me.0 c.args.self.now c.requires.seen c.requires.turn c.make_room_to_add.new.self c.make_room_to_add.ensures.noted.0 c.make_room_to_add.ensures.noted.1 c.make_room_to_add.ensures.same
    c.in_default.ensures.going.1 c.args.kind c.args.lits.now c.args.hints.now c.words_for-need.result c.requires.note c.words_for-need.ensures c.no_memory-then-is_err.result c.no_memory-then-is_err.ensures

-- no hole is long enough
abbrev need_of : HoleStop → ℕ
need_of (NoHole need most) = need
need_of Memory = 0

abbrev most_of : HoleStop → ℕ
most_of (NoHole need most) = most
most_of Memory = 0

pub returns-in-Err-NoHole-clause-stopped : goal.returns-in-Err-NoHole-clause-stopped
returns-in-Err-NoHole-clause-stopped g c =
    let same = c.make_room_to_add.ensures.same in
    let e = c.in-Err-NoHole in
    let none = e.ensures.none in
    let told = sym e.field-0-is ∙ none.0 in
    let need = e.need-is ∙ ap need_of told in
    let most = e.largest-is ∙ ap most_of told in
    let short = none.1 in
    stopped_room g.S.Sink.written g.S.Sink.flushed g.S.Sink.target g.S.Sink.faults c.args.pass.now.me.0 c.args.self.now c.requires.seen c.requires.turn _ c.make_room_to_add.ensures.noted.0 c.make_room_to_add.ensures.noted.1
    (record { lines = same.lines; kept = same.kept; entries = same.entries; ended = same.ended; holes = e.ensures.back ∙ same.holes })
    c.in_default.ensures.going.1 c.args.kind c.args.lits.now c.args.hints.now _ c.requires.note (need ∙ c.words_for-need.ensures) _ (most ∙ ap largest (sym e.ensures.back)) (omega (arith, need, most, short))

pub returns-in-Ok-write_addition-clause-added : goal.returns-in-Ok-write_addition-clause-added
returns-in-Ok-write_addition-clause-added g c =
    let v : View = c.args.pass.now.me.0 in
    let t = c.args.self.now in
    let h = c.requires.turn in
    let could = c.in_default.ensures.going in
    let same = c.make_room_to_add.ensures.same in
    let lits : List Literal = c.args.lits.now in
    let hints : List ℕ = c.args.hints.now in
    let b = c.make_room_to_add.new.self.book in
    let given = next_given g.S.Sink.written g.S.Sink.flushed g.S.Sink.target g.S.Sink.faults v t c.requires.seen h b same.lines in
    let a : ℕ = c.in-Ok-take.address in
    let note : Note = Clause c.args.kind lits hints c.args.glue a in
    let m : Room = room v.layout v.opening (sheet v t).journal in
    let need : ℕ = words_for (length lits) in
    let need_is : c.words_for-need.result ≡ need = c.words_for-need.ensures in
    let holes_are : c.make_room_to_add.new.self.book.holes ≡ m.holes = same.holes ∙ h.stands.holes could.1 in
    let fit : first_fit need m.holes ≡ Some a = (λ i. first_fit (sym need_is i) (sym holes_are i)) ∙ c.in-Ok-take.ensures.found in
    let k = c.requires.note in
    let long = (k.1).long in
    let copied = c.in-Ok.ensures in
    let numbers = c.in-Ok-from_slice.ensures in
    let noted_is = c.push_reserved.ensures.items ∙ (λ i. c.make_room_to_add.ensures.noted.0 i ++ Clause c.args.kind (copied i) (numbers i) c.args.glue a ∷ []) in
    let last = h.stands.log.last in
    let stood = line_turn g.S.Sink.written g.S.Sink.flushed g.S.Sink.target g.S.Sink.faults v t c.requires.seen h note could (k.0, k.1, k.2, k.3, fit) _ refl _ (Added (b.log.lines.last + 1) lits hints) (λ i. Added (given i) lits hints ∷ []) noted_is c.make_room_to_add.ensures.noted.1
    _ same.lines same.entries same.ended same.kept c.write_addition.new.self c.in-Ok-write_addition.ensures.put refl refl refl
    (c.in-Ok-write_addition.ensures.put.holes ∙ c.in-Ok-take.ensures.left ∙ (λ i. without_fit (need_is i) (holes_are i)) ∙ sym (ap (λ (q : Room). q.holes) (long_entry m (next_number v.opening (sheet v t).journal) lits (only v).core.ring c.args.kind long ∙ ap (with_clause (next_number v.opening (sheet v t).journal) (length lits) m) fit)))
    (omega arith) ((not_empty lits long).0 ∙ sym (not_empty lits long).1) in
    record {
      noted = noted_is;
      refused = c.make_room_to_add.ensures.noted.1;
      turn = stood.0;
      going = could;
      whole = stood.1;
    }

pub returns-in-Err-write_addition-clause-stopped : goal.returns-in-Err-write_addition-clause-stopped
returns-in-Err-write_addition-clause-stopped g c =
    let v : View = c.args.pass.now.me.0 in
    let t = c.args.self.now in
    let h = c.requires.turn in
    let could = c.in_default.ensures.going in
    let same = c.make_room_to_add.ensures.same in
    let lits : List Literal = c.args.lits.now in
    let hints : List ℕ = c.args.hints.now in
    let b = c.make_room_to_add.new.self.book in
    let given = next_given g.S.Sink.written g.S.Sink.flushed g.S.Sink.target g.S.Sink.faults v t c.requires.seen h b same.lines in
    let a : ℕ = c.in-Ok-take.address in
    let note : Note = Clause c.args.kind lits hints c.args.glue a in
    let m : Room = room v.layout v.opening (sheet v t).journal in
    let need : ℕ = words_for (length lits) in
    let need_is : c.words_for-need.result ≡ need = c.words_for-need.ensures in
    let holes_are : c.make_room_to_add.new.self.book.holes ≡ m.holes = same.holes ∙ h.stands.holes could.1 in
    let fit : first_fit need m.holes ≡ Some a = (λ i. first_fit (sym need_is i) (sym holes_are i)) ∙ c.in-Ok-take.ensures.found in
    let k = c.requires.note in
    let long = (k.1).long in
    let f = failed_turn g.S.Sink.written g.S.Sink.flushed g.S.Sink.target g.S.Sink.faults v t c.requires.seen h note could (k.0, k.1, k.2, k.3, fit) _ refl _ (Added (b.log.lines.last + 1) lits hints) (λ i. Added (given i) lits hints ∷ []) (all_on v.layout lits k.3) c.make_room_to_add.ensures.noted.0 c.make_room_to_add.ensures.noted.1
    _ same.lines same.entries same.ended same.kept c.write_addition.new.self c.in-Err-write_addition.ensures.put refl refl refl in
    record { noted = c.make_room_to_add.ensures.noted.0; refused = c.make_room_to_add.ensures.noted.1; turn = f.0; grounded = f.1; alike = λ ne. absurd (ne refl) }

pub returns-in-Err-write_addition-clause-cause : goal.returns-in-Err-write_addition-clause-cause
returns-in-Err-write_addition-clause-cause g c =
    let v : View = c.args.pass.now.me.0 in
    let t = c.args.self.now in
    let h = c.requires.turn in
    let could = c.in_default.ensures.going in
    let same = c.make_room_to_add.ensures.same in
    let lits : List Literal = c.args.lits.now in
    let m : Room = room v.layout v.opening (sheet v t).journal in
    let need : ℕ = words_for (length lits) in
    let need_is : c.words_for-need.result ≡ need = c.words_for-need.ensures in
    let holes_are : c.make_room_to_add.new.self.book.holes ≡ m.holes = same.holes ∙ h.stands.holes could.1 in
    let fit : first_fit need m.holes ≡ Some c.in-Ok-take.address = (λ i. first_fit (sym need_is i) (sym holes_are i)) ∙ c.in-Ok-take.ensures.found in
    let f = c.in-Err-write_addition.ensures.put.failed in (
      (could.0, could.1, ap (λ (s : LineState). s.spent) f.state, subst (λ (n : ℕ). Rose n (g.S.Sink.faults c.write_addition.new.self.log.lines.sink)) (λ i. g.S.Sink.faults (same.lines i).sink) f.rose),
      some_largest need m.holes c.in-Ok-take.address fit,
    )

pub overflow_cast-lits : goal.overflow_cast-lits
overflow_cast-lits g c =
    let v : View = c.args.pass.now.me.0 in
    let few = few_lits v.layout c.args.lits.now c.requires.seen.places.small (c.requires.note.1).distinct c.requires.note.3 in
    omega arith
