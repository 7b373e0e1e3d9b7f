use Rattle.std.proofs.Common.{◌≡◌, ◌∙◌, false, sym, ap, arith, get_or}
use Rattle.analyze.specs.Noting.{is_found_note, is_found_at}
use Rattle.analyze.specs.declared.tracer.Note.{Note}
use Rattle.analyze.proofs.Noting.{room_noted, IsNoting-set, HasNoted-set}
use Rattle.analyze.proofs.tracer.note_lit.Goals.{In-Free}
use Rattle.analyze.proofs.tracer.note_lit.Goals as goal

off : (c : In-Free) → is_found_at c.args.table.now.values c.in-Some.place ≡ false
off c = ap is_found_note (ap (λ (n : Note). get_or c.args.table.now.values c.in-Some.place n) (sym c.requires.noting.blank) ∙ sym c.at.ensures ∙ c.in-Free.is)

pub mark-requires-clause-room : goal.mark-requires-clause-room
mark-requires-clause-room c =
    let a = (goal.at.mark-requires-clause-room c).In-Free in
    let r = room_noted c.args.trail.now c.args.table.now c.requires.shape c.requires.noting c.in-Some.place c.in-Some.ensures.place.0 (off a) c.args.note in
    omega (arith, r, c.requires.noting.size)

pub returns-in-Free-clause-noting : goal.returns-in-Free-clause-noting
returns-in-Free-clause-noting c =
    let a = (goal.at.returns-in-Free-clause-noting c).In-Free in
    rw c.mark.ensures (IsNoting-set c.args.trail.now c.args.table.now c.requires.shape c.requires.noting c.in-Some.place c.in-Some.ensures.place.0 (off a) c.args.note c.requires.note)

pub returns-in-Free-clause-noted : goal.returns-in-Free-clause-noted
returns-in-Free-clause-noted c =
    let a = (goal.at.returns-in-Free-clause-noted c).In-Free in
    rw c.mark.ensures (HasNoted-set c.args.trail.now c.args.table.now c.requires.shape c.requires.noting c.in-Some.place c.in-Some.ensures.place.0 (off a) c.args.note c.requires.note c.args.lit c.in-Some.ensures.place.1)
