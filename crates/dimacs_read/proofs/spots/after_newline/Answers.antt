use Rattle.std.proofs.Common.{false, true}
use Rattle.dimacs_read.proofs.Steps.{line_leads, line_stops, mark_stops}
use Rattle.dimacs_read.proofs.spots.after_newline.Goals as goal

pub returns-then-byte-eq37-clause-stops : goal.returns-then-byte-eq37-clause-stops
returns-then-byte-eq37-clause-stops c = mark_stops c.args.body.now c.args.byte c.stop_at_mark.result c.if-byte-eq37.true c.requires.lawful c.stop_at_mark.ensures

pub returns-in-Digit-clause-leads : goal.returns-in-Digit-clause-leads
returns-in-Digit-clause-leads c =
    let kind = rw c.in-Digit.is at c.requires.kind in
    line_leads c.after_blank.result c.args.body.now c.args.byte true kind.0 c.if-byte-eq99.false c.if-byte-eq37.false c.after_blank.ensures

pub returns-in-Digit-clause-stops : goal.returns-in-Digit-clause-stops
returns-in-Digit-clause-stops c =
    let kind = rw c.in-Digit.is at c.requires.kind in
    line_stops c.after_blank.result c.args.body.now c.args.byte true kind.0 c.if-byte-eq99.false c.if-byte-eq37.false c.after_blank.ensures

pub returns-in-Other-clause-leads : goal.returns-in-Other-clause-leads
returns-in-Other-clause-leads c =
    line_leads c.after_blank-in-Other.result c.args.body.now c.args.byte false (rw c.in-Other.is at c.requires.kind) c.if-byte-eq99.false c.if-byte-eq37.false c.after_blank-in-Other.ensures

pub returns-in-Other-clause-stops : goal.returns-in-Other-clause-stops
returns-in-Other-clause-stops c =
    line_stops c.after_blank-in-Other.result c.args.body.now c.args.byte false (rw c.in-Other.is at c.requires.kind) c.if-byte-eq99.false c.if-byte-eq37.false c.after_blank-in-Other.ensures
