use Rattle.std.proofs.Common.{◌≡◌, ◌∙◌, Bool, sym, ap, arith, get_or, false}
use Rattle.ring_trail.specs.TrailData.{IsPlaceOf}
use Rattle.analyze.specs.Marks.{marked}
use Rattle.analyze.proofs.Marking.{room_touched, IsMarking-set, HasMarked-set}
use Rattle.analyze.proofs.walk.mark.Goals as goal
use Rattle.analyze.proofs.walk.mark.Goals.{After-level_at-at}

place_is : (c : After-level_at-at) → IsPlaceOf c.args.trail.now.steps c.args.lit.var c.in-Some.place
place_is c = rw c.var.ensures.value at c.in-Some.ensures.place

off : (c : After-level_at-at) → marked c.args.marks.now.values c.in-Some.place ≡ false
off c = ap (λ (b : Bool). get_or c.args.marks.now.values c.in-Some.place b) (sym c.requires.marking.blank) ∙ sym c.at.ensures ∙ c.if-at.false

pub mark-requires-clause-room : goal.mark-requires-clause-room
mark-requires-clause-room c =
    let a = (goal.at.mark-requires-clause-room c).After-level_at-at in
    let r = room_touched c.args.trail.now c.args.level c.args.marks.now c.requires.shape c.requires.marking c.in-Some.place (place_is a).in_range (off a) in
    omega (arith, r, c.requires.marking.size)

pub returns-clause-marking : goal.returns-clause-marking
returns-clause-marking c =
    let a = (goal.at.returns-clause-marking c).After-level_at-at in
    rw c.mark.ensures
    (IsMarking-set c.args.trail.now c.args.level c.args.marks.now c.requires.shape c.requires.marking c.in-Some.place (place_is a).in_range (off a)
    (omega (arith, c.if-at-eq0.false, c.level_at-at.ensures)) (c.requires.can.within c.in-Some.place (omega arith) (place_is a).var))

pub returns-clause-marks : goal.returns-clause-marks
returns-clause-marks c =
    let a = (goal.at.returns-clause-marks c).After-level_at-at in
    rw (c.mark.ensures, c.level_at-at.ensures)
    (HasMarked-set c.args.trail.now c.args.level c.args.marks.now c.requires.shape c.requires.marking c.in-Some.place (place_is a).in_range (off a)
    c.args.bound c.args.lit (omega arith) c.requires.bound (place_is a) c.requires.can (omega (arith, c.if-at-eq0.false, c.level_at-at.ensures)))
