use Rattle.std.proofs.Common.{◌≡◌, ◌∙◌, length-append, get_or, refl, sym, ap, ℕ, arith}
use Rattle.analyze.specs.declared.tracer.Note.{Note}
use Rattle.analyze.specs.Noting.{note_at}
use Rattle.analyze.proofs.Noting.{touched_few, touched_in}
use Rattle.analyze.proofs.Ordering.{ordered_given, ordered_noted, AreInTrailOrder-from}
use Rattle.analyze.proofs.Climbing.{IsClimbed-none, IsClimbed-given, IsClimbed-noted, climbed_all}
use Rattle.analyze.proofs.tracer.write_hints.Goals.{in-Noted, in_default}
use Rattle.analyze.proofs.tracer.write_hints.Goals as goal

pub loop-place-init : goal.loop-place-init
loop-place-init g c = record {
  same = refl;
  room = c.clear.ensures.capacity;
  few = rw c.clear.ensures.items (omega arith);
  climbed = λ A start. rw c.clear.ensures.items (IsClimbed-none _ _ _ _ c.args.table.now.touched);
  ordered = rw c.clear.ensures.items tt;
}

pub at-requires : goal.at-requires
at-requires g c =
    let lt = rw c.touched-place-items.ensures at c.loop-place-test.true in
    let here = touched_in c.args.trail.now c.args.table.now c.loop-place.place-index c.requires.noting lt in
    rw c.touched-place-items.ensures (omega (arith, here, c.requires.noting.size, c.requires.shape.short))

pub push_reserved-requires : goal.push_reserved-requires
push_reserved-requires g c =
    let i = c.loop-place.invariant in
    let lt = rw c.touched-place-items.ensures at c.loop-place-test.true in
    let few = touched_few c.args.trail.now c.args.table.now c.requires.shape c.requires.noting in
    omega (arith, i.few, lt, few, c.requires.shape.short, c.requires.room, i.room)

pub loop-place-preserved : goal.loop-place-preserved
loop-place-preserved g c =
    let i = c.loop-place.invariant in
    let m = c.args.table.now in
    let at = c.loop-place.place-index in
    let lt = rw c.touched-place-items.ensures at c.loop-place-test.true in
    let here : ℕ = get_or m.touched at 0 in
    let note : note_at m.values (get_or m.touched at 0) ≡ c.at.result =
    ap (λ (n : Note). get_or m.values (get_or m.touched at 0) n) (sym c.requires.noting.blank) ∙ sym (rw c.touched-place-items.ensures at c.at.ensures) in
    elim c.match-at.branch [
      | in-Noted w ↦ (
          let noted = note ∙ w.in-Noted.is in
          let cause = rw (i.same, c.touched-place-items.ensures) at w.source_of-source.ensures.cause in
          let unit = rw c.touched-place-items.ensures at w.source_of-source.ensures.unit in
          record {
            same = rw w.port-is (w.number_of-number.ensures.same ∙ i.same);
            room = rw w.hints-is (w.push_reserved.ensures.capacity ∙ i.room);
            few = rw (w.hints-is, w.push_reserved.ensures.items, length-append) (omega (arith, i.few));
            climbed = λ A start. rw (w.hints-is, w.push_reserved.ensures.items) (IsClimbed-noted _ c.args.trail.now A m _ c.requires.shape c.requires.noting start at c.loop-place.hints.items lt (i.climbed A start)
                w.number_of-number.result _ c.requires.rising noted (rw i.same at w.number_of-number.ensures.names) (rw i.same at unit) (c.requires.closed (get_or m.touched at 0) noted _ cause));
            ordered = rw (w.hints-is, w.push_reserved.ensures.items) (ordered_noted _ c.args.trail.now.steps m.values m.touched at c.loop-place.hints.items lt i.ordered w.number_of-number.result noted (record {
              in_range = touched_in c.args.trail.now m at c.requires.noting lt;
              lits = _;
              cause = cause;
              names = rw i.same at w.number_of-number.ensures.names;
            }));
          })
      | in_default w ↦ record {
        same = rw w.port-is i.same;
        room = rw w.hints-is i.room;
        few = rw w.hints-is (omega (arith, i.few));
        climbed = λ A start. rw w.hints-is (IsClimbed-given _ c.args.trail.now A m _ c.requires.shape c.requires.noting start at c.loop-place.hints.items lt (i.climbed A start) (λ e. w.in_default.not-Noted (sym note ∙ e)));
        ordered = rw w.hints-is (ordered_given _ c.args.trail.now.steps m.values m.touched at c.loop-place.hints.items lt i.ordered (λ e. w.in_default.not-Noted (sym note ∙ e)));
      }
    ]

pub push_reserved-requires-2 : goal.push_reserved-requires-2
push_reserved-requires-2 g c =
    let i = c.loop-place.invariant in
    let le = c.loop-place.auto.place-index-end in
    let few = touched_few c.args.trail.now c.args.table.now c.requires.shape c.requires.noting in
    omega (arith, i.few, rw c.touched-place-items.ensures at le, few, c.requires.shape.short, c.requires.room, i.room)

pub returns-clause-hints : goal.returns-clause-hints
returns-clause-hints g c =
    let i = c.loop-place.invariant in
    λ A start. rw c.push_reserved-2.ensures.items (climbed_all _ c.args.trail.now A c.args.table.now _ c.requires.shape c.requires.noting start c.loop-place.place-index c.loop-place.hints.items _
    (rw c.touched-place-items.ensures at c.loop-place-test.false) (i.climbed A start) (rw i.same at c.number_of-number-2.ensures.names))

pub returns-clause-order : goal.returns-clause-order
returns-clause-order g c =
    let i = c.loop-place.invariant in
    rw c.push_reserved-2.ensures.items (AreInTrailOrder-from c.args.trail.now.steps c.args.trail.now.vars c.args.table.now c.requires.noting _ _ c.loop-place.place-index c.loop-place.hints.items _ c.requires.rising
    (rw c.touched-place-items.ensures at c.loop-place-test.false) i.ordered (rw i.same at c.number_of-number-2.ensures.names) c.requires.used)
