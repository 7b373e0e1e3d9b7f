use Rattle.std.proofs.Common.{◌≡◌, ◌∙◌, get_or, sym, ap, arith}
use Rattle.analyze.specs.declared.tracer.Note.{Note}
use Rattle.analyze.specs.Noting.{note_at}
use Rattle.analyze.proofs.Noting.{touched_few, touched_in}
use Rattle.analyze.proofs.Spreading.{IsSpread-given, IsSpread-noted, HasNotedAll-spread}
use Rattle.analyze.proofs.tracer.note_all.Goals.{in-Noted, in_default-at}
use Rattle.analyze.proofs.tracer.note_all.Goals as goal

pub returns-in_default-clause-noted : goal.returns-in_default-clause-noted
returns-in_default-clause-noted g c =
    let i = c.loop-i.invariant in
    let look = rw c.touched.ensures at c.in_default.ensures.lookup in
    HasNotedAll-spread _ c.args.trail.now c.args.table.now c.loop-i.table c.loop-i.i c.requires.shape i.spread look.3

pub at-requires : goal.at-requires
at-requires g c =
    let k = c.loop-i.invariant.spread.started.noting in
    let look = rw c.touched.ensures at c.in-Some.ensures.lookup in
    let here = look.3.1 0 in
    let lt = touched_in c.args.trail.now c.loop-i.table c.loop-i.i k look.3.0 in
    omega (arith, here, lt, k.size, c.requires.shape.short)

pub loop-i-preserved : goal.loop-i-preserved
loop-i-preserved g c =
    let i = c.loop-i.invariant in
    let k = i.spread.started.noting in
    let look = rw c.touched.ensures at c.in-Some.ensures.lookup in
    let here : c.in-Some.field-0.now ≡ get_or c.loop-i.table.touched c.loop-i.i 0 = look.3.1 0 in
    let note : note_at c.loop-i.table.values (get_or c.loop-i.table.touched c.loop-i.i 0) ≡ c.at.result =
    ap (note_at c.loop-i.table.values) (sym here) ∙ ap (λ (n : Note). get_or c.loop-i.table.values c.in-Some.field-0.now n) (sym k.blank) ∙ sym c.at.ensures in
    elim c.match-at.branch [
      | in-Noted w ↦ record {
        same = rw w.port-is (w.note_source.ensures.same ∙ i.same);
        spread = rw w.table-is (IsSpread-noted _ c.args.trail.now c.args.table.now c.loop-i.table c.loop-i.i c.requires.shape i.spread look.3.0 w.note_source.new.table _ (note ∙ w.in-Noted.is)
            (rw (i.same, here) at w.source_of-source.ensures.cause) (rw (i.same, here) at w.source_of-source.ensures.unit) w.note_source.ensures.noting (rw i.same at w.note_source.ensures.noted));
      }
      | in_default-at w ↦ record {
        same = rw w.port-is i.same;
        spread = rw w.table-is (IsSpread-given _ c.args.trail.now c.args.table.now c.loop-i.table c.loop-i.i c.requires.shape i.spread look.3.0 (λ e. w.in_default-at.not-Noted (sym note ∙ e)));
      }
    ]

pub returns-clause-noted : goal.returns-clause-noted
returns-clause-noted g c =
    let i = c.loop-i.invariant in
    let few = touched_few c.args.trail.now c.loop-i.table c.requires.shape i.spread.started.noting in
    HasNotedAll-spread _ c.args.trail.now c.args.table.now c.loop-i.table c.loop-i.i c.requires.shape i.spread (omega (arith, few, c.loop-i-test.false, c.len-i-end.ensures.len))
