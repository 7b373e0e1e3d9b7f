use Rattle.std.proofs.Common.{◌≡◌, ◌∙◌, ◌+◌, refl, sym, ap, subst}
use Rattle.sat_words.specs.Literal.{Literal}
use Rattle.share_core.specs.Events.{wrote_part}
use Rattle.share_rule.specs.Views.{only}
use Rattle.test_units.specs.Doings.{GaveTurn, HasWritten, unit_line}
use Rattle.test_units.specs.Samples.{IsWriter, plus}
use Rattle.test_units.specs.declared.writers.Writer.{Writer}
use Rattle.test_units.proofs.Counting.{written_more, written_same}
use Rattle.test_units.proofs.writers.write_often.Goals.{in-Some, in_default}
use Rattle.test_units.proofs.writers.write_often.Goals as goal

pub loop-preserved : goal.loop-preserved
loop-preserved g c =
    let o = c.args.writer.now in
    let t = c.args.table.now in
    let l = c.loop.writer in
    let i = c.loop.invariant in
    let e = c.write_unit-given.ensures in
    let P : Writer g.row.S.Denot g.S.Sink → Type 0 = λ x. IsWriter t x.ring.pass x.ring.ring (plus 2) × (x.ring.ring ≡ o.ring.ring) × HasWritten (plus 2) (c.loop.counter + 1) o x in
    let u : Writer g.row.S.Denot g.S.Sink = record { ring = c.write_unit-given.new.ring; written = l.written; last = l.last; sum = l.sum } in
    let is : IsWriter t u.ring.pass u.ring.ring (plus 2) = subst (IsWriter t u.ring.pass u.ring.ring) c.new.ensures e.writer in
    elim c.match-given.branch [
      | in-Some w ↦
          let n = w.in-Some.number in
          let part = w.in-Some.ensures.part in
          let r = w.note.ensures.same in
          subst P (sym w.writer-is) (
            subst (λ q. IsWriter t q.pass q.ring (plus 2)) (sym r) is,
            ap (λ q. q.ring) r ∙ e.same ∙ i.1,
            written_more (plus 2) c.loop.counter o l w.note.new.writer part.0 n i.2 i.1
                (ap (λ q. (only q.pass.me.0).core) r ∙ part.1 ∙ ap (λ (k : Literal). wrote_part part.0 (unit_line l.ring.ring k n) (only l.ring.pass.me.0).core) c.new.ensures)
                (subst (λ q. GaveTurn q.pass.me.0) (sym r) e.gave) w.note.ensures.written w.note.ensures.last w.note.ensures.sum,
          )
      | in_default w ↦ subst P (sym w.writer-is) (is, e.same ∙ i.1, written_same (plus 2) c.loop.counter o l u i.2 w.in_default.ensures.part e.gave refl refl refl)
    ]
