use Rattle.std.proofs.Common.{◌∙◌, ◌+◌, ◌-◌, ◌^◌, min, sym, ap, arith}
use Rattle.std.proofs.lemmas.Bool.{lt-ltb, le-ltb}
use Rattle.std.specs.Prelude.{Bool}
use Rattle.rup_model.specs.Basics.{one_if}
use Rattle.test_units.specs.declared.writers.Writer.{Writer}
use Rattle.test_units.proofs.writers.note.Goals.{then-number-writer, else-number-writer}
use Rattle.test_units.proofs.writers.note.Goals as goal

pub returns-clause-written : goal.returns-clause-written
returns-clause-written g c =
    let o = c.args.writer.now in
    elim c.if-number-writer.branch [
      | then-number-writer w ↦ ap (λ (x : Writer g.row.S.Denot g.S.Sink). x.written) w.writer-is ∙ w.saturating_add-writer.ensures ∙ sym (ap (λ (b : Bool). min (o.written + one_if b) (2 ^ 64 - 1)) (lt-ltb o.last c.args.number w.if-number-writer.true))
      | else-number-writer w ↦ ap (λ (x : Writer g.row.S.Denot g.S.Sink). x.written) w.writer-is ∙ omega (arith, ap one_if (le-ltb o.last c.args.number w.if-number-writer.false))
    ]
