use Rattle.std.proofs.Common.{◌∙◌, ◌-◌, ◌^◌}
use Rattle.test_units.specs.declared.writers.Writer.{Writer}
use Rattle.test_units.proofs.Summing.{capped_more, greatest_more}
use Rattle.test_units.proofs.writers.told_by.Goals as goal

pub loop-writer-preserved : goal.loop-writer-preserved
loop-writer-preserved g c =
    let l = c.loop-writer in
    let i = l.invariant in
    let w : Writer g.row.S.Denot g.S.Sink = c.writer-item.result in
    record {
      written = c.saturating_add-written.ensures ∙ capped_more (λ (x : Writer g.row.S.Denot g.S.Sink). x.written) c.args.writers.now l.writer-index l.written (2 ^ 64 - 1) w w c.loop-writer-test.true c.writer-item.is i.written;
      last = c.max-last.ensures ∙ greatest_more (λ (x : Writer g.row.S.Denot g.S.Sink). x.last) c.args.writers.now l.writer-index l.last w w c.loop-writer-test.true c.writer-item.is i.last;
      sum = c.saturating_add-sum.ensures ∙ capped_more (λ (x : Writer g.row.S.Denot g.S.Sink). x.sum) c.args.writers.now l.writer-index l.sum (2 ^ 64 - 1) w w c.loop-writer-test.true c.writer-item.is i.sum;
    }
