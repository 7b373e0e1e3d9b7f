use Rattle.std.proofs.Common.{◌≡◌, ◌∙◌, ◌+◌, ◌%◌, ◌^◌, List, ap}
use Rattle.std.specs.Prelude.{slice_index_or}
use Rattle.sat_words.specs.Literal.{Literal}
use Rattle.share_rule.specs.Views.{clause_in, clause_of, no_part}
use Rattle.test_table.specs.Reads.{code_sum}
use Rattle.test_table.proofs.Summing.{sum_again}
use Rattle.test_table.proofs.trades.sum_of_reads.Goals as goal

pub loop-done-preserved : goal.loop-done-preserved
loop-done-preserved g c =
    let i = c.loop-done.invariant in
    let e = c.sum_of_cell-sum.ensures in
    let lits : List Literal = (clause_of c.args.ring.now.cell.address c.args.ring.now.pass.me.0).lits in
    let same : (clause_of c.loop-done.ring.cell.address c.loop-done.ring.pass.me.0).lits ≡ lits = λ j. (clause_in (i.2 j).address (slice_index_or (i.1 j) 0 no_part).core.held).lits in (
      e.pass,
      e.same.0 ∙ i.1,
      e.same.1 ∙ i.2,
      e.sum ∙ ap (λ (ls : List Literal). (c.loop-done.sum + code_sum ls) % 2 ^ 64) same ∙ sum_again c.loop-done._done c.loop-done.sum (code_sum lits) (2 ^ 64) i.3,
    )
