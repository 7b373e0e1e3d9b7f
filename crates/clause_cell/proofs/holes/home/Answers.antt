use Rattle.std.proofs.Common.{ℕ, ◌+◌, ◌-◌, ◌/◌, ◌<◌, arith}
use Rattle.clause_cell.specs.Blocks.{end_of}
use Rattle.clause_cell.proofs.Steps.{earlier_more}
use Rattle.clause_cell.proofs.holes.home.Goals as goal

pub loop-low-preserved-then-end-first : goal.loop-low-preserved-then-end-first
loop-low-preserved-then-end-first c =
    let i = c.loop-low.invariant in
    let test = c.loop-low-test.true in
    let high = i.inside in
    let middle : ℕ = c.loop-low.low + (c.loop-low.high - c.loop-low.low) / 2 in
    let less : end_of c.index-blocks-middle.result < c.args.first = (let e = c.end.ensures in let t = c.if-end-first.true in omega arith) in
    record {
      order = omega arith;
      inside = i.inside;
      before = earlier_more c.args.first c.args.blocks.now middle c.index-blocks-middle.result c.requires.blocks (omega arith) c.index-blocks-middle.is less;
      beyond = i.beyond;
    }
