use Rattle.share_rule.specs.Passes.{IsPassOf, IsSamePass}
use Rattle.share_rule.specs.Views.{only}
use Rattle.ring_pass.specs.Cells.{Stored}
use Rattle.ring_pass.proofs.CellsHere.{HasWords}
use Rattle.ring_pass.proofs.cells.store_cell.Given as goal

abbrev pub invariant-loop-i : goal.invariant-loop-i
invariant-loop-i g l = record {
  pass : IsPassOf l.table l.pass;
  same : IsSamePass l.initial.pass l.pass;
  stored : Stored l.initial.pass.me.0 l.pass.me.0;
  words : HasWords (only l.pass.me.0).stored l.cell.address l.number l.glue l.lits l.i;
}
