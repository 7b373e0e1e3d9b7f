use Rattle.ring_pass.proofs.CellsHere.{stored_building}
use Rattle.ring_pass.proofs.MadeHere.{line_building, line_number, line_lits, line_glue, line_opened, few_lits}
use Rattle.ring_pass.proofs.additions.add_clause.Goals as goal

pub store_cell-requires-clause-building : goal.store_cell-requires-clause-building
store_cell-requires-clause-building g c = line_building c.args.pass.now.me.0 c.write_clause.new.pass.me.0 c.args.kind c.args.lits.now c.args.hints.now c.args.glue c.in_ok-line.line.cell.address c.in_ok-line.line.number c.in_ok-line.ensures.wrote c.write_clause.ensures.pass.0.3

pub store_cell-requires-clause-clause : goal.store_cell-requires-clause-clause
store_cell-requires-clause-clause g c = (
  line_number c.args.pass.now.me.0 c.write_clause.new.pass.me.0 c.args.kind c.args.lits.now c.args.hints.now c.args.glue c.in_ok-line.line.cell.address c.in_ok-line.line.number c.in_ok-line.ensures.wrote c.write_clause.ensures.pass.0.3,
  line_lits c.args.pass.now.me.0 c.write_clause.new.pass.me.0 c.args.kind c.args.lits.now c.args.hints.now c.args.glue c.in_ok-line.line.cell.address c.in_ok-line.line.number c.in_ok-line.ensures.wrote c.write_clause.ensures.pass.0.3,
)

pub store_cell-requires-clause-glue : goal.store_cell-requires-clause-glue
store_cell-requires-clause-glue g c = line_glue c.args.pass.now.me.0 c.write_clause.new.pass.me.0 c.args.kind c.args.lits.now c.args.hints.now c.args.glue c.in_ok-line.line.cell.address c.in_ok-line.line.number c.in_ok-line.ensures.wrote c.write_clause.ensures.pass.0.3

pub store_cell-requires-clause-few : goal.store_cell-requires-clause-few
store_cell-requires-clause-few g c = few_lits c.args.pass.now.me.0 c.requires.pass.0.3 c.args.lits.now c.requires.long c.requires.on

pub open_cell-requires-clause-building : goal.open_cell-requires-clause-building
open_cell-requires-clause-building g c =
    stored_building c.write_clause.new.pass.me.0 c.store_cell.new.pass.me.0 c.in_ok-line.line.cell.address c.store_cell.ensures.stored
    (line_building c.args.pass.now.me.0 c.write_clause.new.pass.me.0 c.args.kind c.args.lits.now c.args.hints.now c.args.glue c.in_ok-line.line.cell.address c.in_ok-line.line.number c.in_ok-line.ensures.wrote c.write_clause.ensures.pass.0.3)

pub returns-clause-added : goal.returns-clause-added
returns-clause-added g c =
    line_opened c.args.pass.now.me.0 c.write_clause.new.pass.me.0 c.args.kind c.args.lits.now c.args.hints.now c.args.glue c.in_ok-line.line.cell.address c.in_ok-line.line.number c.in_ok-line.ensures.wrote c.write_clause.ensures.pass.0.3
    c.store_cell.new.pass.me.0 c.open_cell.new.pass.me.0 c.store_cell.ensures.stored c.open_cell.ensures.part
