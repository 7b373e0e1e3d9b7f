use Rattle.std.proofs.Common.{◌∙◌, sym, ap}
use Rattle.std.specs.Option.{is_none}
use Rattle.share_core.proofs.Places.{found_placed, found_missing, empty_cell}
use Rattle.share_core.proofs.cells.is_free.Goals as goal

pub returns-in-Some : goal.returns-in-Some
returns-in-Some c = sym (ap is_none (found_placed c.args.address c.args.cells.now c.in-Some.field-0 empty_cell (sym c.place_of.ensures ∙ c.in-Some.is)))

pub returns-in-None : goal.returns-in-None
returns-in-None c = sym (ap is_none (found_missing c.args.address 0 c.args.cells.now (sym c.place_of.ensures ∙ c.in-None.is)).0)
