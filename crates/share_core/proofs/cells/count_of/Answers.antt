use Rattle.std.proofs.Common.{◌∙◌, sym, ap}
use Rattle.share_core.specs.State.{count_at}
use Rattle.share_core.proofs.Places.{found_placed, found_missing}
use Rattle.share_core.proofs.cells.count_of.Goals as goal

pub returns-in-Some : goal.returns-in-Some
returns-in-Some c = sym (ap count_at (found_placed c.args.address c.args.cells.now c.in-Some.i c.index-cells-i.result (sym c.place_of.ensures ∙ c.in-Some.is)))

pub returns-in-None : goal.returns-in-None
returns-in-None c = sym (ap count_at (found_missing c.args.address 0 c.args.cells.now (sym c.place_of.ensures ∙ c.in-None.is)).0)
