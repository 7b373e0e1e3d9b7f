use Rattle.std.proofs.Common.{sym, ◌∙◌}
use Rattle.ring_port.proofs.Units.{number_there, number_nowhere}
use Rattle.ring_port.proofs.opening_units.number_of.Goals as goal

pub returns-in-Some : goal.returns-in-Some
returns-in-Some c = number_there c.args.told.now c.args.lit c.in-Some.place c.index-told-place.result (sym c.place_of.ensures ∙ c.in-Some.is) c.index-told-place.is

pub returns-in-None : goal.returns-in-None
returns-in-None c = number_nowhere c.args.told.now c.args.lit (sym c.place_of.ensures ∙ c.in-None.is)
