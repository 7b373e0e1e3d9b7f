use Rattle.std.proofs.Common.{◌∙◌}
use Rattle.watch_prop.proofs.Packing.{slot_read}
use Rattle.watch_prop.proofs.slots.Slots.get.Goals as goal

pub returns : goal.returns
returns c =
    c.read.ensures ∙ slot_read c.self.inside.items.items c.args.self.now c.args.index c.index-slot.result.now c.self.view_is c.requires c.index-slot.ensures
