use Rattle.watch_prop.proofs.Packing.{slots_relit}
use Rattle.watch_prop.proofs.slots.Slots.set_literals.Goals as goal

pub returns : goal.returns
returns c =
    slots_relit c.self.inside.items.items c.args.self.now c.args.index c.index-slot.result.now c.args.first c.args.second c.self.view_is c.requires c.index-slot.ensures
