use Rattle.watch_prop.proofs.Packing.{slots_freed}
use Rattle.watch_prop.proofs.slots.Slots.free.Goals as goal

pub returns : goal.returns
returns c = slots_freed c.self.inside.items.items c.args.self.now c.args.index c.index-slot.result.now c.self.view_is
