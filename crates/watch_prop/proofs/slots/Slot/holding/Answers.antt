use Rattle.std.proofs.Common.{◌+◌, ◌*◌, ◌∙◌, ℕ, ap}
use Rattle.watch_prop.specs.Packed.{watch_in}
use Rattle.watch_prop.proofs.Packing.{holding}
use Rattle.watch_prop.proofs.slots.Slot.holding.Goals as goal

pub returns : goal.returns
returns c =
    ap (λ (n : ℕ). watch_in record { first = c.args.watch.first; second = c.args.watch.second; word = 2 * c.args.watch.clause.address + 1 + n }) c.from.ensures ∙ holding c.args.watch
