use Rattle.std.proofs.Common.{rules, ◌∙◌, List, Option, ap, map}
use Rattle.std.specs.List.{filter}
use Rattle.std.specs.Option.{is_some}
use Rattle.std.proofs.lemmas.Fn.{filter_same}
use Rattle.watch_prop.specs.declared.watch.Watch.{Watch}
use Rattle.watch_prop.specs.declared.slots.Slot.{Slot}
use Rattle.watch_prop.specs.Packed.{watch_in}
use Rattle.watch_prop.proofs.Packing.{is_used, slots_used}
use Rattle.watch_prop.proofs.slots.Slots.keep_used.Goals as goal

pub returns : goal.returns
returns c =
    ap (λ (xs : List Slot). map watch_in xs) (filter_same _ is_used _ (λ x b f k. search rules) _ _ c.retain.ensures.filtered)
    ∙ slots_used c.self.inside.items.items
    ∙ ap (λ (ws : List (Option Watch)). filter is_some ws) c.self.view_is
