use Rattle.std.proofs.Common.{◌∙◌, ◌++◌, ◌∷◌, [], List, Option, ap, map}
use Rattle.std.proofs.lemmas.List.{map_push}
use Rattle.watch_prop.specs.declared.watch.Watch.{Watch}
use Rattle.watch_prop.specs.declared.slots.Slot.{Slot}
use Rattle.watch_prop.specs.Packed.{watch_in}
use Rattle.watch_prop.proofs.slots.Slots.push.Goals as goal

pub returns-clause-ok : goal.returns-clause-ok
returns-clause-ok c =
    ap (λ (xs : List Slot). map watch_in xs) c.in_ok-push.ensures.items
    ∙ map_push watch_in c.self.inside.items.items c.holding.result
    ∙ ap (λ (ws : List (Option Watch)). ws ++ watch_in c.holding.result ∷ []) c.self.view_is
    ∙ ap (λ (o : Option Watch). c.args.self.now ++ o ∷ []) c.holding.ensures
