use Rattle.std.proofs.Common.{◌≡◌, ◌++◌, take}
use Rattle.share_core.proofs.items.Items.extend.Given as goal

abbrev pub invariant-loop-item : goal.invariant-loop-item
invariant-loop-item g l = l.self-inside.items.items ≡ l.fn.self ++ take l.item-index l.items
