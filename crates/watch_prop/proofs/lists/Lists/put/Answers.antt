use Rattle.std.proofs.Common.{◌+◌, List, [], ◌∷◌, ◌++◌, get_or, ap, refl, ◌∙◌, arith}
use Rattle.std.proofs.Math.ListN.{set}
use Rattle.watch_prop.specs.declared.watch.Watcher.{Watcher}
use Rattle.watch_prop.specs.Layout.{ListData}
use Rattle.watch_prop.proofs.LayoutLemmas.{rooms-kept, rows-are, stretch-at, room-free, rows-put, laid-len}
use Rattle.watch_prop.proofs.lists.Lists.put.Goals as goal

pub returns-clause-rows : goal.returns-clause-rows
returns-clause-rows c =
    let xs = c.self.inside.watchers.items in
    let ss = c.self.inside.stretches.items in
    let w = c.args.self.now in
    let i = c.args.code in
    let s = c.index-stretch.result.now in
    let is = c.self.view_is in
    let at = stretch-at xs ss w is i s c.requires.in_range c.index-stretch.ensures in
    rows-put xs ss c.self.invariant i s at c.args.watcher (room-free xs ss w is i s c.self.invariant at c.requires.room)
    ∙ ap (λ (rs : List (List Watcher)). set rs i (get_or rs i [] ++ c.args.watcher ∷ [])) (rows-are xs ss w is)

pub returns-clause-rooms : goal.returns-clause-rooms
returns-clause-rooms c =
    let xs = c.self.inside.watchers.items in
    let ss = c.self.inside.stretches.items in
    let w = c.args.self.now in
    let s = c.index-stretch.result.now in
    let is = c.self.view_is in
    rooms-kept ss c.args.code s _ (stretch-at xs ss w is c.args.code s c.requires.in_range c.index-stretch.ensures) refl ∙ ap (λ (x : ListData). x.rooms) is

pub invariant_of-self : goal.invariant_of-self
invariant_of-self c =
    let xs = c.self.inside.watchers.items in
    let ss = c.self.inside.stretches.items in
    let w = c.args.self.now in
    let i = c.args.code in
    let s = c.index-stretch.result.now in
    let is = c.self.view_is in
    let at = stretch-at xs ss w is i s c.requires.in_range c.index-stretch.ensures in
    let free = room-free xs ss w is i s c.self.invariant at c.requires.room in
    laid-len xs ss c.self.invariant i s at (s.start + s.len) c.args.watcher (s.len + 1) (omega (arith, free))
