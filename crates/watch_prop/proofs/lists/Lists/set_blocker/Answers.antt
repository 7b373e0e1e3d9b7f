use Rattle.std.proofs.Common.{ℕ, ◌<◌, List, [], get_or, sym, ap, subst, ◌∙◌, arith}
use Rattle.std.proofs.Math.ListN.{set}
use Rattle.sat_words.specs.Literal.{code_of}
use Rattle.watch_prop.specs.declared.watch.Watcher.{Watcher}
use Rattle.watch_prop.specs.Lists.{Reblocked}
use Rattle.watch_prop.specs.Layout.{ListData}
use Rattle.watch_prop.proofs.ListsLemmas.{Reblocked-set}
use Rattle.watch_prop.proofs.LayoutLemmas.{rows-are, stretch-at, list-len, slot-at, rows-change}
use Rattle.watch_prop.proofs.lists.Lists.set_blocker.Goals as goal

pub returns-clause-reblocked : goal.returns-clause-reblocked
returns-clause-reblocked c =
    let xs = c.self.inside.watchers.items in
    let ss = c.self.inside.stretches.items in
    let w = c.args.self.now in
    let l = c.args.lit in
    let i = code_of l in
    let s = c.index.result.now in
    let is = c.self.view_is in
    let laid = c.self.invariant in
    let at = stretch-at xs ss w is i s c.requires.in_range (c.index.ensures ∙ ap (λ (n : ℕ). get_or ss n s) c.code.ensures) in
    let x : Watcher = record { slot = c.index-2.result.now.slot; blocker = c.args.blocker } in
    let inside : c.args.place < s.len = (let q = c.requires.there in omega (arith, q, list-len xs ss w is l s laid at)) in
    let rows = rows-change xs ss laid i s at c.args.place x inside ∙ ap (λ (rs : List (List Watcher)). set rs i (set (get_or rs i []) c.args.place x)) (rows-are xs ss w is) in
    subst (λ (rs : List (List Watcher)). Reblocked w.rows rs l c.args.place c.args.blocker) (sym rows)
    (Reblocked-set w.rows l c.args.place x c.requires.in_range c.requires.there (slot-at xs ss w is l s c.args.place c.index-2.result.now laid at inside c.index-2.ensures))

pub returns-clause-rooms : goal.returns-clause-rooms
returns-clause-rooms c = ap (λ (x : ListData). x.rooms) c.self.view_is
