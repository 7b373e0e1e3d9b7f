use Rattle.std.proofs.Common.{ℕ, ◌<◌, ◌+◌, ◌-◌, List, [], length, get_or, map, refl, sym, ap, subst, ◌∙◌, arith}
use Rattle.std.proofs.Math.ListN.{set}
use Rattle.std.specs.List.{swap_remove}
use Rattle.sat_words.specs.Literal.{code_of}
use Rattle.watch_prop.specs.declared.watch.Watcher.{Watcher}
use Rattle.watch_prop.specs.declared.stretches.Stretch.{Stretch}
use Rattle.watch_prop.specs.Lists.{Removed}
use Rattle.watch_prop.specs.Layout.{ListData, row_of, AreLaid}
use Rattle.watch_prop.proofs.ListsLemmas.{Removed-set}
use Rattle.watch_prop.proofs.LayoutLemmas.{rooms-kept, rows-are, stretch-at, list-len, rows-take, laid-len}
use Rattle.watch_prop.proofs.lists.Lists.take.Goals as goal

pub returns-clause-removed : goal.returns-clause-removed
returns-clause-removed c =
    let xs = c.self.inside.watchers.items in
    let ss = c.self.inside.stretches.items in
    let w = c.args.self.now in
    let l = c.args.lit in
    let i = code_of l in
    let s = c.index-stretch.result.now in
    let is = c.self.view_is in
    let code = c.code-code.ensures in
    let laid = c.self.invariant in
    let at = stretch-at xs ss w is i s c.requires.in_range (c.index-stretch.ensures ∙ ap (λ (n : ℕ). get_or ss n s) code) in
    let new : Stretch = record { start = s.start; len = s.len - 1; room = s.room } in
    let p = s.start + c.args.place in
    let x = c.index-last.result.now in
    let inside : c.args.place < s.len = (let q = c.requires.there in omega (arith, q, list-len xs ss w is l s laid at)) in
    let rows = ap (λ (n : ℕ). map (row_of (set xs p x)) (set ss n new)) code
    ∙ ap (λ (y : Watcher). map (row_of (set xs p y)) (set ss i new)) c.index-last.ensures
    ∙ rows-take xs ss laid i s at c.args.place x inside
    ∙ ap (λ (rs : List (List Watcher)). set rs i (swap_remove (get_or rs i []) c.args.place x)) (rows-are xs ss w is) in
    subst (λ (rs : List (List Watcher)). Removed w.rows rs l c.args.place) (sym rows) (Removed-set w.rows l c.args.place x c.requires.in_range c.requires.there)

pub returns-clause-rooms : goal.returns-clause-rooms
returns-clause-rooms c =
    let xs = c.self.inside.watchers.items in
    let ss = c.self.inside.stretches.items in
    let w = c.args.self.now in
    let s = c.index-stretch.result.now in
    let is = c.self.view_is in
    let i = c.code-code.result in
    rooms-kept ss i s _ (stretch-at xs ss w is i s (subst (λ (n : ℕ). n < length w.rows) (sym c.code-code.ensures) c.requires.in_range) c.index-stretch.ensures) refl ∙ ap (λ (x : ListData). x.rooms) is

pub invariant_of-self : goal.invariant_of-self
invariant_of-self c =
    let xs = c.self.inside.watchers.items in
    let ss = c.self.inside.stretches.items in
    let w = c.args.self.now in
    let i = code_of c.args.lit in
    let s = c.index-stretch.result.now in
    let is = c.self.view_is in
    let code = c.code-code.ensures in
    let at = stretch-at xs ss w is i s c.requires.in_range (c.index-stretch.ensures ∙ ap (λ (n : ℕ). get_or ss n s) code) in
    let few = c.self.invariant.few i s at in
    subst (λ (n : ℕ). AreLaid (set xs (s.start + c.args.place) c.index-last.result.now) (set ss n record { start = s.start; len = s.len - 1; room = s.room })) (sym code)
    (laid-len xs ss c.self.invariant i s at (s.start + c.args.place) c.index-last.result.now (s.len - 1) (omega (arith, few)))
