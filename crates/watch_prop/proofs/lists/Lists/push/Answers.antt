use Rattle.std.proofs.Common.{ℕ, List, [], ◌∷◌, ◌++◌, get_or, sym, ap, subst, ◌∙◌}
use Rattle.std.proofs.Math.ListN.{set}
use Rattle.watch_prop.specs.declared.watch.Watcher.{Watcher}
use Rattle.watch_prop.specs.Lists.{Added}
use Rattle.watch_prop.specs.Layout.{grown_rooms}
use Rattle.watch_prop.proofs.ListsLemmas.{Added-set}
use Rattle.watch_prop.proofs.lists.Lists.push.Goals as goal

pub returns-clause-ok : goal.returns-clause-ok
returns-clause-ok c =
    let old = c.args.self.now.rows in
    let x = c.args.watcher in
    subst (λ (rs : List (List Watcher)). Added old rs c.args.lit x)
    (sym (c.put.ensures.rows ∙ ap (λ (rs : List (List Watcher)). set rs c.code-code.result (get_or rs c.code-code.result [] ++ x ∷ [])) c.make_room.ensures.rows ∙ ap (λ (n : ℕ). set old n (get_or old n [] ++ x ∷ [])) c.code-code.ensures))
    (Added-set old c.args.lit x c.requires)

pub returns-clause-rooms : goal.returns-clause-rooms
returns-clause-rooms c = c.put.ensures.rooms ∙ c.in_ok-make_room.ensures.rooms ∙ ap (λ (n : ℕ). grown_rooms c.args.self.now n) c.code-code.ensures
