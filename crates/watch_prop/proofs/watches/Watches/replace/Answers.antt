use Rattle.std.proofs.Common.{◌≡◌, ◌∙◌, ℕ, Bool, List, Option, Some, None, get_or, refl, sym, ap, subst, arith}
use Rattle.std.proofs.Math.ListN.{set}
use Rattle.sat_words.specs.Literal.{Literal}
use Rattle.sat_words.specs.declared.shared.Cref.{Cref}
use Rattle.watch_prop.specs.declared.watch.Watch.{Watch}
use Rattle.watch_prop.specs.declared.watch.Watcher.{Watcher}
use Rattle.watch_prop.specs.declared.watch.ListEntry.{ListEntry}
use Rattle.watch_prop.specs.WatchData.{WatchData}
use Rattle.watch_prop.specs.Packed.{with_literals}
use Rattle.watch_prop.specs.Watched.{At}
use Rattle.watch_prop.specs.Lists.{Added, Removed}
use Rattle.watch_prop.specs.Visiting.{IsEntry, Replaced}
use Rattle.watch_prop.proofs.SlotsLemmas.{HasFree-relit, len-relit, relit}
use Rattle.watch_prop.specs.Layout.{ListData, HaveGrown}
use Rattle.watch_prop.proofs.Rooms.{have-same, have-trans, have-pushed}
use Rattle.watch_prop.proofs.watches.Watches.replace.Goals as goal

replaced : (v w : WatchData) (ws : List (Option Watch)) (a b : List (List Watcher)) (rooms : List ℕ) (size : ℕ) (index : ℕ) (n : ListEntry) (l k : Literal) (place : ℕ) → v ≡ w → IsEntry w index l n → ws ≡ set v.slots n.index (with_literals (get_or v.slots n.index None) n.other k) → Added v.lists a k record { slot = n.index; blocker = n.other } → Removed a b l place
    → Replaced w record { vars = v.vars; slots = ws; lists = b; rooms = rooms; size = size; settled = v.settled } n l k place
replaced v w ws a b rooms size index n l k place e is q one two =
    let there = subst (λ (j : ℕ). At w.slots j (Some is.watch)) (sym is.at_index) is.there in
    let at = subst (λ (x : WatchData). At x.slots n.index (Some is.watch)) (sym e) there in
    subst (λ (x : WatchData). Replaced x record { vars = v.vars; slots = ws; lists = b; rooms = rooms; size = size; settled = v.settled } n l k place) e
    record {
      vars = refl;
      settled = refl;
      slots = q ∙ relit v.slots n.index is.watch n.other k at ∙ ap (λ (c : Cref). set v.slots n.index (Some record { clause = c; first = n.other; second = k; binary = is.watch.binary })) is.clause
          ∙ ap (λ (b : Bool). set v.slots n.index (Some record { clause = n.clause; first = n.other; second = k; binary = b })) is.binary;
      between = a;
      added = one;
      removed = two;
    }

pub returns-clause-ok : goal.returns-clause-ok
returns-clause-ok c =
    replaced record { vars = c.self.inside.vars; slots = c.self.inside.slots; lists = c.self.inside.lists.rows; rooms = c.self.inside.lists.rooms; size = c.self.inside.lists.size; settled = c.self.inside.settled } c.args.self.now
    c.set_literals.new.self c.push.new.self.rows c.take.new.self.rows c.take.new.self.rooms c.take.new.self.size _ c.args.entry c.args.lit c.args.new c.args.place c.self.view_is c.requires.entry c.set_literals.ensures c.in_ok-push.ensures.ok c.take.ensures.removed

pub invariant_of-self-2 : goal.invariant_of-self-2
invariant_of-self-2 c =
    let i = c.self.invariant in
    let e = c.requires.entry in
    let there = subst (λ (n : ℕ). At c.args.self.now.slots n (Some e.watch)) (sym e.at_index) e.there in
    let at = subst (λ (x : WatchData). At x.slots c.args.entry.index (Some e.watch)) (sym c.self.view_is) there in (
      i.0,
      c.take.ensures.removed.len ∙ c.in_ok-push.ensures.ok.len ∙ i.1,
      HasFree-relit c.self.inside.slots c.set_literals.new.self c.args.entry.index e.watch c.args.entry.other c.args.new c.self.inside.free_slots at c.set_literals.ensures i.2,
      omega (arith, i.3, len-relit c.self.inside.slots c.set_literals.new.self c.args.entry.index c.args.entry.other c.args.new c.set_literals.ensures),
    )

pub returns-clause-rooms : goal.returns-clause-rooms
returns-clause-rooms c =
    subst (λ (x : WatchData). HaveGrown x.rooms c.take.new.self.rooms) c.self.view_is
    (have-trans _ _ _ (have-pushed c.self.inside.lists _ _ c.in_ok-push.ensures.rooms) (have-same c.push.new.self.rooms c.take.new.self.rooms c.take.ensures.rooms))

pub returns-in_err-push-clause-rooms : goal.returns-in_err-push-clause-rooms
returns-in_err-push-clause-rooms c =
    subst (λ (x : WatchData). HaveGrown x.rooms c.push.new.self.rooms) c.self.view_is (have-same c.self.inside.lists.rooms c.push.new.self.rooms (ap (λ (x : ListData). x.rooms) c.in_err-push.ensures.err))
