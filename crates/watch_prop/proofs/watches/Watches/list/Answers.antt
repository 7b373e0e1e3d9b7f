use Rattle.std.proofs.Common.{◌≡◌, ◌+◌, ℕ, List, Option, Some, None, get_or, subst, sym, ap, refl, ◌∙◌, length, Result, Ok, Err, OnErr, Contains, ◌⊎◌, inl, inr, arith}
use Rattle.std.proofs.Math.ListN.{set}
use Rattle.sat_words.specs.Literal.{Literal}
use Rattle.watch_prop.specs.declared.watch.Watch.{Watch}
use Rattle.watch_prop.specs.declared.watch.Watcher.{Watcher}
use Rattle.watch_prop.specs.WatchData.{WatchData, watchers_at, list_at}
use Rattle.watch_prop.specs.Packed.{with_literals}
use Rattle.watch_prop.specs.Watched.{At}
use Rattle.watch_prop.specs.Lists.{Added}
use Rattle.watch_prop.specs.Visiting.{Listed, ListsMore}
use Rattle.watch_prop.specs.Layout.{ListData, HaveGrown}
use Rattle.watch_prop.proofs.Rooms.{have-same, have-trans, have-pushed}
use Rattle.watch_prop.proofs.SlotsLemmas.{HasFree-relit, len-relit, relit}
use Rattle.watch_prop.proofs.watches.Watches.list.Goals as goal

on_err : {T E : Type 0} (r : Result T E) (P : Type 0) → P → OnErr r P
on_err (Ok x) P p = tt
on_err (Err e) P p = p

more : (v w : WatchData) (a b : List (List Watcher)) (rooms : List ℕ) (size : ℕ) (l k : Literal) → v ≡ w → Added v.lists a l record { slot = v.settled; blocker = k } → b ≡ a → ListsMore w record v { lists = b; rooms = rooms; size = size } k
more v w a b rooms size l k e r q =
    subst (λ (x : WatchData). ListsMore x record v { lists = b; rooms = rooms; size = size } k) e
    record {
      vars = refl;
      slots = refl;
      settled = refl;
      len = ap (λ (xs : List (List Watcher)). length xs) q ∙ r.len;
      kept = λ m j h. subst (λ (xs : List (List Watcher)). Contains (list_at xs m) j) (sym q) (r.kept m j h);
      only = λ m y h. elim (r.only m y (subst (λ (xs : List (List Watcher)). Contains (watchers_at xs m) y) q h)) as (λ _. Contains (watchers_at v.lists m) y ⊎ ((y.slot ≡ v.settled) × (y.blocker ≡ k))) [
        | inl was ↦ inl was
        | inr is ↦ inr (ap (λ (z : Watcher). z.slot) is, ap (λ (z : Watcher). z.blocker) is)
      ];
    }

pub returns-in_err-push-2-clause-err : goal.returns-in_err-push-2-clause-err
returns-in_err-push-2-clause-err c =
    on_err c.from_residual-in_err-push-2.result _
    (more record { vars = c.self.inside.vars; slots = c.self.inside.slots; lists = c.self.inside.lists.rows; rooms = c.self.inside.lists.rooms; size = c.self.inside.lists.size; settled = c.self.inside.settled } c.args.self.now
    c.push.new.self.rows c.push-2.new.self.rows c.push-2.new.self.rooms c.push-2.new.self.size c.args.first c.args.second c.self.view_is c.in_ok-push.ensures.ok (ap (λ (x : ListData). x.rows) c.in_err-push-2.ensures.err))

listed : (v w : WatchData) (ws : List (Option Watch)) (a b : List (List Watcher)) (rooms : List ℕ) (size : ℕ) (s : Watch) (k l : Literal) → v ≡ w → At w.slots w.settled (Some s) → ws ≡ set v.slots v.settled (with_literals (get_or v.slots v.settled None) k l) → Added v.lists a k record { slot = v.settled; blocker = l } → Added a b l record { slot = v.settled; blocker = k }
    → Listed w record { vars = v.vars; slots = ws; lists = b; rooms = rooms; size = size; settled = v.settled + 1 } s k l
listed v w ws a b rooms size s k l e at q one two =
    subst (λ (x : WatchData). Listed x record { vars = v.vars; slots = ws; lists = b; rooms = rooms; size = size; settled = v.settled + 1 } s k l) e
    record {
      vars = refl;
      settled = refl;
      slots = q ∙ relit v.slots v.settled s k l (subst (λ (x : WatchData). At x.slots x.settled (Some s)) (sym e) at);
      between = a;
      added = one;
      added_too = two;
    }

pub returns-clause-ok : goal.returns-clause-ok
returns-clause-ok c =
    listed record { vars = c.self.inside.vars; slots = c.self.inside.slots; lists = c.self.inside.lists.rows; rooms = c.self.inside.lists.rooms; size = c.self.inside.lists.size; settled = c.self.inside.settled } c.args.self.now
    c.set_literals.new.self c.push.new.self.rows c.push-2.new.self.rows c.push-2.new.self.rooms c.push-2.new.self.size c.args._watch.now c.args.first c.args.second c.self.view_is c.requires.there c.set_literals.ensures c.in_ok-push.ensures.ok c.in_ok-push-2.ensures.ok

pub invariant_of-self-2 : goal.invariant_of-self-2
invariant_of-self-2 c =
    let i = c.self.invariant in
    let at = subst (λ (x : WatchData). At x.slots x.settled (Some c.args._watch.now)) (sym c.self.view_is) c.requires.there in (
      i.0,
      c.in_ok-push-2.ensures.ok.len ∙ c.in_ok-push.ensures.ok.len ∙ i.1,
      HasFree-relit c.self.inside.slots c.set_literals.new.self c.self.inside.settled c.args._watch.now c.args.first c.args.second c.self.inside.free_slots at c.set_literals.ensures i.2,
      omega (arith, i.3, len-relit c.self.inside.slots c.set_literals.new.self c.self.inside.settled c.args.first c.args.second c.set_literals.ensures),
    )

pub returns-clause-rooms : goal.returns-clause-rooms
returns-clause-rooms c =
    subst (λ (x : WatchData). HaveGrown x.rooms c.push-2.new.self.rooms) c.self.view_is
    (have-trans _ _ _ (have-pushed c.self.inside.lists _ _ c.in_ok-push.ensures.rooms) (have-pushed c.push.new.self _ _ c.in_ok-push-2.ensures.rooms))

pub returns-in_err-push-clause-rooms : goal.returns-in_err-push-clause-rooms
returns-in_err-push-clause-rooms c =
    subst (λ (x : WatchData). HaveGrown x.rooms c.push.new.self.rooms) c.self.view_is (have-same c.self.inside.lists.rooms c.push.new.self.rooms (ap (λ (x : ListData). x.rooms) c.in_err-push.ensures.err))

pub returns-in_err-push-2-clause-rooms : goal.returns-in_err-push-2-clause-rooms
returns-in_err-push-2-clause-rooms c =
    subst (λ (x : WatchData). HaveGrown x.rooms c.push-2.new.self.rooms) c.self.view_is
    (have-trans _ _ _ (have-pushed c.self.inside.lists _ _ c.in_ok-push.ensures.rooms) (have-same c.push.new.self.rooms c.push-2.new.self.rooms (ap (λ (x : ListData). x.rooms) c.in_err-push-2.ensures.err)))
