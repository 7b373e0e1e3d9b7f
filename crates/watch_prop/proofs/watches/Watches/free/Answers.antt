use Rattle.std.proofs.Common.{◌≡◌, ◌+◌, ℕ, List, Option, Some, None, length, sym, ap, subst, arith}
use Rattle.std.proofs.Math.ListN.{set}
use Rattle.std.proofs.lemmas.List.{length-set}
use Rattle.watch_prop.specs.declared.watch.Watch.{Watch}
use Rattle.watch_prop.specs.WatchData.{WatchData}
use Rattle.watch_prop.specs.Watched.{At}
use Rattle.watch_prop.specs.Detaching.{Freed}
use Rattle.watch_prop.proofs.SlotsLemmas.{watch_read, HasFree, HasFree-freed}
use Rattle.watch_prop.proofs.Detaching.{Freed-slot}
use Rattle.watch_prop.proofs.watches.Watches.free.Goals as goal

freed : (v w : WatchData) (ws : List (Option Watch)) (i : ℕ) (s : Watch) (a : ℕ) → v ≡ w → ws ≡ set v.slots i None → At v.slots i (Some s) → s.clause.address ≡ a → Freed w record v { slots = ws } a
freed v w ws i s a e is at q =
    subst (λ (x : WatchData). Freed x record v { slots = ws } a) e
    (subst (λ (ys : List (Option Watch)). Freed v record v { slots = ys } a) (sym is) (Freed-slot v i s a at q))

pub returns-then-watch-c-clause-freed : goal.returns-then-watch-c-clause-freed
returns-then-watch-c-clause-freed c =
    freed record { vars = c.self.inside.vars; slots = c.self.inside.slots; lists = c.self.inside.lists.rows; rooms = c.self.inside.lists.rooms; size = c.self.inside.lists.size; settled = c.self.inside.settled } c.args.self.now c.free.new.self c.args.index c.in-Some.watch c.args.c.address c.self.view_is c.free.ensures
    (watch_read c.self.inside.slots c.args.index c.get.result c.in-Some.watch (let q = c.if-index-len.false in omega (arith, q, c.len.ensures)) c.get.ensures c.in-Some.is) c.if-watch-c.true

pub invariant_of-self : goal.invariant_of-self
invariant_of-self c =
    let i = c.self.invariant in
    let ws = c.self.inside.slots in
    let at = watch_read ws c.args.index c.get.result c.in-Some.watch (let q = c.if-index-len.false in omega (arith, q, c.len.ensures)) c.get.ensures c.in-Some.is in (
      i.0,
      i.1,
      subst (λ (ys : List (Option Watch)). HasFree ys (c.self.inside.free_slots + 1)) (sym c.free.ensures) (HasFree-freed ws c.args.index c.in-Some.watch c.self.inside.free_slots at i.2),
      omega (arith, i.3, length-set ws c.args.index None, ap (λ (ys : List (Option Watch)). length ys) c.free.ensures),
    )
