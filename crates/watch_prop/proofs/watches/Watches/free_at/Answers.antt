use Rattle.std.proofs.Common.{◌≡◌, ◌-◌, ◌+◌, ℕ, Some, sym, subst, take, arith, get_or, Contains}
use Rattle.watch_prop.specs.declared.watch.Watch.{Watch}
use Rattle.watch_prop.specs.WatchData.{list_at}
use Rattle.watch_prop.specs.Watched.{At}
use Rattle.watch_prop.proofs.Detaching.{Freed-trans, left-step}
use Rattle.watch_prop.proofs.watches.Watches.free_at.Goals as goal

pub loop-left-preserved : goal.loop-left-preserved
loop-left-preserved c =
    let w = c.args.self.now in
    let u = c.loop-left.self in
    let v = c.free.new.self in
    let i = c.loop-left.invariant in
    let l = c.args.lit in
    let a = c.args.c.address in
    let place = c.loop-left.left - 1 in
    let next : c.loop-left.left ≡ place + 1 = (let q = c.loop-left-test.true in omega arith) in
    let gone : (s : Watch) → At v.slots (get_or (list_at u.lists l) place 0) (Some s) → s.clause.address ≡ a → ⊥
    = λ s at. c.free.ensures.gone s (subst (λ (n : ℕ). At v.slots n (Some s)) (sym c.watcher_at-watcher.ensures.slot) at) in
    record {
      freed = Freed-trans w u v a i.freed c.free.ensures.freed;
      inside = omega (arith, i.inside);
      to_visit = left-step w u v a l place (let q = c.loop-left-test.true in omega (arith, i.inside, q))
          (λ j s at h e. subst (λ (n : ℕ). Contains (take n (list_at w.lists l)) j) next (i.to_visit j s at h e)) i.freed c.free.ensures.freed gone;
    }
