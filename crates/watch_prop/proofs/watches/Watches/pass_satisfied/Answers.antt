use Rattle.std.proofs.Common.{◌≡◌, ◌+◌, ◌-◌, ℕ, sym, subst, ◌∙◌, arith}
use Rattle.watch_prop.specs.Aside.{but}
use Rattle.watch_prop.specs.Visiting.{IsVisiting}
use Rattle.watch_prop.proofs.Entries.{blocker_satisfied}
use Rattle.watch_prop.proofs.Visits.{visiting-settled}
use Rattle.watch_prop.proofs.watches.Watches.pass_satisfied.Goals as goal

pub loop-left-init : goal.loop-left-init
loop-left-init c = record { below = omega arith; visiting = λ o h v. v }

pub loop-left-preserved : goal.loop-left-preserved
loop-left-preserved c = record {
  below = (let b = c.loop-left.invariant.below in omega (arith, b));
  visiting = λ o h v.
      let here = c.loop-left.invariant.visiting o h v in
      let e : c.loop-left.left ≡ c.loop-left.left - 1 + 1 = omega arith in
      let b = here.watched.blocking c.args.lit c.watcher_at.result c.watcher_at.ensures.listed in
      visiting-settled (but o c.args.self.now) h c.args.trail.now c.args.lit (c.loop-left.left - 1) (omega arith) (subst (λ (n : ℕ). IsVisiting (but o c.args.self.now) h c.args.trail.now c.args.lit n) e here)
      (blocker_satisfied (but o c.args.self.now) h c.args.trail.now _ c.watcher_at.result c.decision_level-lawful.ensures.trail b c.watcher_at.ensures.slot
      ((c.values-values.ensures.is_true c.watcher_at.result.blocker (let on = b.on in let v = here.watched.vars in omega arith)).0 (sym c.is_true.ensures ∙ c.if-is_true.true)));
}
