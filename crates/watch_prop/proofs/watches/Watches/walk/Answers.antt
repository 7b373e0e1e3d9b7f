use Rattle.std.proofs.Common.{◌≤◌, ◌-◌, ◌∙◌, ap, subst, refl, length, arith}
use Rattle.ring_port.specs.PortState.{PortState, lits_at}
use Rattle.watch_prop.specs.declared.watch.Visit.{Visit}
use Rattle.watch_prop.specs.WatchData.{list_at}
use Rattle.watch_prop.specs.Advancing.{HasAdvanced}
use Rattle.watch_prop.specs.Aside.{but, PassesOver}
use Rattle.watch_prop.proofs.Asides.{passes-refl, passes-trans}
use Rattle.watch_prop.specs.Visiting.{IsVisited, IsVisiting}
use Rattle.watch_prop.proofs.Growing.{FalseOn-grow}
use Rattle.watch_prop.proofs.Advancing.{advanced_none, advanced_reasons, advanced_trans}
use Rattle.watch_prop.proofs.Visits.{visiting-start}
use Rattle.watch_prop.proofs.watches.Watches.walk.Given.{Over}
use Rattle.watch_prop.proofs.watches.Watches.walk.Goals.{After-visit}
use Rattle.watch_prop.proofs.watches.Watches.walk.Goals as goal

-- what is kept up to here
so_far : (g : Over) (c : After-visit g) → HasAdvanced (g.P.Port.state c.args.port.now) (but c.args.aside c.args.self.now) (but c.args.aside c.visit.new.self) c.args.trail.now c.visit.new.trail
so_far g c = advanced_trans _ _ _ _ _ _ c.loop-place.invariant.same c.loop-place.invariant.kept _ _ c.visit.ensures.kept

-- the clause set aside was passed over up to here
passed_far : (g : Over) (c : After-visit g) → PassesOver c.args.aside (lits_at (g.P.Port.state c.args.port.now)) c.args.self.now c.visit.new.self
passed_far g c = passes-trans c.args.aside _ _ _ _ _ (ap lits_at c.loop-place.invariant.same) c.loop-place.invariant.passed c.visit.ensures.passed

pub returns-in_err-visit-clause-passed : goal.returns-in_err-visit-clause-passed
returns-in_err-visit-clause-passed g c = passed_far g (goal.at.returns-in_err-visit-clause-passed g c).After-visit

pub returns-in-Falsified-clause-passed : goal.returns-in-Falsified-clause-passed
returns-in-Falsified-clause-passed g c = passed_far g (goal.at.returns-in-Falsified-clause-passed g c).After-visit

pub loop-place-init : goal.loop-place-init
loop-place-init g c = record {
  same = refl;
  kept = advanced_none (g.P.Port.state c.args.port.now) (but c.args.aside c.args.self.now) c.args.trail.now c.requires.reasons c.requires.watched;
  passed = passes-refl c.args.aside _ _ _ refl;
  settled = refl;
  len = refl;
  done = refl;
  visiting = c.pass_satisfied-place.ensures.visiting c.args.aside (lits_at (g.P.Port.state c.args.port.now))
      (visiting-start (but c.args.aside c.args.self.now) (lits_at (g.P.Port.state c.args.port.now)) c.args.trail.now c.args.lit c.list_len.result c.list_len.ensures c.requires.watched);
  inside = omega (arith, c.list_len.ensures, c.pass_satisfied-place.ensures.below);
}

pub visit-requires-clause-now_false : goal.visit-requires-clause-now_false
visit-requires-clause-now_false g c = FalseOn-grow c.args.trail.now c.loop-place.trail _ c.loop-place.invariant.kept.grown c.requires.now_false

pub visit-requires-clause-reasons : goal.visit-requires-clause-reasons
visit-requires-clause-reasons g c = advanced_reasons _ _ _ _ _ _ c.loop-place.invariant.same c.loop-place.invariant.kept

pub returns-in_err-visit-clause-kept : goal.returns-in_err-visit-clause-kept
returns-in_err-visit-clause-kept g c = so_far g (goal.at.returns-in_err-visit-clause-kept g c).After-visit

pub returns-in-Falsified-clause-kept : goal.returns-in-Falsified-clause-kept
returns-in-Falsified-clause-kept g c = so_far g (goal.at.returns-in-Falsified-clause-kept g c).After-visit

pub loop-place-preserved : goal.loop-place-preserved
loop-place-preserved g c =
    let i = c.loop-place.invariant in
    let v = subst (λ (s : PortState). IsVisited (but c.args.aside c.visit.new.self) (lits_at s) c.visit.new.trail c.args.lit (c.loop-place.place - 1) c.in_ok-visit.field-0) i.same c.in_ok-visit.ensures.visited in
    let d : IsVisiting (but c.args.aside c.visit.new.self) (lits_at (g.P.Port.state c.args.port.now)) c.visit.new.trail c.args.lit (c.loop-place.place - 1) × (c.loop-place.place - 1 ≤ length (list_at c.visit.new.self.lists c.args.lit))
    = subst (λ (x : Visit). IsVisited (but c.args.aside c.visit.new.self) (lits_at (g.P.Port.state c.args.port.now)) c.visit.new.trail c.args.lit (c.loop-place.place - 1) x) c.in-Done.is v in
    record {
      same = c.visit.ensures.same ∙ i.same;
      kept = so_far g (goal.at.loop-place-preserved g c).After-visit;
      passed = passed_far g (goal.at.loop-place-preserved g c).After-visit;
      settled = c.visit.ensures.settled ∙ i.settled;
      len = c.visit.ensures.len ∙ i.len;
      done = c.visit.ensures.done ∙ i.done;
      visiting = c.pass_satisfied-place-in-loop-place.ensures.visiting c.args.aside (lits_at (g.P.Port.state c.args.port.now)) d.0;
      inside = (let below = c.pass_satisfied-place-in-loop-place.ensures.below in omega (arith, below, d.1));
    }
