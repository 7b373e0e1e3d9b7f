use Rattle.std.proofs.Common.{◌∙◌, refl}
use Rattle.ring_port.specs.PortState.{lits_at}
use Rattle.watch_prop.specs.Advancing.{HasAdvanced}
use Rattle.watch_prop.proofs.Advancing.{advanced_none, advanced_reasons, advanced_trans}
use Rattle.watch_prop.proofs.Settling.{closed-grow}
use Rattle.watch_prop.proofs.watches.Watches.watch_waiting.Given.{Over}
use Rattle.watch_prop.proofs.watches.Watches.watch_waiting.Goals.{After-settle_one}
use Rattle.watch_prop.proofs.watches.Watches.watch_waiting.Goals as goal

-- what is kept up to here
so_far : (g : Over) (c : After-settle_one g) → HasAdvanced (g.P.Port.state c.args.port.now) c.args.self.now c.settle_one.new.self c.args.trail.now c.settle_one.new.trail
so_far g c = advanced_trans _ _ _ _ _ _ c.loop-self.invariant.same c.loop-self.invariant.kept _ _ c.settle_one.ensures.kept

pub loop-self-init : goal.loop-self-init
loop-self-init g c = record {
  same = refl;
  kept = advanced_none (g.P.Port.state c.args.port.now) c.args.self.now c.args.trail.now c.requires.reasons c.requires.watched;
  below = c.requires.below;
}

pub settle_one-requires-clause-reasons : goal.settle_one-requires-clause-reasons
settle_one-requires-clause-reasons g c = advanced_reasons _ _ _ _ _ _ c.loop-self.invariant.same c.loop-self.invariant.kept

pub returns-in_err-settle_one-clause-kept : goal.returns-in_err-settle_one-clause-kept
returns-in_err-settle_one-clause-kept g c = so_far g (goal.at.returns-in_err-settle_one-clause-kept g c).After-settle_one

pub returns-in-Falsified-clause-kept : goal.returns-in-Falsified-clause-kept
returns-in-Falsified-clause-kept g c = so_far g (goal.at.returns-in-Falsified-clause-kept g c).After-settle_one

pub loop-self-preserved : goal.loop-self-preserved
loop-self-preserved g c =
    let i = c.loop-self.invariant in
    let k = c.settle_one.ensures.kept in
    record {
      same = c.settle_one.ensures.same ∙ i.same;
      kept = so_far g (goal.at.loop-self-preserved g c).After-settle_one;
      below = closed-grow c.loop-self.self c.settle_one.new.self (lits_at (g.P.Port.state c.args.port.now)) c.loop-self.trail c.settle_one.new.trail k.clauses k.grown i.below;
    }
