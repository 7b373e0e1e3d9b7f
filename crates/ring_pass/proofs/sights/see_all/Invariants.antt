use Rattle.std.proofs.Common.{◌*◌, ◌-◌, length, vec_capacity}
use Rattle.share_rule.specs.Passes.{IsPassOf, IsSamePass}
use Rattle.share_rule.specs.Views.{only}
use Rattle.ring_pass.specs.Numbers.{KeepsNumbers}
use Rattle.ring_pass.specs.RingState.{HasUnits}
use Rattle.ring_pass.specs.Sights.{SawNews}
use Rattle.ring_pass.proofs.sights.see_all.Given as goal

abbrev pub invariant-loop : goal.invariant-loop
invariant-loop g l = record {
  pass : IsPassOf l.table l.pass;
  same : IsSamePass l.initial.pass l.pass;
  saw : SawNews l.initial.pass.me.0 l.pass.me.0 l.seen.items l.initial.arrived.items l.arrived.items;
  numbers : KeepsNumbers l.initial.pass.me.0 l.pass.me.0 l.initial.numbers.items l.numbers.items;
  units : HasUnits (only l.pass.me.0) l.pass.me.0.layout.vars l.seen.items (vec_capacity l.seen) (vec_capacity l.arrived);
}

abbrev pub decreases-loop : goal.decreases-loop
decreases-loop g l = 2 * l.pass.me.0.layout.vars - length l.seen.items
