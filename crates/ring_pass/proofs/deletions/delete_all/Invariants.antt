use Rattle.std.proofs.Common.{◌≡◌, ◌≤◌, ◌-◌, [], length}
use Rattle.share_rule.specs.Passes.{IsPassOf}
use Rattle.ring_pass.specs.Deletions.{Deleted}
use Rattle.ring_pass.proofs.deletions.delete_all.Given as goal

abbrev pub invariant-loop-done : goal.invariant-loop-done
invariant-loop-done g l = record {
  pass : IsPassOf l.table l.pass × (l.pass.id ≡ l.initial.pass.id) × (l.pass.me.1 ≡ []);
  deleted : Deleted l.initial.pass.me.0 l.pass.me.0 l.done;
  within : l.done ≤ length l.waiting.items;
}

abbrev pub decreases-loop-done : goal.decreases-loop-done
decreases-loop-done g l = length l.waiting.items - l.done
