use Rattle.std.proofs.Common.{◌≡◌, ℕ, ◌+◌, length, vec_capacity}
use Rattle.share_rule.specs.Passes.{IsPassOf, IsSamePass}
use Rattle.share_rule.specs.Views.{only}
use Rattle.ring_pass.specs.Offering.{others, CanTakeBack, PutFor}
use Rattle.ring_pass.proofs.offers.put_for_all.Given as goal

abbrev pub invariant-loop-to : goal.invariant-loop-to
invariant-loop-to g l = record {
  pass : IsPassOf l.table l.pass;
  same : IsSamePass l.initial.pass l.pass;
  put : PutFor l.initial.pass.me.0 l.pass.me.0 l.offering.class l.offering.place l.offering.cell.address (others l.offering.ring l.to);
  many : l.puts ≡ length (others l.offering.ring l.to);
  room : (n : ℕ) → CanTakeBack (only l.initial.pass.me.0) l.initial.waiting.items (vec_capacity l.initial.waiting) l.initial.spares (n + length (others l.offering.ring l.to)) → CanTakeBack (only l.pass.me.0) l.waiting.items (vec_capacity l.waiting) l.spares n;
  longest : (l.spares.longest ≡ l.initial.spares.longest) × (l.spares.places ≡ l.initial.spares.places);
}
