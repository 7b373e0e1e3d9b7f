-- A draw that gives a ticket.
use Rattle.std.proofs.Common.{◌≡◌, ◌∙◌, ℕ, ◌<◌, ◌+◌, [], ◌∷◌, ap, sym, arith}
use Rattle.std.specs.Prelude.{Option}
use Rattle.std.proofs.lemmas.Bool.{lt-ltb}
use Rattle.atomic_table.specs.declared.shared.Seat.{Seat}
use Rattle.share_rule.specs.declared.Shared.{Shared}
use Rattle.share_rule.specs.declared.view.RingPart.{RingPart}
use Rattle.share_rule.specs.declared.view.View.{View}
use Rattle.share_rule.specs.Passes.{IsPassOf, IsSamePass}
use Rattle.share_rule.specs.Steps.{on_first}
use Rattle.share_rule.specs.Tickets.{draw_part, after_draw}
use Rattle.share_rule.specs.Views.{only}
use Rattle.test_tables.specs.Samples.{IsRing}
use Rattle.test_units.specs.Doings.{DrewTicket}
use Rattle.test_units.proofs.Giving.{one_changed}

drawn_only : (v w : View) (n : ℕ) → v.parts ≡ only v ∷ [] → w ≡ after_draw n v → only w ≡ draw_part v.opening.limit n (only v)
drawn_only v w n one is = one_changed (draw_part v.opening.limit n) v w one (ap (λ (u : View). u.parts) is)

pub drew_ticket : (v w : View) (n : ℕ) → v.parts ≡ only v ∷ [] → w ≡ after_draw n v → n < v.opening.limit → DrewTicket v w
drew_ticket v w n one is lt = record {
  found = n + 1;
  left = omega arith;
  core_is = ap (λ (p : RingPart). p.core) (drawn_only v w n one is) ∙ (λ i. record (only v).core { ticket = lt-ltb n v.opening.limit lt i; found = n + 1 });
}

pub ring_drew : {B : Type 0} (t : Shared B) (p q : Seat (Option B) View) (ring n : ℕ) → IsRing t p ring → IsPassOf t q → IsSamePass p q → q.me.0 ≡ after_draw n p.me.0 → IsRing t q ring
ring_drew t p q ring n r pass same is =
    let part = drawn_only p.me.0 q.me.0 n r.one is in
    record {
      pass = pass;
      slots = same.1 ∙ r.slots;
      one = ap (λ (u : View). u.parts) is ∙ ap (on_first (draw_part p.me.0.opening.limit n)) r.one ∙ (λ i. sym part i ∷ []);
      ring_is = ap (λ (x : RingPart). x.core.ring) part ∙ r.ring_is;
      free = ap (λ (x : RingPart). x.turn) part ∙ r.free;
    }
