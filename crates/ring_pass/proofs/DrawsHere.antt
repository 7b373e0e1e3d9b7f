-- What the port says of a draw.
use Rattle.std.proofs.Common.{◌≡◌, ℕ, suc, ◌+◌, ◌≤◌, false, List, [], ◌∷◌, refl, sym, ap, subst, ◌∙◌, arith}
use Rattle.std.specs.Prelude.{nat_le}
use Rattle.sat_words.specs.Literal.{Literal}
use Rattle.sat_words.specs.declared.shared.Cref.{Cref}
use Rattle.atomic_table.specs.declared.shared.Seat.{Seat}
use Rattle.std.specs.declared.option.Option.{Option}
use Rattle.share_rule.specs.declared.Shared.{Shared}
use Rattle.share_rule.specs.declared.view.View.{View}
use Rattle.share_rule.specs.Passes.{IsPassOf, IsSamePass}
use Rattle.share_rule.specs.Tickets.{MayDraw, draw_part, after_draw}
use Rattle.share_rule.specs.Views.{only}
use Rattle.ticket_word.specs.Draws.{IsDrawn}
use Rattle.ring_port.specs.declared.draw.Drawn.{Drawn}
use Rattle.ring_port.specs.declared.draw.Drawn.TheVariants.{Ticket, Gone}
use Rattle.ring_port.specs.Drawing.{Drew, HasDrawn}
use Rattle.ring_port.specs.PortState.{PortState}
use Rattle.ring_pass.specs.declared.spares.Spares.{Spares}
use Rattle.ring_pass.specs.declared.waiting.Waiting.{Waiting}
use Rattle.ring_pass.specs.RingState.{Own, port_with, port_of, home_of, IsRingPass, HasRoom, HasUnits, CanOffer}
use Rattle.ring_pass.proofs.CanOffers.{offer_turns}
use Rattle.ring_pass.proofs.PollsHere.{port_step}
use Rattle.ring_pass.proofs.Stays.{one_changed, name_stays, ring_changes}
use Rattle.ring_pass.proofs.TurnsHere.{room_turns, units_turns}

-- what the port asks is what the pass asks
pub may_draw : (v : View) (o : Own) (s : PortState) → v.parts ≡ only v ∷ [] → port_of v o ≡ s → s.ticket ≡ false → s.found ≤ s.limit → MayDraw v
may_draw v o s one view none left = record {
  one = one;
  none = ap (λ (y : PortState). y.ticket) view ∙ none;
  found = subst (λ (y : PortState). y.found ≤ y.limit) (sym view) left;
}

-- the ring's part after a draw that found so many tickets drawn
pub drew_part_is : (v w : View) (n : ℕ) → v.parts ≡ only v ∷ [] → w ≡ after_draw n v → w.parts ≡ draw_part v.opening.limit n (only v) ∷ []
drew_part_is v w n one is = one_changed (draw_part v.opening.limit n) v w one (ap (λ (u : View). u.parts) is)

-- the port then
module _ (v w : View) (o : Own) (home : List ℕ) (n : ℕ) (one : v.parts ≡ only v ∷ []) (is : w ≡ after_draw n v) (more : (only v).core.found ≤ n) (hm : home ≡ o.home) where
  next : suc n ≡ n + 1
  next = omega arith

  port_is : port_of w (record o { home = home }) ≡ record (port_of v o) { ticket = nat_le (n + 1) v.opening.limit; found = n + 1 }
  port_is =
      port_step v w (draw_part v.opening.limit n (only v)) (record o { home = home }) (drew_part_is v w n one is) (ap (λ (u : View). u.layout) is) (ap (λ (u : View). u.opening) is) (ap (λ (u : View). u.stop) is) (ap (λ (u : View). u.looks) is)
      ∙ (λ i. port_with v (draw_part v.opening.limit n (only v)) (record o { home = hm i }))
      ∙ (λ i. record (port_of v o) { ticket = nat_le (next i) v.opening.limit; found = n + 1 })

  found_is : (port_of w (record o { home = home })).found ≡ n + 1
  found_is = ap (λ (s : PortState). s.found) port_is

  drew : Drew (port_of v o) (port_of w (record o { home = home }))
  drew = record {
    more = let e = found_is in omega arith;
    state = port_is ∙ (λ i. record (port_of v o) { ticket = nat_le (sym found_is i) v.opening.limit; found = sym found_is i });
  }

  drawn_here : (a : Drawn) → IsDrawn v.opening.limit n a → HasDrawn (port_of v o) (port_of w (record o { home = home })) a
  drawn_here Ticket few = (drew, let e = found_is in omega arith)
  drawn_here Gone all = (drew, let e = found_is in omega arith)

-- For a ring with its pass

pub ring_draws : {B : Type 0} {t : Shared B} {p : Seat (Option B) View} {n : ℕ} {st : List Cref} {o : Own} (q : Seat (Option B) View) (s : PortState) (found : ℕ) (a : Drawn) → IsRingPass t p n st o → IsPassOf t q → port_of p.me.0 o ≡ s
    → q.me.0 ≡ after_draw found p.me.0 → (only p.me.0).core.found ≤ found → IsDrawn p.me.0.opening.limit found a → HasDrawn s (port_of q.me.0 (record o { home = home_of q })) a
ring_draws {B} {t} {p} {n} {st} {o} q s found a r pass view is more drawn =
    subst (λ (y : PortState). HasDrawn y (port_of q.me.0 (record o { home = home_of q })) a) view (drawn_here p.me.0 q.me.0 o (home_of q) found r.one is more (name_stays q r pass) a drawn)

pub ring_drew : {B : Type 0} {t : Shared B} {p : Seat (Option B) View} {n : ℕ} {st : List Cref} {o : Own} (q : Seat (Option B) View) (found : ℕ) → IsRingPass t p n st o → IsPassOf t q → IsSamePass p q → q.me.0 ≡ after_draw found p.me.0 → IsRingPass t q n st (record o { home = home_of q })
ring_drew {B} {t} {p} {n} {st} {o} q found r pass same is =
    ring_changes q (draw_part p.me.0.opening.limit found (only p.me.0)) (record o { home = home_of q }) r pass same (ap (λ (u : View). u.opening) is) (drew_part_is p.me.0 q.me.0 found r.one is) refl refl refl (record {
      passed = r.own.passed;
      distinct = r.own.distinct;
      told = r.own.told;
      taken = r.own.taken;
      ended_is = r.own.ended_is;
      refused_is = r.own.refused_is;
      faulty_is = r.own.faulty_is;
      making = r.own.making;
      listed = r.own.listed;
    })
    r.alone_is
    refl
    (λ m. m)

pub room_drew : (v w : View) (found : ℕ) (last : Option Cref) (ws : List Waiting) (room : ℕ) → v.parts ≡ only v ∷ [] → w ≡ after_draw found v → HasRoom (only v) v.opening.rings last ws room → HasRoom (only w) w.opening.rings last ws room
room_drew v w found last ws room one is m = room_turns v w (draw_part v.opening.limit found (only v)) last ws room (ap (λ (u : View). u.opening) is) (drew_part_is v w found one is) refl refl (omega arith) m

pub units_drew : (v w : View) (found : ℕ) (seen : List Literal) (x y : ℕ) → v.parts ≡ only v ∷ [] → w ≡ after_draw found v → HasUnits (only v) v.layout.vars seen x y → HasUnits (only w) w.layout.vars seen x y
units_drew v w found seen x y one is m = units_turns v w (draw_part v.opening.limit found (only v)) seen x y (ap (λ (u : View). u.layout) is) (drew_part_is v w found one is) refl m

pub offer_drew : (v w : View) (found : ℕ) (last : Option Cref) (s : Spares) → v.parts ≡ only v ∷ [] → w ≡ after_draw found v → CanOffer (only v) v.opening last s → CanOffer (only w) w.opening last s
offer_drew v w found last s one is r = offer_turns v w (draw_part v.opening.limit found (only v)) last s (ap (λ (u : View). u.opening) is) (drew_part_is v w found one is) refl refl refl refl r
