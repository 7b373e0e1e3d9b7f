-- Grants, puts and gets keep the state sound.
use Rattle.std.proofs.Common.{◌≡◌, ◌≢◌, ℕ, zero, suc, ◌+◌, ◌<◌, ◌==◌, Bool, true, false, cond, List, All, Option, refl, sym, ap, ◌∙◌, inr, arith, ne_eqb, true≢false}
use Rattle.std.proofs.lemmas.List.Elements.{All-append}
use mathlib.Core.Path.{Path}
use Rattle.rup_model.specs.Basics.{put, one_if}
use Rattle.rup_model.proofs.Sums.{at_put, put_here, put_else}
use Rattle.share_core.specs.declared.event.Event.TheVariants.{Grant, Put, Get}
use Rattle.share_core.specs.declared.stored.ClauseAt.{ClauseAt}
use Rattle.share_core.specs.declared.stored.Cell.{Cell}
use Rattle.share_core.specs.State.{times_at, without_at, Part, State, count_at, maker_at, clause_at, slots, slot_of}
use Rattle.share_core.specs.Enabled.{IsEnabled}
use Rattle.share_core.specs.Events.{granted_part, put_part, got_part, after}
use Rattle.share_core.specs.Sound.{idle_at, Counts, IsCopy, IsOpenCopy, Sound}
use Rattle.share_core.proofs.ClauseLists.{at_without, at_both, at_some, at_some_zero, at_fewer, in_at, all_in, all_map, all_some, all_without}
use Rattle.share_core.proofs.Counting.{counts_moved, slot_below, slots_some, slot_cell, starts_kept}
use Rattle.share_core.proofs.Copies.{keeps_same}
use Rattle.share_core.proofs.Slots.{puts_same, slots_put, slots_got}
use Rattle.share_core.proofs.Own.{owned_same}
use Rattle.share_core.proofs.Frames.{same_here, same_else, part_slots, copies_put, has_seen, units_part, clause_is}
use Rattle.share_core.proofs.Tickets.{tickets_put}

-- Grants

pub starts_zero : (ss : List ClauseAt) → All (λ s. s.address ≢ 0) ss → times_at 0 ss ≡ 0
starts_zero ss h = none (times_at 0 ss) refl
  where
    none : (n : ℕ) → times_at 0 ss ≡ n → times_at 0 ss ≡ 0
    none zero e = e
    none (suc n) e = let t = in_at 0 ss (omega arith) in absurd (all_in (λ (s : ClauseAt). s.address ≢ 0) ss t.0 t.1 h t.2)

pub grants : (c : State) (r : ℕ) → Sound c → IsEnabled c (Grant r) → Sound (after c (Grant r))
grants c r s e =
    let d : State = after c (Grant r) in
    let p : Part = granted_part c.opening (c.part r) in
    let ss : List ClauseAt = c.opening.starts in
    record {
      opens = s.opens;
      counts = counts_moved c.opening c d r 0 (c.slot 0) true p s.counts (record {
        ring = e.0;
        place = slots_some c.opening s.opens;
        part_here = put_here c.part r p;
        part_else = λ i n. put_else c.part r p i n;
        granted_here = put_here c.granted r true;
        granted_else = λ i n. put_else c.granted r true i n;
        slot_here = refl;
        slot_else = λ i n. refl;
        balance = λ b nz.
            let t = at_both b (c.part r).held ss in
            let u : cond (c.granted r) 0 (times_at b ss) ≡ times_at b ss = ap (λ (q : Bool). cond q 0 (times_at b ss)) e.1 in omega arith;
        waits = λ b. refl;
        making = s.counts.making;
        makes_here = λ b. s.counts.makes r b e.0;
        makes_else = λ i b n. refl;
        nowhere = s.counts.nowhere;
        address = let t = at_both 0 (c.part r).held ss in let z = s.counts.addresses r in let q = starts_zero ss s.opens.placed in omega arith;
        few = s.counts.few r;
        bounded = λ b. inr (omega arith);
        named = s.counts.named r;
      });
      starts = starts_kept c.opening c d s.opens s.counts s.starts (λ i. at_put c.granted r true (λ (q : Bool). q ≡ false → c.granted i ≡ false) i (λ h k. absurd (true≢false k)) (λ ne k. k)) (λ i y k z _. (y, k, z, refl, refl));
      copies = copies_put c r p s (All-append (IsCopy c.cell) (c.part r).held ss (s.copies.held r e.0) (all_map (IsOpenCopy c.cell) (IsCopy c.cell) ss (λ h i k. (k.0, k.1, k.3, k.4)) (s.starts r e.0 e.1))) (s.copies.making r e.0) (s.copies.waiting r e.0);
      cells = s.cells;
      whole = s.whole;
      slots = part_slots c d r p s refl refl refl;
      log = s.log;
      entries = owned_same c.opening c r p s.entries refl;
      freshness = s.freshness;
      units = units_part c r p s (has_seen c r s);
      turns = s.turns;
      stops = s.stops;
      tickets = tickets_put c.opening c.drawn c.part r p s.tickets refl refl (λ t. t);
    }

-- a part that takes the old address of a slot, and gives a new one
swaps : (c d : State) (r k v : ℕ) (p : Part) → Sound c → r < c.opening.rings → k < slots c.opening
    → Path (ℕ → Option Cell) d.cell c.cell → Path (ℕ → Bool) d.granted c.granted → Path (ℕ → Part) d.part (put c.part r p) → Path (ℕ → ℕ) d.slot (put c.slot k v)
    → p.ring ≡ r → p.shared ≡ (c.part r).shared → Path (List ClauseAt) p.waiting (c.part r).waiting → Path (List ClauseAt) p.making (c.part r).making → times_at 0 p.held ≡ 0
    → ((b : ℕ) → b ≢ 0 → times_at b p.held + one_if (v == b) ≡ times_at b (c.part r).held + one_if (c.slot k == b))
    → Counts c.opening d
swaps c d r k v p s lt kt dc dg dp ds ring shared waiting mk zeros moves = counts_moved c.opening c d r k v (c.granted r) p s.counts (record {
  ring = lt;
  place = kt;
  part_here = (λ j. dp j r) ∙ put_here c.part r p;
  part_else = λ i n. (λ j. dp j i) ∙ put_else c.part r p i n;
  granted_here = λ j. dg j r;
  granted_else = λ i n j. dg j i;
  slot_here = (λ j. ds j k) ∙ put_here c.slot k v;
  slot_else = λ i n. (λ j. ds j i) ∙ put_else c.slot k v i n;
  balance = λ b nz. let q = moves b nz in let n : count_at (d.cell b) ≡ count_at (c.cell b) = (λ j. count_at (dc j b)) in omega arith;
  waits = λ b. let n : idle_at (d.cell b) ≡ idle_at (c.cell b) = (λ j. idle_at (dc j b)) in let w : times_at b p.waiting ≡ times_at b (c.part r).waiting = (λ j. times_at b (waiting j)) in omega arith;
  making = λ a x i is. s.counts.making a x i ((λ j. sym dc j a) ∙ is);
  makes_here = λ b. (λ j. times_at b (mk j)) ∙ same_here c d r s lt (λ q j. maker_at (dc j q)) b;
  makes_else = same_else c d r (λ q j. maker_at (dc j q));
  nowhere = (λ j. dc j 0) ∙ s.counts.nowhere;
  address = zeros;
  few = let q = s.counts.few r in omega arith;
  bounded = λ b. let n : count_at (d.cell b) ≡ count_at (c.cell b) = (λ j. count_at (dc j b)) in inr (omega arith);
  named = ring;
})

-- what a slot has is a cell
slot_copy : (c : State) (i : ℕ) → Sound c → i < slots c.opening → c.slot i ≢ 0 → IsCopy c.cell (clause_at c (c.slot i))
slot_copy c i s lt nz = let t = slot_cell c.opening c s.counts i lt nz in clause_is c (c.slot i) t.0 c.cell t.1 (keeps_same c.cell)

pub puts : (c : State) (r to k l a : ℕ) → Sound c → IsEnabled c (Put r to k l a) → Sound (after c (Put r to k l a))
puts c r to k l a s e =
    let d : State = after c (Put r to k l a) in
    let i : ℕ = slot_of c.opening r to k l in
    let old : ClauseAt = clause_at c (c.slot i) in
    let p : Part = put_part (record { to = to; class = k; place = l; address = a }) old (c.part r) in
    let lt = slot_below c.opening r to k l e.0 e.1 e.3 e.4 in
    record {
      opens = s.opens;
      counts = swaps c d r i a p s e.0 lt refl refl refl refl (s.counts.named r) refl refl refl
          (let z = s.counts.addresses r in let y = at_fewer a 0 (c.part r).held in let q = at_some_zero old (without_at a (c.part r).held) in omega arith)
          (λ b nz. let x = at_some old b (without_at a (c.part r).held) nz in let y = at_without a b (c.part r).held e.5 in omega arith);
      starts = s.starts;
      copies = copies_put c r p s (all_some (IsCopy c.cell) old (without_at a (c.part r).held) (all_without (IsCopy c.cell) a (c.part r).held (s.copies.held r e.0)) (λ nz. slot_copy c i s lt nz)) (s.copies.making r e.0) (s.copies.waiting r e.0);
      cells = s.cells;
      whole = s.whole;
      slots = slots_put c.opening c d r to k l a p s.slots e.1 e.3 e.4 refl refl refl;
      log = s.log;
      entries = owned_same c.opening c r p s.entries refl;
      freshness = s.freshness;
      units = units_part c r p s (has_seen c r s);
      turns = s.turns;
      stops = s.stops;
      tickets = tickets_put c.opening c.drawn c.part r p s.tickets refl refl (λ t. t);
    }

pub gets : (c : State) (r from k l : ℕ) → Sound c → IsEnabled c (Get r from k l) → Sound (after c (Get r from k l))
gets c r from k l s e =
    let d : State = after c (Get r from k l) in
    let i : ℕ = slot_of c.opening from r k l in
    let old : ClauseAt = clause_at c (c.slot i) in
    let p : Part = got_part old (c.part r) in
    let lt = slot_below c.opening from r k l e.1 e.0 e.3 e.4 in
    record {
      opens = s.opens;
      counts = swaps c d r i 0 p s e.0 lt refl refl refl refl (s.counts.named r) refl refl refl
          (let z = s.counts.addresses r in let q = at_some_zero old (c.part r).held in omega arith)
          (λ b nz. let x = at_some old b (c.part r).held nz in let z : one_if (0 == b) ≡ 0 = ap one_if (ne_eqb 0 b (λ h. nz (sym h))) in omega arith);
      starts = s.starts;
      copies = copies_put c r p s (all_some (IsCopy c.cell) old (c.part r).held (s.copies.held r e.0) (λ nz. slot_copy c i s lt nz)) (s.copies.making r e.0) (s.copies.waiting r e.0);
      cells = s.cells;
      whole = s.whole;
      slots = slots_got c.opening c d i s.slots (puts_same c r p refl) refl;
      log = s.log;
      entries = owned_same c.opening c r p s.entries refl;
      freshness = s.freshness;
      units = units_part c r p s (has_seen c r s);
      turns = s.turns;
      stops = s.stops;
      tickets = tickets_put c.opening c.drawn c.part r p s.tickets refl refl (λ t. t);
    }
