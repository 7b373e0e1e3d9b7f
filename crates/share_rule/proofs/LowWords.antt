-- What a changed word below the cells leaves of the others.
use Rattle.std.proofs.Common.{◌≡◌, ◌≢◌, ℕ, ◌*◌, ◌<◌, length, set, sym, ap, ◌∙◌, List, arith, length-set, get_or-set_other, get_or-set_same, Option}
use Rattle.std.specs.Prelude.{slice_index}
use mathlib.Core.Logic.{dite}
use native.Mathlib.Decide.{ℕ_discrete}
use Rattle.rup_model.specs.Basics.{put}
use Rattle.rup_model.proofs.Sums.{put_here, put_else}
use Rattle.share_core.specs.declared.event.Stop.{Stop}
use Rattle.share_core.specs.declared.part.Part.{Part}
use Rattle.share_core.specs.State.{State}
use Rattle.share_rule.specs.declared.Layout.{Layout}
use Rattle.share_rule.specs.declared.view.RingPart.{RingPart}
use Rattle.share_rule.specs.declared.view.StoredWord.{StoredWord}
use Rattle.share_rule.specs.Layout.{grant_at, unit_at, number_at, slots, slot_at, ticket_at, first_cell}
use Rattle.share_rule.specs.Seen.{Stands}
use Rattle.share_rule.specs.Shown.{Words, IsStored, IsOut, ring_of, stop_number}
use Rattle.share_rule.proofs.Words.{spells_else, unit_kept}

-- what rings stored stays, if no cell changes
low_stored : (l : Layout) (c d : State) (ws : List ℕ) (w n i : ℕ) (ss : List StoredWord) → Stands l c → w < first_cell l → ((a : ℕ) → d.cell a ≡ c.cell a) → IsStored c ws i ss → IsStored d (set ws w n) i ss
low_stored l c d ws w n i ss st low same h = record {
  words = λ v m e. let b = h.inside v m e in let lo = b.4 in let at = (st.inside b.0 b.1 b.2).0 in get_or-set_other ws w v n 0 (λ q. omega arith) ∙ h.words v m e;
  inside = λ v m e. let b = h.inside v m e in (b.0, b.1, same b.0 ∙ b.2, b.3, b.4, b.5);
}

-- and so does a unit that is not counted yet, if turn and units stay and the word is none of a unit's
pub low_out : (l : Layout) (c d : State) (ws : List ℕ) (w n : ℕ) (p : RingPart) → Stands l c → w < first_cell l → ((a : ℕ) → d.cell a ≡ c.cell a) → d.turn ≡ c.turn → d.units ≡ c.units → ((k : ℕ) → k < 2 * l.vars → (unit_at l k ≢ w) × (number_at l k ≢ w))
    → IsOut l c ws p → IsOut l d (set ws w n) p
low_out l c d ws w n p st low same turn units far z = (low_stored l c d ws w n (ring_of p) p.stored st low same z.0, unit_kept l c d ws w n p turn units far z.1)

-- the stop changes
pub stop_words : (l : Layout) (c : State) (glue : ℕ → ℕ) (ws : List ℕ) (o : Option Stop) → Stands l c → Words l c glue ws → Words l (record c { stop = o }) glue (set ws 1 (stop_number o))
stop_words l c glue ws o st w =
    let wide = w.wide in
    let in_ws : 1 < length ws = omega arith in
    let n : ℕ = stop_number o in
    record {
      wide = length-set ws 1 n ∙ w.wide;
      turn_is = get_or-set_other ws 1 0 n 0 (λ e. omega arith) ∙ w.turn_is;
      stop_is = get_or-set_same ws 1 n 0 in_ws;
      listed_is = get_or-set_other ws 1 2 n 0 (λ e. omega arith) ∙ w.listed_is;
      grant_is = λ i it. get_or-set_other ws 1 (grant_at i) n 0 (λ e. omega arith) ∙ w.grant_is i it;
      unit_is = λ j jt. get_or-set_other ws 1 (unit_at l j) n 0 (λ e. omega arith) ∙ w.unit_is j jt;
      slot_is = λ i it. get_or-set_other ws 1 (slot_at l i) n 0 (λ e. omega arith) ∙ w.slot_is i it;
      ticket_is = get_or-set_other ws 1 (ticket_at l) n 0 (λ e. omega arith) ∙ w.ticket_is;
      number_is = λ k kt. get_or-set_other ws 1 (number_at l k) n 0 (λ e. omega arith) ∙ w.number_is k kt;
      count_is = λ b y e o'. let at = (st.inside b y e).0 in get_or-set_other ws 1 b n 0 (λ q. omega arith) ∙ w.count_is b y e o';
      cell_is = λ b y e o'. let at = (st.inside b y e).0 in spells_else ws 1 n b y.number (glue y.number) y.lits (λ i some it q. omega arith) (w.cell_is b y e o');
    }

-- one slot changes
pub slot_words : (l : Layout) (c : State) (glue : ℕ → ℕ) (ws : List ℕ) (k n r : ℕ) (p : Part) → Stands l c → k < slots l → Words l c glue ws
    → Words l (record c { slot = put c.slot k n; part = put c.part r p }) glue (set ws (slot_at l k) n)
slot_words l c glue ws k n r p st lt w =
    let few = st.few in
    let wide = w.wide in
    let in_ws : slot_at l k < length ws = omega arith in
    record {
      wide = length-set ws (slot_at l k) n ∙ w.wide;
      turn_is = get_or-set_other ws (slot_at l k) 0 n 0 (λ e. omega arith) ∙ w.turn_is;
      stop_is = get_or-set_other ws (slot_at l k) 1 n 0 (λ e. omega arith) ∙ w.stop_is;
      listed_is = get_or-set_other ws (slot_at l k) 2 n 0 (λ e. omega arith) ∙ w.listed_is;
      grant_is = λ i it. get_or-set_other ws (slot_at l k) (grant_at i) n 0 (λ e. omega arith) ∙ w.grant_is i it;
      unit_is = λ j jt. get_or-set_other ws (slot_at l k) (unit_at l j) n 0 (λ e. omega arith) ∙ w.unit_is j jt;
      slot_is = λ i it. dite (ℕ_discrete i k)
          (λ e. ap (λ j. slice_index (set ws (slot_at l k) n) (slot_at l j)) e ∙ get_or-set_same ws (slot_at l k) n 0 in_ws ∙ sym (ap (put c.slot k n) e ∙ put_here c.slot k n))
          (λ ne. get_or-set_other ws (slot_at l k) (slot_at l i) n 0 (λ e. ne (omega arith)) ∙ w.slot_is i it ∙ sym (put_else c.slot k n i ne));
      ticket_is = get_or-set_other ws (slot_at l k) (ticket_at l) n 0 (λ e. omega arith) ∙ w.ticket_is;
      number_is = λ j jt. get_or-set_other ws (slot_at l k) (number_at l j) n 0 (λ e. omega arith) ∙ w.number_is j jt;
      count_is = λ b y e o. let at = (st.inside b y e).0 in get_or-set_other ws (slot_at l k) b n 0 (λ q. omega arith) ∙ w.count_is b y e o;
      cell_is = λ b y e o. let at = (st.inside b y e).0 in spells_else ws (slot_at l k) n b y.number (glue y.number) y.lits (λ i some it q. omega arith) (w.cell_is b y e o);
    }
