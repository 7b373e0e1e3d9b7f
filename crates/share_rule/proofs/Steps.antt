-- Shares and drops keep the rule.
use Rattle.std.proofs.Common.{◌≡◌, ℕ, ◌+◌, ◌-◌, ◌*◌, ◌%◌, ◌^◌, ◌<◌, ◌≤◌, true, List, [], ◌∷◌, ◌++◌, All, set, refl, sym, ap, ◌∙◌, subst, arith, inr, Option, Some, None, Bool}
use Rattle.std.specs.Prelude.{slice_index}
use mathlib.Core.Option.{some, some-injective, some-ne-none}
use mathlib.Core.Option as maybe
use lib.ListN.{get_elem?}
use Rattle.atomic_table.specs.Table.{State as Table, Me, keeps, step, Allows}
use Rattle.atomic_table.proofs.Lists.{set_here}
use Rattle.rup_model.specs.declared.journal.Entry.{Entry}
use Rattle.rup_model.specs.Basics.{below}
use Rattle.rup_model.proofs.Sums.{put_here, put_else, below_most}
use Rattle.share_core.specs.declared.event.TheConstants.{MAX_SHARES}
use Rattle.share_core.specs.declared.event.Event.TheVariants.{Share, DropCount}
use Rattle.share_core.specs.declared.part.CoreOpening.{CoreOpening}
use Rattle.share_core.specs.declared.part.Part.{Part}
use Rattle.share_core.specs.declared.stored.ClauseAt.{ClauseAt}
use Rattle.share_core.specs.declared.stored.Cell.{Cell}
use Rattle.share_rule.specs.Views.{is_ready}
use Rattle.share_core.specs.State.{State, times_at, count_at, clause_at}
use Rattle.share_core.specs.Events.{recounted, after, shared_part, dropped_part}
use Rattle.share_core.specs.Sound.{Sound}
use Rattle.share_core.proofs.Counting.{some_same, none_some, held_counted, held_cell}
use Rattle.share_core.proofs.ClauseLists.{all_in}
use Rattle.share_rule.specs.declared.view.BookOrigin.{BookOrigin}
use Rattle.share_rule.specs.declared.Layout.{Layout}
use Rattle.share_rule.specs.declared.rule.Key.{Key}
use Rattle.share_rule.specs.declared.view.RingPart.{RingPart}
use Rattle.share_rule.specs.declared.view.View.{View}
use Rattle.share_rule.specs.Layout.{first_cell}
use Rattle.share_rule.specs.Views.{only, clause_in, glue_in, IsHolding}
use Rattle.share_rule.specs.Steps.{on_first, share_part, drop_part, after_share, after_drop}
use Rattle.share_rule.specs.Seen.{IsPart, Seen}
use Rattle.share_rule.specs.Shown.{Words, Shown, Shows, IsStored, ring_of}
use Rattle.share_rule.specs.Told.{shared, dropped}
use Rattle.share_core.proofs.Leaving.{left_sound, left_one}
use Rattle.share_rule.proofs.Lists.{first_at, all_without, all_more, at_in}
use Rattle.share_rule.proofs.Parts.{held_is, held_clause, is_open, standing_of, seen_of}
use Rattle.share_rule.proofs.Words.{clause_recounted, places_recounted, count_words, recount_stored, unit_kept}
use Rattle.share_rule.proofs.Lone.{counted_alone}
use Rattle.share_rule.proofs.Moves.{one_ring, Stays, frame_of, given_same, stops_same, moved}

-- what a changed count leaves alone
pub recount_stays : (c : State) (r a n : ℕ) (p : Part) → Stays c (recounted c r a n p)
recount_stays c r a n p = record { opening = refl; journal = refl; turn = refl; units = refl; stop = refl; slots = λ _. refl; clauses = clause_recounted c r a n p }

pub stays_still : (c : State) → Stays c c
stays_still c = record { opening = refl; journal = refl; turn = refl; units = refl; stop = refl; slots = λ _. refl; clauses = λ _. refl }

no_maker : (y x : Cell) (i : ℕ) → Some y ≡ Some x → x.maker ≡ None → y.maker ≡ Some i → ⊥
no_maker y x i e o mk = none_some i (sym o ∙ sym (ap (λ (z : Cell). z.maker) (some_same y x e)) ∙ mk)

module _ {S : Type 0} (stands : S → BookOrigin → Layout → CoreOpening → List Entry → Bool → Type 0) (k : Key) where
  -- what a step tells of the view that it leaves
  pub told : (s : Table (Option S) View) (ws : List ℕ) (id : ℕ) (v w : View) → get_elem? s.views id ≡ some v → is_ready w.stage ≡ true
      → Shows stands k.layout (record { words = ws; homes = s.homes; views = set s.views id w }) → Seen w
  told s ws id v w at ready next = seen_of stands k.layout (record { words = ws; homes = s.homes; views = set s.views id w }) id w next (set_here s.views id w (at_in s.views id v at)) ready

  -- what a drop finds, if there is no other ring
  alone_found : (s : Table (Option S) View) (h : Shows stands k.layout s) (id a : ℕ) (v : View) → get_elem? s.views id ≡ some v → is_ready v.stage ≡ true → IsHolding a v → v.opening.rings ≡ 1
      → slice_index s.words a ≡ times_at a (only v).core.held
  alone_found s h id a v at ready holding alone =
      let c : State = h.core in
      let p : RingPart = only v in
      let r : ℕ = ring_of p in
      let fit = h.each id v at in
      let mine = one_ring k.layout c h.glue h.owner id v fit holding.0 in
      let part : IsPart k.layout c h.glue p = mine.0 in
      let held : 0 < times_at a (c.part r).held = subst (λ (q : Part). 0 < times_at a q.held) part.part holding.1 in
      let sound : Sound c = left_sound c.opening c h.left in
      let one : c.opening.rings ≡ 1 = sym (ap (λ (o : CoreOpening). o.rings) (fit.told ready).1) ∙ alone in
      let t = held_cell c.opening c sound.counts r a part.ring held in
      h.words.count_is a t.0 t.1 t.3 ∙ t.2
      ∙ counted_alone c r a h.left one part.ring mine.2 (held_counted c.opening c sound.counts r a part.ring held).0
      ∙ sym (ap (λ (q : Part). times_at a q.held) part.part)

  pub drop_next : (s : Table (Option S) View) (h : Shows stands k.layout s) (id a : ℕ) (v : View) → get_elem? s.views id ≡ some v → is_ready v.stage ≡ true → IsHolding a v → slice_index s.words a < 2 ^ 64
      → (n : Shows stands k.layout (record { words = set s.words a ((slice_index s.words a + (2 ^ 64 - 1)) % 2 ^ 64); homes = s.homes; views = set s.views id (after_drop a (slice_index s.words a) v) })) × (n.core ≡ after h.core (DropCount (ring_of (only v)) a))
  drop_next s h id a v at ready holding small =
      let l : Layout = k.layout in
      let n : ℕ = slice_index s.words a in
      let c : State = h.core in
      let p : RingPart = only v in
      let r : ℕ = ring_of p in
      let mine = one_ring l c h.glue h.owner id v (h.each id v at) holding.0 in
      let part : IsPart l c h.glue p = mine.0 in
      let held : 0 < times_at a (c.part r).held = subst (λ (q : Part). 0 < times_at a q.held) part.part holding.1 in
      let sound : Sound c = left_sound c.opening c h.left in
      let is = held_is c sound r a part.ring held in
      let x : Cell = is.0 in
      let some_count : 0 < x.count = is.3 in
      let n_is : n ≡ x.count = h.words.count_is a x is.1 is.2 in
      let n_cell : n ≡ count_at (c.cell a) = n_is ∙ sym (ap count_at is.1) in
      let m : ℕ = (n + (2 ^ 64 - 1)) % 2 ^ 64 in
      let m_is : m ≡ count_at (c.cell a) - 1 = omega arith in
      let clause : clause_in a p.core.held ≡ clause_at c a = ap (λ (q : Part). clause_in a q.held) part.part ∙ held_clause c sound r a part.ring held in
      let d : State = after c (DropCount r a) in
      let q' : Part = dropped_part (clause_at c a) (count_at (c.cell a)) (c.part r) in
      let stays : Stays c d = recount_stays c r a (count_at (c.cell a) - 1) q' in
      let w : View = after_drop a n v in
      let new : (dropped_part (clause_in a p.core.held) n p.core) ≡ q' = (λ i. dropped_part (clause i) (n_cell i) (part.part i)) in
      let glues : All (λ (h' : ClauseAt). glue_in h'.number p.glues ≡ h.glue h'.number) (dropped_part (clause_in a p.core.held) n p.core).held =
      all_without (λ (h' : ClauseAt). glue_in h'.number p.glues ≡ h.glue h'.number) (clause_in a p.core.held).address p.core.held part.glues in
      let lo : first_cell l ≤ a = ((standing_of stands l s h).inside a x is.1).0 in
      let hi = ((standing_of stands l s h).inside a x is.1).1 in
      moved stands l s h d h.glue id v w (drop_part a n p) (set s.words a m) s.homes at
      (left_one c.opening c (DropCount r a) h.left (part.ring, held))
      (places_recounted l c (standing_of stands l s h) a (count_at (c.cell a) - 1) x is.1 r q' h.places)
      (subst (λ (y : ℕ). Words l d h.glue (set s.words a y)) (sym m_is) (count_words l c (standing_of stands l s h) a (count_at (c.cell a) - 1) x is.1 r q' h.glue s.words (h.words.cell_is a x is.1 is.2) h.words))
      (frame_of r c d h.glue stays (λ _ _. refl) (put_else c.part r q')) (λ _. refl) h.home holding.0 refl (ap (on_first (drop_part a n)) holding.0) refl refl refl refl refl
      (stops_same c.stop v w (drop_part a n p) holding.0 (ap (on_first (drop_part a n)) holding.0) refl refl (h.each id v at).stops)
      (record { ring = part.ring; part = new ∙ sym (put_here c.part r q'); glues = glues; made_glues = part.made_glues; turn = part.turn; listed = part.listed; whole = part.whole; refused = part.refused; set = part.set; ended_is = part.ended_is; given = given_same c d r p.gave refl stays.slots stays.clauses part.given })
      (λ y _ z. (
        subst (λ (u : ℕ). IsStored d (set s.words a u) (ring_of y) y.stored) (sym m_is) (recount_stored l c (standing_of stands l s h) a (count_at (c.cell a) - 1) x is.1 r q' s.words (ring_of y) y.stored (λ y' e mk. no_maker y' x (ring_of y) (sym e ∙ is.1) is.2 mk) z.0),
        unit_kept l c d s.words a m y refl refl (λ k' lt. ((λ e. omega arith), (λ e. omega arith))) z.1,
      ))
      (let own = h.stored id v 0 p at (ap (λ ps. get_elem? ps 0) holding.0) in (
        subst (λ (u : ℕ). IsStored d (set s.words a u) r p.stored) (sym m_is) (recount_stored l c (standing_of stands l s h) a (count_at (c.cell a) - 1) x is.1 r q' s.words r p.stored (λ y' e mk. no_maker y' x r (sym e ∙ is.1) is.2 mk) own.0),
        unit_kept l c d s.words a m p refl refl (λ k' lt. ((λ e. omega arith), (λ e. omega arith))) own.1,
      ))

  pub drops : (slots id : ℕ) (me : Me (Option S) View) (a : ℕ) → is_ready me.0.stage ≡ true → IsHolding a me.0
      → Allows (Shown stands k) slots id me a (λ n. (n + (2 ^ 64 - 1)) % 2 ^ 64) (dropped (step slots a 1 0 maybe.none) me)
  drops slots id me a ready holding s shown wide at small =
      let h : Shows stands k.layout s = is_open stands k s id me.0 shown at ready in
      let n : ℕ = slice_index s.words a in
      let next = drop_next s h id a me.0 at ready holding small in
      (after_drop a n me.0, keeps, tt, inr next.0, ((refl, refl, told s (set s.words a ((n + (2 ^ 64 - 1)) % 2 ^ 64)) id me.0 (after_drop a n me.0) at ready next.0), alone_found s h id a me.0 at ready holding))

  pub share_next : (s : Table (Option S) View) (h : Shows stands k.layout s) (id a : ℕ) (v : View) → get_elem? s.views id ≡ some v → is_ready v.stage ≡ true → IsHolding a v → (only v).core.shared < MAX_SHARES
      → (n : Shows stands k.layout (record { words = set s.words a ((slice_index s.words a + 1) % 2 ^ 64); homes = s.homes; views = set s.views id (after_share a (slice_index s.words a) v) })) × (n.core ≡ after h.core (Share (ring_of (only v)) a))
  share_next s h id a v at ready holding room =
      let l : Layout = k.layout in
      let n : ℕ = slice_index s.words a in
      let c : State = h.core in
      let p : RingPart = only v in
      let r : ℕ = ring_of p in
      let mine = one_ring l c h.glue h.owner id v (h.each id v at) holding.0 in
      let part : IsPart l c h.glue p = mine.0 in
      let held : 0 < times_at a (c.part r).held = subst (λ (q : Part). 0 < times_at a q.held) part.part holding.1 in
      let room' : (c.part r).shared < MAX_SHARES = subst (λ (q : Part). q.shared < MAX_SHARES) part.part room in
      let sound : Sound c = left_sound c.opening c h.left in
      let is = held_is c sound r a part.ring held in
      let x : Cell = is.0 in
      let n_is : n ≡ x.count = h.words.count_is a x is.1 is.2 in
      let n_cell : n ≡ count_at (c.cell a) = n_is ∙ sym (ap count_at is.1) in
      let few = h.left.opens.few_rings in
      let most = below_most c.opening.rings MAX_SHARES (λ i. (c.part i).shared) sound.counts.few in
      let bound = sound.counts.bounded a in
      let m : ℕ = (n + 1) % 2 ^ 64 in
      let m_is : m ≡ count_at (c.cell a) + 1 = few_counts n (count_at (c.cell a)) c.opening.rings (below c.opening.rings (λ i. (c.part i).shared)) n_cell bound most few in
      let f = first_at a p.core.held holding.1 in
      let clause : clause_in a p.core.held ≡ clause_at c a = ap (λ (q : Part). clause_in a q.held) part.part ∙ held_clause c sound r a part.ring held in
      let d : State = after c (Share r a) in
      let q' : Part = shared_part (clause_at c a) (c.part r) in
      let stays : Stays c d = recount_stays c r a (count_at (c.cell a) + 1) q' in
      let w : View = after_share a n v in
      let new : shared_part (clause_in a p.core.held) p.core ≡ q' = (λ i. shared_part (clause i) (part.part i)) in
      let glues : All (λ (h' : ClauseAt). glue_in h'.number p.glues ≡ h.glue h'.number) (p.core.held ++ clause_in a p.core.held ∷ []) =
      all_more (λ (h' : ClauseAt). glue_in h'.number p.glues ≡ h.glue h'.number) p.core.held (clause_in a p.core.held) part.glues
      (all_in (λ (h' : ClauseAt). glue_in h'.number p.glues ≡ h.glue h'.number) p.core.held (clause_in a p.core.held) f.0 part.glues) in
      let lo : first_cell l ≤ a = ((standing_of stands l s h).inside a x is.1).0 in
      let hi = ((standing_of stands l s h).inside a x is.1).1 in
      moved stands l s h d h.glue id v w (share_part a p) (set s.words a m) s.homes at
      (left_one c.opening c (Share r a) h.left (part.ring, held, room'))
      (places_recounted l c (standing_of stands l s h) a (count_at (c.cell a) + 1) x is.1 r q' h.places)
      (subst (λ (y : ℕ). Words l d h.glue (set s.words a y)) (sym m_is) (count_words l c (standing_of stands l s h) a (count_at (c.cell a) + 1) x is.1 r q' h.glue s.words (h.words.cell_is a x is.1 is.2) h.words))
      (frame_of r c d h.glue stays (λ _ _. refl) (put_else c.part r q')) (λ _. refl) h.home holding.0 refl (ap (on_first (share_part a)) holding.0) refl refl refl refl refl
      (stops_same c.stop v w (share_part a p) holding.0 (ap (on_first (share_part a)) holding.0) refl refl (h.each id v at).stops)
      (record { ring = part.ring; part = new ∙ sym (put_here c.part r q'); glues = glues; made_glues = part.made_glues; turn = part.turn; listed = part.listed; whole = part.whole; refused = part.refused; set = part.set; ended_is = part.ended_is; given = given_same c d r p.gave refl stays.slots stays.clauses part.given })
      (λ y _ z. (
        subst (λ (u : ℕ). IsStored d (set s.words a u) (ring_of y) y.stored) (sym m_is) (recount_stored l c (standing_of stands l s h) a (count_at (c.cell a) + 1) x is.1 r q' s.words (ring_of y) y.stored (λ y' e mk. no_maker y' x (ring_of y) (sym e ∙ is.1) is.2 mk) z.0),
        unit_kept l c d s.words a m y refl refl (λ k' lt. ((λ e. omega arith), (λ e. omega arith))) z.1,
      ))
      (let own = h.stored id v 0 p at (ap (λ ps. get_elem? ps 0) holding.0) in (
        subst (λ (u : ℕ). IsStored d (set s.words a u) r p.stored) (sym m_is) (recount_stored l c (standing_of stands l s h) a (count_at (c.cell a) + 1) x is.1 r q' s.words r p.stored (λ y' e mk. no_maker y' x r (sym e ∙ is.1) is.2 mk) own.0),
        unit_kept l c d s.words a m p refl refl (λ k' lt. ((λ e. omega arith), (λ e. omega arith))) own.1,
      ))
    where
      few_counts : (n' count rings total : ℕ) → n' ≡ count → count ≤ rings + total → total ≤ rings * MAX_SHARES → rings ≤ 16 → (n' + 1) % 2 ^ 64 ≡ count + 1
      few_counts n' count rings total e b t f = omega arith

  pub shares : (slots id : ℕ) (me : Me (Option S) View) (a : ℕ) → is_ready me.0.stage ≡ true → IsHolding a me.0 → (only me.0).core.shared < MAX_SHARES
      → Allows (Shown stands k) slots id me a (λ n. (n + 1) % 2 ^ 64) (shared (step slots a 1 0 maybe.none) me)
  shares slots id me a ready holding room s shown wide at small =
      let h : Shows stands k.layout s = is_open stands k s id me.0 shown at ready in
      let n : ℕ = slice_index s.words a in
      let next = share_next s h id a me.0 at ready holding room in
      (after_share a n me.0, keeps, tt, inr next.0, (refl, refl, told s (set s.words a ((n + 1) % 2 ^ 64)) id me.0 (after_share a n me.0) at ready next.0))
