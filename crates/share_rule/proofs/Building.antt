-- Storing words of a cell and opening it keep the rule.
use Rattle.std.proofs.Common.{◌≡◌, ℕ, ◌+◌, ◌<◌, ◌≤◌, true, List, length, set, refl, sym, ap, ◌∙◌, subst, arith, inr, Option, Bool}
use Rattle.std.specs.Prelude.{slice_index}
use mathlib.Core.Option.{some, some-injective, some-ne-none}
use mathlib.Core.Option as maybe
use lib.ListN.{get_elem?}
use Rattle.atomic_table.specs.Table.{State as Table, Me, keeps, step, Allows}
use Rattle.rup_model.specs.declared.journal.Entry.{Entry}
use Rattle.rup_model.proofs.Sums.{put_here, put_else}
use Rattle.share_core.specs.declared.event.Event.TheVariants.{OpenCell}
use Rattle.share_core.specs.declared.part.CoreOpening.{CoreOpening}
use Rattle.share_core.specs.declared.part.Part.{Part}
use Rattle.share_core.specs.declared.stored.ClauseAt.{ClauseAt}
use Rattle.share_core.specs.declared.stored.Cell.{Cell}
use Rattle.share_rule.specs.Views.{is_ready}
use Rattle.share_core.specs.State.{State, times_at, number_at, lits_at, clause_at}
use Rattle.share_core.specs.Events.{after, opened_part}
use Rattle.share_core.specs.Sound.{Sound}
use Rattle.share_core.proofs.Counting.{some_same}
use Rattle.share_core.proofs.ClauseLists.{all_in}
use Rattle.share_rule.specs.declared.view.BookOrigin.{BookOrigin}
use Rattle.share_rule.specs.declared.Layout.{Layout}
use Rattle.share_rule.specs.declared.rule.Key.{Key}
use Rattle.share_rule.specs.declared.view.RingPart.{RingPart}
use Rattle.share_rule.specs.declared.view.View.{View}
use Rattle.sat_words.specs.Literal.{Literal}
use Rattle.share_rule.specs.Layout.{first_cell}
use Rattle.share_rule.specs.Cells.{Spells}
use Rattle.clause_cell.specs.Packing.{cell_word}
use Rattle.clause_cell.specs.Packing.{words_for}
use Rattle.share_rule.specs.Views.{only, clause_in, glue_in, making_of, IsBuilding, IsBuilt}
use Rattle.share_rule.specs.Steps.{stored_else, on_first, store_part, open_part, after_store, after_open}
use Rattle.share_rule.specs.Seen.{Stands, IsPart}
use Rattle.share_rule.specs.Shown.{Shown, Shows, IsStored, ring_of}
use Rattle.share_rule.specs.Told.{stored, opened_cell}
use Rattle.share_core.proofs.Leaving.{left_sound, left_one}
use Rattle.share_rule.proofs.Lists.{first_at, all_without, all_more}
use Rattle.share_rule.proofs.Parts.{building_is, building_clause, is_open, standing_of}
use Rattle.share_rule.proofs.Words.{places_recounted, count_words, recount_stored, unit_kept, store_words, store_else, store_own, spelled_by, open_stored}
use Rattle.share_rule.proofs.Moves.{one_ring, Stays, frame_of, given_same, stops_same, moved}
use Rattle.share_rule.proofs.Steps.{told, recount_stays, stays_still}

module _ {S : Type 0} (stands : S → BookOrigin → Layout → CoreOpening → List Entry → Bool → Type 0) (k : Key) where
  pub store_next : (s : Table (Option S) View) (h : Shows stands k.layout s) (id a i n : ℕ) (v : View) → get_elem? s.views id ≡ some v → is_ready v.stage ≡ true → IsBuilding a v → 0 < i → i < words_for (length (making_of a v).lits)
      → (m : Shows stands k.layout (record { words = set s.words (a + i) n; homes = s.homes; views = set s.views id (after_store (a + i) n v) })) × (m.core ≡ h.core)
  store_next s h id a i n v at ready building some_i few_i =
      let l : Layout = k.layout in
      let c : State = h.core in
      let p : RingPart = only v in
      let r : ℕ = ring_of p in
      let mine = one_ring l c h.glue h.owner id v (h.each id v at) building.0 in
      let part : IsPart l c h.glue p = mine.0 in
      let making : 0 < times_at a (c.part r).making = subst (λ (q : Part). 0 < times_at a q.making) part.part building.1 in
      let sound : Sound c = left_sound c.opening c h.left in
      let is = building_is c sound r a part.ring making in
      let x : Cell = is.0 in
      let clause : making_of a v ≡ clause_at c a = ap (λ (q : Part). clause_in a q.making) part.part ∙ building_clause c sound r a part.ring making in
      let size : length (making_of a v).lits ≡ length x.lits = ap (λ (q : ClauseAt). length q.lits) clause ∙ ap (λ (q : Option Cell). length (lits_at q)) is.1 in
      let hi : a + i < a + words_for (length x.lits) = omega arith in
      let lo : a < a + i = omega arith in
      let st : Stands l c = standing_of stands l s h in
      let ends = (st.inside a x is.1).1 in
      let wide = h.words.wide in
      let begins : first_cell l ≤ a = (st.inside a x is.1).0 in
      let own = h.stored id v 0 p at (ap (λ ps. get_elem? ps 0) building.0) in
      moved stands l s h c h.glue id v (after_store (a + i) n v) (store_part (a + i) n p) (set s.words (a + i) n) s.homes at h.left h.places
      (store_words l c st a x is.1 r is.2 (a + i) n lo hi h.glue s.words h.words) (frame_of r c c h.glue (stays_still c) (λ _ _. refl) (λ _ _. refl)) (λ _. refl) h.home building.0 refl (ap (on_first (store_part (a + i) n)) building.0) refl refl refl refl refl
      (stops_same c.stop v (after_store (a + i) n v) (store_part (a + i) n p) building.0 (ap (on_first (store_part (a + i) n)) building.0) refl refl (h.each id v at).stops)
      (record { ring = part.ring; part = part.part; glues = part.glues; made_glues = part.made_glues; turn = part.turn; listed = part.listed; whole = part.whole; refused = part.refused; set = part.set; ended_is = part.ended_is; given = part.given })
      (λ y ne z. (store_else l c st a x is.1 r is.2 (a + i) n lo hi s.words (ring_of y) y.stored ne z.0, unit_kept l c c s.words (a + i) n y refl refl (λ k' lt. ((λ e. omega arith), (λ e. omega arith))) z.1))
      (store_own l c st a x is.1 r is.2 (a + i) n lo hi s.words p.stored (omega arith) own.0, unit_kept l c c s.words (a + i) n p refl refl (λ k' lt. ((λ e. omega arith), (λ e. omega arith))) own.1)

  pub stores : (slots id : ℕ) (me : Me (Option S) View) (a i n : ℕ) → is_ready me.0.stage ≡ true → IsBuilding a me.0 → 0 < i → i < words_for (length (making_of a me.0).lits)
      → Allows (Shown stands k) slots id me (a + i) (λ _. n) (λ _. stored (step slots (a + i) n 0 maybe.none) me n)
  stores slots id me a i n ready building some_i few_i s shown wide at small =
      let h : Shows stands k.layout s = is_open stands k s id me.0 shown at ready in
      let next = store_next s h id a i n me.0 at ready building some_i few_i in
      (after_store (a + i) n me.0, keeps, tt, inr next.0, (refl, refl, told stands k s (set s.words (a + i) n) id me.0 (after_store (a + i) n me.0) at ready next.0))

  pub open_next : (s : Table (Option S) View) (h : Shows stands k.layout s) (id a : ℕ) (v : View) → get_elem? s.views id ≡ some v → is_ready v.stage ≡ true → IsBuilding a v → IsBuilt a v
      → (m : Shows stands k.layout (record { words = set s.words a 1; homes = s.homes; views = set s.views id (after_open a v) })) × (m.core ≡ after h.core (OpenCell (ring_of (only v)) a))
  open_next s h id a v at ready building built =
      let l : Layout = k.layout in
      let c : State = h.core in
      let p : RingPart = only v in
      let r : ℕ = ring_of p in
      let mine = one_ring l c h.glue h.owner id v (h.each id v at) building.0 in
      let part : IsPart l c h.glue p = mine.0 in
      let making : 0 < times_at a (c.part r).making = subst (λ (q : Part). 0 < times_at a q.making) part.part building.1 in
      let sound : Sound c = left_sound c.opening c h.left in
      let is = building_is c sound r a part.ring making in
      let x : Cell = is.0 in
      let f = first_at a p.core.making building.1 in
      let clause : making_of a v ≡ clause_at c a = ap (λ (q : Part). clause_in a q.making) part.part ∙ building_clause c sound r a part.ring making in
      let lits : (making_of a v).lits ≡ x.lits = ap (λ (q : ClauseAt). q.lits) clause ∙ ap lits_at is.1 in
      let number : (making_of a v).number ≡ x.number = ap (λ (q : ClauseAt). q.number) clause ∙ ap number_at is.1 in
      let glue_is : glue_in (making_of a v).number p.glues ≡ h.glue x.number =
      all_in (λ (h' : ClauseAt). glue_in h'.number p.glues ≡ h.glue h'.number) p.core.making (making_of a v) f.0 part.made_glues ∙ ap h.glue number in
      let own = h.stored id v 0 p at (ap (λ ps. get_elem? ps 0) building.0) in
      let there : (i : ℕ) → 0 < i → i < words_for (length (making_of a v).lits) → slice_index s.words (a + i) ≡ cell_word (making_of a v).number (glue_in (making_of a v).number p.glues) (making_of a v).lits i =
      λ i lo hi. own.0.words (a + i) (cell_word (making_of a v).number (glue_in (making_of a v).number p.glues) (making_of a v).lits i) (built i lo hi) in
      let spells : Spells s.words a x.number (h.glue x.number) x.lits =
      subst (λ (y : ℕ × (ℕ × List Literal)). Spells s.words a y.0 y.1.0 y.1.1) (λ i. (number i, (glue_is i, lits i)))
      (spelled_by s.words a (making_of a v).number (glue_in (making_of a v).number p.glues) (making_of a v).lits there) in
      let st : Stands l c = standing_of stands l s h in
      let q' : Part = opened_part (clause_at c a) (c.part r) in
      let d : State = after c (OpenCell r a) in
      let stays : Stays c d = recount_stays c r a 1 q' in
      let new : opened_part (clause_in a p.core.making) p.core ≡ q' = (λ i. opened_part (clause i) (part.part i)) in
      let size : words_for (length x.lits) ≡ words_for (length (making_of a v).lits) = ap (λ (ks : List Literal). words_for (length ks)) (sym lits) in
      let lo : first_cell l ≤ a = (st.inside a x is.1).0 in
      let hi = (st.inside a x is.1).1 in
      moved stands l s h d h.glue id v (after_open a v) (open_part a p) (set s.words a 1) s.homes at
      (left_one c.opening c (OpenCell r a) h.left (part.ring, making))
      (places_recounted l c st a 1 x is.1 r q' h.places)
      (count_words l c st a 1 x is.1 r q' h.glue s.words spells h.words)
      (frame_of r c d h.glue stays (λ _ _. refl) (put_else c.part r q')) (λ _. refl) h.home building.0 refl (ap (on_first (open_part a)) building.0) refl refl refl refl refl
      (stops_same c.stop v (after_open a v) (open_part a p) building.0 (ap (on_first (open_part a)) building.0) refl refl (h.each id v at).stops)
      (record {
        ring = part.ring;
        part = new ∙ sym (put_here c.part r q');
        glues = all_more (λ (h' : ClauseAt). glue_in h'.number p.glues ≡ h.glue h'.number) p.core.held (making_of a v) part.glues
            (all_in (λ (h' : ClauseAt). glue_in h'.number p.glues ≡ h.glue h'.number) p.core.making (making_of a v) f.0 part.made_glues);
        made_glues = all_without (λ (h' : ClauseAt). glue_in h'.number p.glues ≡ h.glue h'.number) (making_of a v).address p.core.making part.made_glues;
        turn = part.turn;
        listed = part.listed;
        whole = part.whole;
        refused = part.refused;
        set = part.set;
        ended_is = part.ended_is;
        given = given_same c d r p.gave refl stays.slots stays.clauses part.given;
      })
      (λ y ne z. (recount_stored l c st a 1 x is.1 r q' s.words (ring_of y) y.stored (λ y' e mk. ne (some_same (ring_of y) r (sym mk ∙ ap (λ (z' : Cell). z'.maker) (some_same y' x (sym e ∙ is.1)) ∙ is.2))) z.0, unit_kept l c d s.words a 1 y refl refl (λ k' lt. ((λ e. omega arith), (λ e. omega arith))) z.1))
      (subst (λ (n : ℕ). IsStored d (set s.words a 1) r (stored_else a n p.stored)) size (open_stored l c st a 1 x is.1 r q' s.words r p.stored own.0), unit_kept l c d s.words a 1 p refl refl (λ k' lt. ((λ e. omega arith), (λ e. omega arith))) own.1)

  pub opens_cell : (slots id : ℕ) (me : Me (Option S) View) (a : ℕ) → is_ready me.0.stage ≡ true → IsBuilding a me.0 → IsBuilt a me.0
      → Allows (Shown stands k) slots id me a (λ _. 1) (λ _. opened_cell (step slots a 1 0 maybe.none) me 1)
  opens_cell slots id me a ready building built s shown wide at small =
      let h : Shows stands k.layout s = is_open stands k s id me.0 shown at ready in
      let next = open_next s h id a me.0 at ready building built in
      (after_open a me.0, keeps, tt, inr next.0, (refl, refl, told stands k s (set s.words a 1) id me.0 (after_open a me.0) at ready next.0))
