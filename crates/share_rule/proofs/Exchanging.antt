-- Puts and gets keep the rule.
use Rattle.std.proofs.Common.{◌≡◌, ◌≢◌, ℕ, ◌*◌, ◌<◌, cond, true, List, [], ◌∷◌, ◌++◌, All, set, refl, sym, ap, ◌∙◌, subst, arith, eq-eqb, ne_eqb, inl, inr, Bool, Option}
use Rattle.std.specs.Prelude.{slice_index, Contains}
use Rattle.std.proofs.lemmas.List.Elements.{Contains-append_left, Contains-append_right}
use mathlib.Core.Option.{some}
use mathlib.Core.Option as maybe
use mathlib.Core.Logic.{dite}
use native.Mathlib.Decide.{ℕ_discrete}
use lib.ListN.{get_elem?}
use Rattle.atomic_table.specs.Table.{State as Table, Me, keeps, step, Allows}
use Rattle.rup_model.specs.declared.journal.Entry.{Entry}
use Rattle.rup_model.proofs.Sums.{put_here, put_else, at_put}
use Rattle.share_core.specs.declared.event.Event.TheVariants.{Put, Get}
use Rattle.share_core.specs.declared.part.CoreOpening.{CoreOpening}
use Rattle.share_core.specs.declared.part.Part.{Part}
use Rattle.share_core.specs.declared.stored.ClauseAt.{ClauseAt}
use Rattle.share_core.specs.declared.stored.PutNote.{PutNote}
use Rattle.share_core.specs.State.{State, times_at, clause_at, without_at, with_cell, slot_of}
use Rattle.share_core.specs.Events.{after, exchanged, put_part, got_part}
use Rattle.share_core.specs.Sound.{Sound}
use Rattle.share_core.proofs.Counting.{slot_below}
use Rattle.share_core.proofs.Slots.{slot_own}
use Rattle.share_core.proofs.ClauseLists.{all_map, all_some}
use Rattle.share_core.proofs.Leaving.{left_sound, left_one}
use Rattle.share_rule.specs.declared.view.BookOrigin.{BookOrigin}
use Rattle.share_rule.specs.declared.Layout.{Layout}
use Rattle.share_rule.specs.declared.rule.Key.{Key}
use Rattle.share_rule.specs.declared.view.GlueAt.{GlueAt}
use Rattle.share_rule.specs.declared.view.RingPart.{RingPart}
use Rattle.share_rule.specs.declared.view.View.{View}
use Rattle.share_rule.specs.Layout.{slot_at, slots, first_cell}
use Rattle.share_rule.specs.Views.{only, clause_in, glue_in, is_ready, IsHolding}
use Rattle.share_rule.specs.Steps.{on_first}
use Rattle.share_rule.specs.Exchanges.{IsOther, slot_word, with_glue, KeepsGlues, gave_part, took_part, after_put, after_get}
use Rattle.share_rule.specs.Seen.{Stands, IsPart, HasGiven}
use Rattle.share_rule.specs.Shown.{Words, Fits, Shown, Shows, IsOut, ring_of}
use Rattle.share_rule.specs.Told.{Knows}
use Rattle.share_rule.specs.ExchangesTold.{did_put, did_get}
use Rattle.share_rule.proofs.Lists.{all_without}
use Rattle.share_rule.proofs.Parts.{held_clause, is_open, standing_of}
use Rattle.share_rule.proofs.LowWords.{low_out, slot_words}
use Rattle.share_rule.proofs.Moves.{one_ring, Frame, turn_same, refused_same, stops_same, moved}
use Rattle.share_rule.proofs.Steps.{told}

-- Glues

-- the list then has the glue of the clause
glue_here : (glue : ℕ → ℕ) (x : ClauseAt) (gs : List GlueAt) → x.address ≢ 0 → glue_in x.number (with_glue x (glue x.number) gs) ≡ glue x.number
glue_here glue x gs nz = (λ i. glue_in x.number (cond (ne_eqb x.address 0 nz i) gs (record { number = x.number; glue = glue x.number } ∷ gs)))
    ∙ (λ i. cond (eq-eqb x.number x.number refl i) (glue x.number) (glue_in x.number gs))

-- and the glues that it had
glue_kept : (glue : ℕ → ℕ) (x : ClauseAt) (gs : List GlueAt) (n : ℕ) → glue_in n gs ≡ glue n → glue_in n (with_glue x (glue x.number) gs) ≡ glue n
glue_kept glue x gs n h = dite (ℕ_discrete x.address 0)
    (λ e. (λ i. glue_in n (cond (eq-eqb x.address 0 e i) gs (record { number = x.number; glue = glue x.number } ∷ gs))) ∙ h)
    (λ nz. (λ i. glue_in n (cond (ne_eqb x.address 0 nz i) gs (record { number = x.number; glue = glue x.number } ∷ gs)))
    ∙ dite (ℕ_discrete x.number n)
    (λ e. (λ i. cond (eq-eqb x.number n e i) (glue x.number) (glue_in n gs)) ∙ ap glue e)
    (λ ne. (λ i. cond (ne_eqb x.number n ne i) (glue x.number) (glue_in n gs)) ∙ h))

-- those of these clauses
glues_kept : (glue : ℕ → ℕ) (x : ClauseAt) (gs : List GlueAt) (hs : List ClauseAt) → All (λ h. glue_in h.number gs ≡ glue h.number) hs → All (λ h. glue_in h.number (with_glue x (glue x.number) gs) ≡ glue h.number) hs
glues_kept glue x gs hs h = all_map (λ (k : ClauseAt). glue_in k.number gs ≡ glue k.number) (λ (k : ClauseAt). glue_in k.number (with_glue x (glue x.number) gs) ≡ glue k.number) hs (λ k _ e. glue_kept glue x gs k.number e) h

-- and the clause's
glues_with : (glue : ℕ → ℕ) (x : ClauseAt) (gs : List GlueAt) (hs : List ClauseAt) → All (λ h. glue_in h.number gs ≡ glue h.number) hs → All (λ h. glue_in h.number (with_glue x (glue x.number) gs) ≡ glue h.number) (with_cell x hs)
glues_with glue x gs hs h = all_some (λ (k : ClauseAt). glue_in k.number (with_glue x (glue x.number) gs) ≡ glue k.number) x hs (glues_kept glue x gs hs h) (λ nz. glue_here glue x gs nz)

keeps_glues : (glue : ℕ → ℕ) (x : ClauseAt) (p : RingPart) → All (λ h. glue_in h.number p.glues ≡ glue h.number) p.core.held → KeepsGlues x (glue x.number) p
keeps_glues glue x p h = all_map (λ (k : ClauseAt). glue_in k.number p.glues ≡ glue k.number) (λ (k : ClauseAt). glue_in k.number (with_glue x (glue x.number) p.glues) ≡ glue_in k.number p.glues) p.core.held (λ k _ e. glue_kept glue x p.glues k.number e ∙ sym e) h

-- What slots have

-- of a changed slot it is the new address's clause
exchanged_given : (c : State) (r s a : ℕ) (p : Part) (i : ℕ) (gave : List ClauseAt) → HasGiven c i gave
    → ((to class place : ℕ) → to < c.opening.rings → class < 4 → place < c.opening.depth → slot_of c.opening i to class place ≡ s → a ≢ 0 → Contains gave (clause_at c a)) → HasGiven (exchanged c r s a p) i gave
exchanged_given c r s a p i gave h new = λ to class place lt few there some.
    at_put c.slot s a (λ (n : ℕ). n ≢ 0 → Contains gave (clause_at c n)) (slot_of c.opening i to class place) (λ e nz. new to class place lt few there e nz) (λ _ nz. h to class place lt few there nz) some

-- what an exchange leaves alone
exchange_frame : (c : State) (r s a : ℕ) (p : Part) (glue : ℕ → ℕ) → ((i to class place : ℕ) → i ≢ r → to < c.opening.rings → class < 4 → place < c.opening.depth → slot_of c.opening i to class place ≡ s → a ≡ 0) → Frame r c (exchanged c r s a p) glue glue
exchange_frame c r s a p glue empty =
    let d : State = exchanged c r s a p in
    record {
      opening = refl;
      granted = λ _ _. refl;
      part = put_else c.part r p;
      turn = λ i ne. turn_same c d i refl refl;
      units = omega arith;
      kept_turn = λ i ne e. (e, refl);
      refused = λ y. refused_same y c d refl refl;
      own = λ i ne. refl;
      stop_stays = λ t e. e;
      stop_new = λ t e. inl e;
      ends = λ e. e;
      given = λ i gave ne lt h. exchanged_given c r s a p i gave h (λ to class place at few there e nz. absurd (nz (empty i to class place ne at few there e)));
      glue_kept = λ n lt. refl;
    }

module _ {S : Type 0} (stands : S → BookOrigin → Layout → CoreOpening → List Entry → Bool → Type 0) (k : Key) where
  -- a slot of one ring for another
  slot_is_at : (s : Table (Option S) View) (h : Shows stands k.layout s) (id : ℕ) (v : View) → get_elem? s.views id ≡ some v → is_ready v.stage ≡ true → (from to class place : ℕ)
      → slot_word v from to class place ≡ slot_at k.layout (slot_of h.core.opening from to class place)
  slot_is_at s h id v at ready from to class place = let t = (h.each id v at).told ready in λ i. slot_at (t.0 i) (slot_of (t.1 i) from to class place)

  pub put_next : (s : Table (Option S) View) (h : Shows stands k.layout s) (id to class place a : ℕ) (v : View) → get_elem? s.views id ≡ some v → is_ready v.stage ≡ true → IsHolding a v → IsOther to v → class < 4 → place < v.opening.depth
      → (x : ClauseAt) × (g : ℕ) × (x.address ≡ slice_index s.words (slot_word v (ring_of (only v)) to class place)) × KeepsGlues x g (only v) × (x.address ≢ 0 → Contains (only v).gave x)
      × ((n : Shows stands k.layout (record { words = set s.words (slot_word v (ring_of (only v)) to class place) a; homes = s.homes; views = set s.views id (after_put to class place a x g v) })) × (n.core ≡ after h.core (Put (ring_of (only v)) to class place a)))
  put_next s h id to class place a v at ready holding other few there =
      let l : Layout = k.layout in
      let c : State = h.core in
      let p : RingPart = only v in
      let r : ℕ = ring_of p in
      let f : Fits l c h.glue h.owner id v = h.each id v at in
      let mine = one_ring l c h.glue h.owner id v f holding.0 in
      let part : IsPart l c h.glue p = mine.0 in
      let held : 0 < times_at a (c.part r).held = subst (λ (q : Part). 0 < times_at a q.held) part.part holding.1 in
      let sound : Sound c = left_sound c.opening c h.left in
      let clause : clause_in a p.core.held ≡ clause_at c a = ap (λ (q : Part). clause_in a q.held) part.part ∙ held_clause c sound r a part.ring held in
      let shown = f.told ready in
      let lt : to < c.opening.rings = subst (λ (o : CoreOpening). to < o.rings) shown.1 other.1 in
      let below : place < c.opening.depth = subst (λ (o : CoreOpening). place < o.depth) shown.1 there in
      let st : Stands l c = standing_of stands l s h in
      let i : ℕ = slot_of c.opening r to class place in
      let below_all = slot_below c.opening r to class place part.ring lt few below in
      let in_slots : i < slots l = subst (λ (y : ℕ × ℕ). i < 4 * (y.0 * y.0) * y.1) (λ j. (sym st.rings j, sym st.depth j)) below_all in
      let word = slot_is_at s h id v at ready r to class place in
      let x : ClauseAt = clause_at c (c.slot i) in
      let g : ℕ = h.glue x.number in
      let note : PutNote = record { to = to; class = class; place = place; address = a } in
      let found : c.slot i ≡ slice_index s.words (slot_word v r to class place) = sym (ap (slice_index s.words) word ∙ h.words.slot_is i in_slots) in
      let q' : Part = put_part note x (c.part r) in
      let d : State = after c (Put r to class place a) in
      let low : slot_at l i < first_cell l = omega arith in
      let given : HasGiven d r (p.gave ++ clause_in a p.core.held ∷ []) = exchanged_given c r i a q' r (p.gave ++ clause_in a p.core.held ∷ [])
      (λ to' class' place' lt' few' there' some. Contains-append_left p.gave (clause_in a p.core.held ∷ []) (clause_at c (c.slot (slot_of c.opening r to' class' place'))) (part.given to' class' place' lt' few' there' some))
      (λ to' class' place' lt' few' there' e nz. subst (λ (y : ClauseAt). Contains (p.gave ++ clause_in a p.core.held ∷ []) y) clause (Contains-append_right p.gave (clause_in a p.core.held ∷ []) (clause_in a p.core.held) (0, omega arith, refl))) in (
        x,
        g,
        found,
        keeps_glues h.glue x p part.glues,
        part.given to class place lt few below,
        moved stands l s h d h.glue id v (after_put to class place a x g v) (gave_part note x g p) (set s.words (slot_word v r to class place) a) s.homes at
            (left_one c.opening c (Put r to class place a) h.left (part.ring, lt, other.2, few, below, held))
            (record { rings = h.places.rings; depth = h.places.depth; limit = h.places.limit; small = h.places.small; words = h.places.words; only = h.places.only; tiled = h.places.tiled; vars = h.places.vars; starts = h.places.starts; entries = h.places.entries; units = h.places.units; few = h.places.few; first = h.places.first })
            (subst (λ (y : ℕ). Words l d h.glue (set s.words y a)) (sym word) (slot_words l c h.glue s.words i a r q' st in_slots h.words))
            (exchange_frame c r i a q' h.glue (λ i' to' class' place' ne lt' few' there' e. absurd (ne (slot_own c.opening i' to' class' place' r to class place lt' lt few' few there' below e).0)))
            (λ _. refl) h.home holding.0 refl (ap (on_first (gave_part note x g)) holding.0) refl refl refl refl refl
            (stops_same c.stop v (after_put to class place a x g v) (gave_part note x g p) holding.0 (ap (on_first (gave_part note x g)) holding.0) refl refl f.stops)
            (record {
              ring = part.ring;
              part = (λ j. put_part note x (part.part j)) ∙ sym (put_here c.part r q');
              glues = glues_with h.glue x p.glues (without_at a p.core.held) (all_without (λ (h' : ClauseAt). glue_in h'.number p.glues ≡ h.glue h'.number) a p.core.held part.glues);
              made_glues = glues_kept h.glue x p.glues p.core.making part.made_glues;
              turn = part.turn;
              listed = part.listed;
              whole = part.whole;
              refused = part.refused;
              set = part.set;
              ended_is = part.ended_is;
              given = given;
            })
            (λ y _ z. subst (λ (u : ℕ). IsOut l d (set s.words u a) y) (sym word) (low_out l c d s.words (slot_at l i) a y st low (λ _. refl) refl refl (λ k' lt'. ((λ e. omega arith), (λ e. omega arith))) z))
            (subst (λ (u : ℕ). IsOut l d (set s.words u a) (gave_part note x g p)) (sym word) (low_out l c d s.words (slot_at l i) a (gave_part note x g p) st low (λ _. refl) refl refl (λ k' lt'. ((λ e. omega arith), (λ e. omega arith))) (h.stored id v 0 p at (ap (λ ps. get_elem? ps 0) holding.0)))),
      )

  pub puts : (slots id : ℕ) (me : Me (Option S) View) (to class place a : ℕ) → is_ready me.0.stage ≡ true → IsHolding a me.0 → IsOther to me.0 → class < 4 → place < me.0.opening.depth
      → Allows (Shown stands k) slots id me (slot_word me.0 (ring_of (only me.0)) to class place) (λ _. a) (did_put (step slots (slot_word me.0 (ring_of (only me.0)) to class place) a 0 maybe.none) me)
  puts slots id me to class place a ready holding other few there s shown wide at small =
      let h : Shows stands k.layout s = is_open stands k s id me.0 shown at ready in
      let v : View = me.0 in
      let r : ℕ = ring_of (only v) in
      let w : ℕ = slot_word v r to class place in
      let t = put_next s h id to class place a v at ready holding other few there in
      let x : ClauseAt = t.0 in
      let g : ℕ = t.1 in
      let known : Knows (after_put to class place a x g v) me (after_put to class place a x g v, me.1) = (refl, refl, told stands k s (set s.words w a) id v (after_put to class place a x g v) at ready t.5.0) in (
        after_put to class place a x g v,
        keeps,
        tt,
        inr t.5.0,
        λ to' class' place' lt' few' there' e.
            let same = slot_own v.opening r to class place r to' class' place' other.1 lt' few few' there there' (omega arith) in
            (x, g, subst (λ (y : ℕ × (ℕ × ℕ)). Knows (after_put y.0 y.1.0 y.1.1 a x g v) me (after_put to class place a x g v, me.1)) (λ i. (same.1 i, (same.2 i, same.3 i))) known, t.2, t.3, λ nz. t.4 (λ z. nz (sym t.2 ∙ z))),
      )

  pub get_next : (s : Table (Option S) View) (h : Shows stands k.layout s) (id from class place : ℕ) (v : View) → get_elem? s.views id ≡ some v → is_ready v.stage ≡ true → IsOther from v → class < 4 → place < v.opening.depth
      → (x : ClauseAt) × (g : ℕ) × (x.address ≡ slice_index s.words (slot_word v from (ring_of (only v)) class place)) × KeepsGlues x g (only v)
      × ((n : Shows stands k.layout (record { words = set s.words (slot_word v from (ring_of (only v)) class place) 0; homes = s.homes; views = set s.views id (after_get from class place x g v) })) × (n.core ≡ after h.core (Get (ring_of (only v)) from class place)))
  get_next s h id from class place v at ready other few there =
      let l : Layout = k.layout in
      let c : State = h.core in
      let p : RingPart = only v in
      let r : ℕ = ring_of p in
      let f : Fits l c h.glue h.owner id v = h.each id v at in
      let mine = one_ring l c h.glue h.owner id v f other.0 in
      let part : IsPart l c h.glue p = mine.0 in
      let shown = f.told ready in
      let lt : from < c.opening.rings = subst (λ (o : CoreOpening). from < o.rings) shown.1 other.1 in
      let below : place < c.opening.depth = subst (λ (o : CoreOpening). place < o.depth) shown.1 there in
      let st : Stands l c = standing_of stands l s h in
      let i : ℕ = slot_of c.opening from r class place in
      let below_all = slot_below c.opening from r class place lt part.ring few below in
      let in_slots : i < slots l = subst (λ (y : ℕ × ℕ). i < 4 * (y.0 * y.0) * y.1) (λ j. (sym st.rings j, sym st.depth j)) below_all in
      let word = slot_is_at s h id v at ready from r class place in
      let x : ClauseAt = clause_at c (c.slot i) in
      let g : ℕ = h.glue x.number in
      let found : c.slot i ≡ slice_index s.words (slot_word v from r class place) = sym (ap (slice_index s.words) word ∙ h.words.slot_is i in_slots) in
      let q' : Part = got_part x (c.part r) in
      let d : State = after c (Get r from class place) in
      let low : slot_at l i < first_cell l = omega arith in (
        x,
        g,
        found,
        keeps_glues h.glue x p part.glues,
        moved stands l s h d h.glue id v (after_get from class place x g v) (took_part from class place x g p) (set s.words (slot_word v from r class place) 0) s.homes at
            (left_one c.opening c (Get r from class place) h.left (part.ring, lt, other.2, few, below))
            (record { rings = h.places.rings; depth = h.places.depth; limit = h.places.limit; small = h.places.small; words = h.places.words; only = h.places.only; tiled = h.places.tiled; vars = h.places.vars; starts = h.places.starts; entries = h.places.entries; units = h.places.units; few = h.places.few; first = h.places.first })
            (subst (λ (y : ℕ). Words l d h.glue (set s.words y 0)) (sym word) (slot_words l c h.glue s.words i 0 r q' st in_slots h.words))
            (exchange_frame c r i 0 q' h.glue (λ _ _ _ _ _ _ _ _ _. refl))
            (λ _. refl) h.home other.0 refl (ap (on_first (took_part from class place x g)) other.0) refl refl refl refl refl
            (stops_same c.stop v (after_get from class place x g v) (took_part from class place x g p) other.0 (ap (on_first (took_part from class place x g)) other.0) refl refl f.stops)
            (record {
              ring = part.ring;
              part = (λ j. got_part x (part.part j)) ∙ sym (put_here c.part r q');
              glues = glues_with h.glue x p.glues p.core.held part.glues;
              made_glues = glues_kept h.glue x p.glues p.core.making part.made_glues;
              turn = part.turn;
              listed = part.listed;
              whole = part.whole;
              refused = part.refused;
              set = part.set;
              ended_is = part.ended_is;
              given = exchanged_given c r i 0 q' r p.gave part.given (λ _ _ _ _ _ _ _ nz. absurd (nz refl));
            })
            (λ y _ z. subst (λ (u : ℕ). IsOut l d (set s.words u 0) y) (sym word) (low_out l c d s.words (slot_at l i) 0 y st low (λ _. refl) refl refl (λ k' lt'. ((λ e. omega arith), (λ e. omega arith))) z))
            (subst (λ (u : ℕ). IsOut l d (set s.words u 0) (took_part from class place x g p)) (sym word) (low_out l c d s.words (slot_at l i) 0 (took_part from class place x g p) st low (λ _. refl) refl refl (λ k' lt'. ((λ e. omega arith), (λ e. omega arith))) (h.stored id v 0 p at (ap (λ ps. get_elem? ps 0) other.0)))),
      )

  pub gets : (slots id : ℕ) (me : Me (Option S) View) (from class place : ℕ) → is_ready me.0.stage ≡ true → IsOther from me.0 → (only me.0).core.ring < me.0.opening.rings → class < 4 → place < me.0.opening.depth
      → Allows (Shown stands k) slots id me (slot_word me.0 from (ring_of (only me.0)) class place) (λ _. 0) (did_get (step slots (slot_word me.0 from (ring_of (only me.0)) class place) 0 0 maybe.none) me)
  gets slots id me from class place ready other own few there s shown wide at small =
      let h : Shows stands k.layout s = is_open stands k s id me.0 shown at ready in
      let v : View = me.0 in
      let r : ℕ = ring_of (only v) in
      let w : ℕ = slot_word v from r class place in
      let t = get_next s h id from class place v at ready other few there in
      let x : ClauseAt = t.0 in
      let g : ℕ = t.1 in
      let known : Knows (after_get from class place x g v) me (after_get from class place x g v, me.1) = (refl, refl, told stands k s (set s.words w 0) id v (after_get from class place x g v) at ready t.4.0) in (
        after_get from class place x g v,
        keeps,
        tt,
        inr t.4.0,
        λ from' class' place' lt' few' there' e.
            let same = slot_own v.opening from r class place from' r class' place' own own few few' there there' (omega arith) in
            (x, g, subst (λ (y : ℕ × (ℕ × ℕ)). Knows (after_get y.0 y.1.0 y.1.1 x g v) me (after_get from class place x g v, me.1)) (λ i. (same.0 i, (same.2 i, same.3 i))) known, t.2, t.3),
      )
