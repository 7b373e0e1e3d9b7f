-- Units are listed and seen.
use Rattle.std.proofs.Common.{◌≡◌, ℕ, zero, suc, ◌+◌, ◌*◌, ◌<◌, ◌≤◌, true, List, [], ◌∷◌, ◌++◌, map, length, set, refl, sym, ap, ◌∙◌, subst, inl, inr, arith, true≢false, append_assoc, length-append, get_or-set_other, get_or-set_same, Option, Some, None, Bool}
use Rattle.std.specs.Prelude.{slice_index, slice_index_or, is_some}
use mathlib.Core.Option.{some, some-injective, some-ne-none}
use mathlib.Core.Option as maybe
use lib.ListN.{get_elem?}
use Rattle.atomic_table.specs.Table.{State as Table, Me, keeps, step, Allows}
use Rattle.sat_words.specs.Literal.{Literal, code_of}
use Rattle.sat_words.specs.Clause.{has}
use Rattle.rup_model.specs.declared.journal.Entry.{Entry}
use Rattle.rup_model.specs.Journal.{book}
use Rattle.rup_model.proofs.Sums.{put_here, put_else}
use Rattle.share_core.specs.declared.event.Event.TheVariants.{Publish, See}
use Rattle.share_core.specs.declared.part.CoreOpening.{CoreOpening}
use Rattle.share_core.specs.declared.part.Part.{Part}
use Rattle.share_core.specs.State.{State}
use Rattle.share_core.specs.Events.{after, seen_part, unit_at as core_unit, listed_number}
use Rattle.share_core.specs.Sound.{Sound}
use Rattle.share_core.proofs.Counting.{some_same}
use Rattle.share_core.proofs.ClauseLists.{all_one, all_last}
use Rattle.share_core.proofs.Pairs.{paired_long}
use Rattle.share_rule.specs.declared.view.BookOrigin.{BookOrigin}
use Rattle.share_rule.specs.declared.view.Taken.{Taken}
use Rattle.share_rule.specs.declared.Layout.{Layout}
use Rattle.share_rule.specs.declared.rule.Key.{Key}
use Rattle.share_rule.specs.declared.view.RingPart.{RingPart}
use Rattle.share_rule.specs.declared.view.View.{View}
use Rattle.share_rule.specs.Layout.{unit_at, number_at, first_cell, cells_end}
use Rattle.share_rule.specs.Layout.{InVars}
use Rattle.share_rule.specs.Steps.{on_first, after_load}
use Rattle.share_rule.specs.Views.{only, no_part, is_ready}
use Rattle.share_rule.specs.Seen.{Stands, IsPart, Seen, turn_of}
use Rattle.share_rule.specs.Shown.{Shown, Shows, ring_of}
use Rattle.share_rule.specs.Turns.{journal_in}
use Rattle.share_rule.specs.Units.{MayPublish, count_part, see_part, unit_part, number_part, list_part, after_count, after_see, after_unit, after_number, after_list, next_unit_at, next_number_at}
use Rattle.share_rule.specs.UnitsTold.{counted_units, saw_unit, stored_unit, stored_number, listed_unit, loaded_number}
use Rattle.share_core.proofs.Leaving.{left_sound, left_one}
use Rattle.share_rule.proofs.Parts.{is_open, standing_of}
use Rattle.share_rule.proofs.Moves.{one_ring, frame_of, turn_has, given_same, stops_same, moved, looked}
use Rattle.share_rule.proofs.Lists.{set_itself}
use Rattle.share_rule.proofs.Words.{none_out, turn_out}
use Rattle.share_rule.proofs.Literals.{few_distinct}
use Rattle.share_rule.proofs.Steps.{told, stays_still}
use Rattle.share_rule.proofs.UnitWords.{low_stored, high_stored, unit_words, number_words, list_words, Listable, listable, units_front, seen_few, number_seen, only_changed}

module _ {S : Type 0} (stands : S → BookOrigin → Layout → CoreOpening → List Entry → Bool → Type 0) (k : Key) where
  -- the number of listed units is loaded
  counted_next : (s : Table (Option S) View) (h : Shows stands k.layout s) (id : ℕ) (v : View) → get_elem? s.views id ≡ some v → is_ready v.stage ≡ true → v.parts ≡ only v ∷ []
      → (m : Shows stands k.layout (record { words = s.words; homes = s.homes; views = set s.views id (after_count (slice_index s.words 2) v) })) × (m.core ≡ h.core)
  counted_next s h id v at ready one =
      let l : Layout = k.layout in
      let c : State = h.core in
      let p : RingPart = only v in
      let r : ℕ = ring_of p in
      let n : ℕ = slice_index s.words 2 in
      let n_is : n ≡ length c.units = h.words.listed_is in
      let mine = one_ring l c h.glue h.owner id v (h.each id v at) one in
      let part : IsPart l c h.glue p = mine.0 in
      moved stands l s h c h.glue id v (after_count n v) (count_part n p) s.words s.homes at h.left h.places h.words (frame_of r c c h.glue (stays_still c) (λ _ _. refl) (λ _ _. refl)) (λ _. refl) h.home one refl (only_changed (count_part n) v one) refl refl refl refl refl
      (stops_same c.stop v (after_count n v) (count_part n p) one (only_changed (count_part n) v one) refl refl (h.each id v at).stops)
      (record {
        ring = part.ring;
        part = part.part;
        glues = part.glues;
        made_glues = part.made_glues;
        turn = part.turn;
        listed = omega arith;
        whole = λ e. (has_turn c r p.turn part.turn e, sym n_is);
        refused = part.refused;
        set = part.set;
        ended_is = part.ended_is;
        given = part.given;
      })
      (λ y _ z. z) (h.stored id v 0 p at (ap (λ ps. get_elem? ps 0) one))
    where
      has_turn : (c : State) (r : ℕ) (t : Option Taken) → t ≡ turn_of c r → is_some t ≡ true → c.turn ≡ Some r
      has_turn c r None e on = absurd (true≢false (sym on))
      has_turn c r (Some t) e on = turn_has c r t (sym e)

  -- the next unit is loaded
  seen_next : (s : Table (Option S) View) (h : Shows stands k.layout s) (id : ℕ) (v : View) → get_elem? s.views id ≡ some v → is_ready v.stage ≡ true → v.parts ≡ only v ∷ [] → length (only v).core.seen < (only v).listed
      → (lit : Literal) × (number : ℕ) × (slice_index s.words (next_unit_at v) ≡ code_of lit) × InVars v.layout (lit ∷ [])
      × ((m : Shows stands k.layout (record { words = s.words; homes = s.homes; views = set s.views id (after_see lit number v) })) × (m.core ≡ after h.core (See (ring_of (only v)))))
  seen_next s h id v at ready one few =
      let l : Layout = k.layout in
      let c : State = h.core in
      let p : RingPart = only v in
      let r : ℕ = ring_of p in
      let t = (h.each id v at).told ready in
      let mine = one_ring l c h.glue h.owner id v (h.each id v at) one in
      let part : IsPart l c h.glue p = mine.0 in
      let sound : Sound c = left_sound c.opening c h.left in
      let listed = part.listed in
      let lt : length p.core.seen < length c.units = omega arith in
      let same : length p.core.seen ≡ length (c.part r).seen = ap (λ (q : Part). length q.seen) part.part in
      let lit : Literal = core_unit c.units (length p.core.seen) in
      let lit_is : lit ≡ core_unit c.units (length (c.part r).seen) = ap (core_unit c.units) same in
      let number : ℕ = listed_number c.numbers (length p.core.seen) in
      let number_is : number ≡ listed_number c.numbers (length (c.part r).seen) = ap (listed_number c.numbers) same in
      let d : State = after c (See r) in
      let q' : Part = seen_part (core_unit c.units (length (c.part r).seen)) (listed_number c.numbers (length (c.part r).seen)) (c.part r) in
      let code : slice_index s.words (next_unit_at v) ≡ code_of lit = ap (λ (y : Layout). slice_index s.words (unit_at y (length p.core.seen))) t.0 ∙ h.words.unit_is (length p.core.seen) lt ∙ code_at_is c.units (length p.core.seen) lt in (
        lit,
        number,
        code,
        subst (λ (y : Layout). InVars y (lit ∷ [])) (sym t.0) (one_of l c.units (length p.core.seen) lt h.places.units),
        moved stands l s h d h.glue id v (after_see lit number v) (see_part lit number p) s.words s.homes at
            (left_one c.opening c (See r) h.left (part.ring, subst (λ (y : ℕ). y < length c.units) same lt))
            (record { rings = h.places.rings; depth = h.places.depth; limit = h.places.limit; small = h.places.small; words = h.places.words; only = h.places.only; tiled = h.places.tiled; vars = h.places.vars; starts = h.places.starts; entries = h.places.entries; units = h.places.units; few = h.places.few; first = h.places.first })
            (record { wide = h.words.wide; turn_is = h.words.turn_is; stop_is = h.words.stop_is; listed_is = h.words.listed_is; grant_is = h.words.grant_is; unit_is = h.words.unit_is; number_is = h.words.number_is; slot_is = h.words.slot_is; ticket_is = h.words.ticket_is; count_is = h.words.count_is; cell_is = h.words.cell_is })
            (frame_of r c d h.glue (record { opening = refl; journal = refl; turn = refl; units = refl; stop = refl; slots = λ _. refl; clauses = λ _. refl }) (λ _ _. refl) (put_else c.part r q')) (λ _. refl) h.home one refl (only_changed (see_part lit number) v one) refl refl refl refl refl
            (stops_same c.stop v (after_see lit number v) (see_part lit number p) one (only_changed (see_part lit number) v one) refl refl (h.each id v at).stops)
            (record { ring = part.ring; part = (λ i. seen_part (lit_is i) (number_is i) (part.part i)) ∙ sym (put_here c.part r q'); glues = part.glues; made_glues = part.made_glues; turn = part.turn; listed = part.listed; whole = part.whole; refused = part.refused; set = part.set; ended_is = part.ended_is; given = given_same c d r p.gave refl (λ _. refl) (λ _. refl) part.given })
            (λ y _ z. (record { words = z.0.words; inside = z.0.inside }, z.1))
            (let own = h.stored id v 0 p at (ap (λ ps. get_elem? ps 0) one) in (record { words = own.0.words; inside = own.0.inside }, own.1)),
      )
    where
      code_at_is : (us : List Literal) (i : ℕ) → i < length us → slice_index_or (map code_of us) i 0 ≡ code_of (core_unit us i)
      code_at_is [] i lt = absurd (omega arith)
      code_at_is (u ∷ us) zero lt = refl
      code_at_is (u ∷ us) (suc i) lt = code_at_is us i (omega arith)

      one_of : (l : Layout) (us : List Literal) (i : ℕ) → i < length us → InVars l us → InVars l (core_unit us i ∷ [])
      one_of l [] i lt h = absurd (omega arith)
      one_of l (u ∷ us) zero lt h = all_one (λ (x : Literal). (1 ≤ x.var) × (x.var ≤ l.vars)) u (h 0 u (omega arith))
      one_of l (u ∷ us) (suc i) lt h = one_of l us i (omega arith) (λ j d it. h (suc j) d (omega arith))

  -- the word of the unit is stored
  pub unit_next : (s : Table (Option S) View) (h : Shows stands k.layout s) (id n : ℕ) (lit : Literal) (number : ℕ) (v : View) → get_elem? s.views id ≡ some v → is_ready v.stage ≡ true → MayPublish lit number v
      → (m : Shows stands k.layout (record { words = set s.words (next_unit_at v) n; homes = s.homes; views = set s.views id (after_unit n v) })) × (m.core ≡ h.core)
  unit_next s h id n lit number v at ready may =
      let l : Layout = k.layout in
      let c : State = h.core in
      let p : RingPart = only v in
      let r : ℕ = ring_of p in
      let one = may.writing.0 in
      let t = (h.each id v at).told ready in
      let mine = one_ring l c h.glue h.owner id v (h.each id v at) one in
      let part : IsPart l c h.glue p = mine.0 in
      let st : Stands l c = standing_of stands l s h in
      let ok : Listable l c lit number v = listable l c h.glue lit number v (left_sound c.opening c h.left) part h.places.units t may in
      let w : ℕ = unit_at l (length c.units) in
      let room = ok.room in
      let w_is : next_unit_at v ≡ w = (λ i. unit_at (t.0 i) (length (sym ok.units i))) in
      let low : w < first_cell l = omega arith in
      let wide = h.words.wide in
      let in_ws : w < length s.words = omega arith in
      let own = h.stored id v 0 p at (ap (λ ps. get_elem? ps 0) one) in
      subst (λ (y : ℕ). (m : Shows stands l (record { words = set s.words y n; homes = s.homes; views = set s.views id (after_unit n v) })) × (m.core ≡ c)) (sym w_is)
      (moved stands l s h c h.glue id v (after_unit n v) (unit_part n p) (set s.words w n) s.homes at h.left h.places (unit_words l c h.glue s.words n st room h.words)
      (frame_of r c c h.glue (stays_still c) (λ _ _. refl) (λ _ _. refl)) (λ _. refl) h.home one refl (only_changed (unit_part n) v one) refl refl refl refl refl
      (stops_same c.stop v (after_unit n v) (unit_part n p) one (only_changed (unit_part n) v one) refl refl (h.each id v at).stops)
      (record { ring = part.ring; part = part.part; glues = part.glues; made_glues = part.made_glues; turn = part.turn; listed = part.listed; whole = part.whole; refused = part.refused; set = part.set; ended_is = part.ended_is; given = part.given })
      (λ y ne z. (low_stored l c c s.words w n (ring_of y) y.stored st low (λ _. refl) z.0, turn_out l c c s.words (set s.words w n) y (λ e. ne (some_same (ring_of y) r (sym e ∙ ok.turn))) z.1)) (
        low_stored l c c s.words w n r p.stored st low (λ _. refl) own.0,
        (
          λ m e. (ok.turn, room, get_or-set_same s.words w n 0 in_ws ∙ some_same n m e),
          λ m e. let u = own.1.1 m e in (u.0, u.1, get_or-set_other s.words w (number_at l (length c.units)) n 0 (λ q. omega arith) ∙ u.2),
        ),
      ))

  -- the word of its number is stored
  pub number_next : (s : Table (Option S) View) (h : Shows stands k.layout s) (id n : ℕ) (lit : Literal) (number : ℕ) (v : View) → get_elem? s.views id ≡ some v → is_ready v.stage ≡ true → MayPublish lit number v
      → (m : Shows stands k.layout (record { words = set s.words (next_number_at v) n; homes = s.homes; views = set s.views id (after_number n v) })) × (m.core ≡ h.core)
  number_next s h id n lit number v at ready may =
      let l : Layout = k.layout in
      let c : State = h.core in
      let p : RingPart = only v in
      let r : ℕ = ring_of p in
      let one = may.writing.0 in
      let t = (h.each id v at).told ready in
      let mine = one_ring l c h.glue h.owner id v (h.each id v at) one in
      let part : IsPart l c h.glue p = mine.0 in
      let st : Stands l c = standing_of stands l s h in
      let ok : Listable l c lit number v = listable l c h.glue lit number v (left_sound c.opening c h.left) part h.places.units t may in
      let w : ℕ = number_at l (length c.units) in
      let room = ok.room in
      let w_is : next_number_at v ≡ w = (λ i. number_at (t.0 i) (length (sym ok.units i))) in
      let high : cells_end l ≤ w = omega arith in
      let wide = h.words.wide in
      let in_ws : w < length s.words = omega arith in
      let own = h.stored id v 0 p at (ap (λ ps. get_elem? ps 0) one) in
      subst (λ (y : ℕ). (m : Shows stands l (record { words = set s.words y n; homes = s.homes; views = set s.views id (after_number n v) })) × (m.core ≡ c)) (sym w_is)
      (moved stands l s h c h.glue id v (after_number n v) (number_part n p) (set s.words w n) s.homes at h.left h.places (number_words l c h.glue s.words n st h.words)
      (frame_of r c c h.glue (stays_still c) (λ _ _. refl) (λ _ _. refl)) (λ _. refl) h.home one refl (only_changed (number_part n) v one) refl refl refl refl refl
      (stops_same c.stop v (after_number n v) (number_part n p) one (only_changed (number_part n) v one) refl refl (h.each id v at).stops)
      (record { ring = part.ring; part = part.part; glues = part.glues; made_glues = part.made_glues; turn = part.turn; listed = part.listed; whole = part.whole; refused = part.refused; set = part.set; ended_is = part.ended_is; given = part.given })
      (λ y ne z. (high_stored l c c s.words w n (ring_of y) y.stored st high (λ _. refl) z.0, turn_out l c c s.words (set s.words w n) y (λ e. ne (some_same (ring_of y) r (sym e ∙ ok.turn))) z.1)) (
        high_stored l c c s.words w n r p.stored st high (λ _. refl) own.0,
        (
          λ m e. let u = own.1.0 m e in (u.0, u.1, get_or-set_other s.words w (unit_at l (length c.units)) n 0 (λ q. omega arith) ∙ u.2),
          λ m e. (ok.turn, room, get_or-set_same s.words w n 0 in_ws ∙ some_same n m e),
        ),
      ))

  -- and counted
  pub list_next : (s : Table (Option S) View) (h : Shows stands k.layout s) (id : ℕ) (lit : Literal) (number : ℕ) (v : View) → get_elem? s.views id ≡ some v → is_ready v.stage ≡ true → MayPublish lit number v → (only v).unit ≡ Some (code_of lit) → (only v).number ≡ Some number
      → (m : Shows stands k.layout (record { words = set s.words 2 (length (only v).core.seen + 1); homes = s.homes; views = set s.views id (after_list lit number v) })) × (m.core ≡ after h.core (Publish (ring_of (only v)) lit number))
  list_next s h id lit number v at ready may there numbered =
      let l : Layout = k.layout in
      let c : State = h.core in
      let p : RingPart = only v in
      let r : ℕ = ring_of p in
      let one = may.writing.0 in
      let t = (h.each id v at).told ready in
      let mine = one_ring l c h.glue h.owner id v (h.each id v at) one in
      let part : IsPart l c h.glue p = mine.0 in
      let st : Stands l c = standing_of stands l s h in
      let ok : Listable l c lit number v = listable l c h.glue lit number v (left_sound c.opening c h.left) part h.places.units t may in
      let own = h.stored id v 0 p at (ap (λ ps. get_elem? ps 0) one) in
      let word = (own.1.0 (code_of lit) there).2 in
      let number_word = (own.1.1 number numbered).2 in
      let sound : Sound c = left_sound c.opening c h.left in
      let many : length c.numbers ≡ length c.units = paired_long (book c.opening.formula c.journal) c.units c.numbers sound.units.paired in
      let n : ℕ = length c.units + 1 in
      let n_is : length p.core.seen + 1 ≡ n = ap (λ (us : List Literal). length us + 1) (sym ok.units) in
      let d : State = after c (Publish r lit number) in
      let q' : Part = seen_part lit number (c.part r) in
      let same : length (c.part r).seen ≡ length c.units = ap (λ (q : Part). length q.seen) (sym part.part) ∙ ap (λ (us : List Literal). length us) (sym ok.units) in
      let long : length (c.units ++ lit ∷ []) ≡ n = length-append c.units (lit ∷ []) in
      let low : 2 < first_cell l = omega arith in
      let lit_vars : InVars l (lit ∷ []) = subst (λ (y : Layout). InVars y (lit ∷ [])) t.0 may.vars in
      subst (λ (y : ℕ). (m : Shows stands l (record { words = set s.words 2 y; homes = s.homes; views = set s.views id (after_list lit number v) })) × (m.core ≡ d)) (sym n_is)
      (moved stands l s h d h.glue id v (after_list lit number v) (list_part lit number p) (set s.words 2 n) s.homes at
      (left_one c.opening c (Publish r lit number) h.left (part.ring, ok.turn, ok.told, same, ok.new))
      (record { rings = h.places.rings; depth = h.places.depth; limit = h.places.limit; small = h.places.small; words = h.places.words; only = h.places.only; tiled = h.places.tiled; vars = h.places.vars; starts = h.places.starts; few = let q = long in let z = ok.room in omega arith; entries = h.places.entries; first = (h.places.first.0 ++ lit ∷ [], ap (λ (us : List Literal). us ++ lit ∷ []) h.places.first.1 ∙ append_assoc c.opening.units h.places.first.0 (lit ∷ [])); units = all_last (λ (x : Literal). (1 ≤ x.var) × (x.var ≤ l.vars)) c.units lit h.places.units (lit_vars 0 lit (omega arith)) })
      (list_words l c r lit number h.glue s.words st ok.room many word number_word h.words)
      (record {
        opening = refl;
        granted = λ _ _. refl;
        part = put_else c.part r q';
        turn = λ _ _. refl;
        units = omega arith;
        kept_turn = λ i ne e. absurd (ne (some_same i r (sym e ∙ ok.turn)));
        refused = λ _ _ x e. e;
        own = λ _ _. refl;
        stop_stays = λ _ e. e;
        stop_new = λ _ e. inl e;
        ends = λ e. e;
        given = λ i gave _ _ given. given_same c d i gave refl (λ _. refl) (λ _. refl) given;
        glue_kept = λ m lt. refl;
      })
      (λ _. refl) h.home one refl (only_changed (list_part lit number) v one) refl refl refl refl refl
      (stops_same c.stop v (after_list lit number v) (list_part lit number p) one (only_changed (list_part lit number) v one) refl refl (h.each id v at).stops)
      (record {
        ring = part.ring;
        part = ap (seen_part lit number) part.part ∙ sym (put_here c.part r q');
        glues = part.glues;
        made_glues = part.made_glues;
        turn = part.turn;
        listed = let g = part.listed in omega arith;
        whole = λ e. (ok.turn, let w = (part.whole e).1 in omega arith);
        refused = part.refused;
        set = part.set;
        ended_is = part.ended_is;
        given = given_same c d r p.gave refl (λ _. refl) (λ _. refl) part.given;
      })
      (λ y ne z. (low_stored l c d s.words 2 n (ring_of y) y.stored st low (λ _. refl) z.0, turn_out l c d s.words (set s.words 2 n) y (λ e. ne (some_same (ring_of y) r (sym e ∙ ok.turn))) z.1))
      (low_stored l c d s.words 2 n r p.stored st low (λ _. refl) own.0, none_out l d (set s.words 2 n) (list_part lit number p) refl refl))

  -- the steps

  -- a load stores the word that it finds
  same_words : (s : Table (Option S) View) (w id : ℕ) (v : View) (c : State) → (m : Shows stands k.layout (record { words = s.words; homes = s.homes; views = set s.views id v })) × (m.core ≡ c)
      → (m : Shows stands k.layout (record { words = set s.words w (slice_index s.words w); homes = s.homes; views = set s.views id v })) × (m.core ≡ c)
  same_words s w id v c next = subst (λ (ws : List ℕ). (m : Shows stands k.layout (record { words = ws; homes = s.homes; views = set s.views id v })) × (m.core ≡ c)) (sym (set_itself s.words w)) next

  pub count_next : (s : Table (Option S) View) (h : Shows stands k.layout s) (id : ℕ) (v : View) → get_elem? s.views id ≡ some v → is_ready v.stage ≡ true → v.parts ≡ only v ∷ []
      → (m : Shows stands k.layout (record { words = set s.words 2 (slice_index s.words 2); homes = s.homes; views = set s.views id (after_count (slice_index s.words 2) v) })) × (m.core ≡ h.core)
  count_next s h id v at ready one = same_words s 2 id (after_count (slice_index s.words 2) v) h.core (counted_next s h id v at ready one)

  pub see_next : (s : Table (Option S) View) (h : Shows stands k.layout s) (id : ℕ) (v : View) → get_elem? s.views id ≡ some v → is_ready v.stage ≡ true → v.parts ≡ only v ∷ [] → length (only v).core.seen < (only v).listed
      → (lit : Literal) × (number : ℕ) × (slice_index s.words (next_unit_at v) ≡ code_of lit) × InVars v.layout (lit ∷ [])
      × ((m : Shows stands k.layout (record { words = set s.words (next_unit_at v) (slice_index s.words (next_unit_at v)); homes = s.homes; views = set s.views id (after_see lit number v) })) × (m.core ≡ after h.core (See (ring_of (only v)))))
  see_next s h id v at ready one few =
      let t = seen_next s h id v at ready one few in
      (t.0, t.1, t.2, t.3, same_words s (next_unit_at v) id (after_see t.0 t.1 v) (after h.core (See (ring_of (only v)))) t.4)

  pub counts_it : (slots id : ℕ) (me : Me (Option S) View) → is_ready me.0.stage ≡ true → me.0.parts ≡ only me.0 ∷ [] → Allows (Shown stands k) slots id me 2 (λ n. n) (counted_units (step slots 2 0 0 maybe.none) me)
  counts_it slots id me ready one s shown wide at small =
      let v : View = me.0 in
      let h : Shows stands k.layout s = is_open stands k s id v shown at ready in
      let n : ℕ = slice_index s.words 2 in
      let next = (count_next s h id v at ready one).0 in
      let mine = one_ring k.layout h.core h.glue h.owner id v (h.each id v at) one in
      let few = seen_few k.layout h.core (left_sound h.core.opening h.core h.left) h.glue (only v) mine.0 in
      let n_is = h.words.listed_is in
      let first = ap (λ (us : List Literal). length us) h.places.first.1 in
      let long = length-append h.core.opening.units h.places.first.0 in
      let same = ap (λ (o : CoreOpening). length o.units) ((h.each id v at).told ready).1 in
      (after_count n v, keeps, tt, inr next, ((refl, refl, told stands k s (set s.words 2 n) id v (after_count n v) at ready next), omega arith, omega arith))

  pub sees_it : (slots id : ℕ) (me : Me (Option S) View) (w : ℕ) → is_ready me.0.stage ≡ true → me.0.parts ≡ only me.0 ∷ [] → length (only me.0).core.seen < (only me.0).listed → w ≡ next_unit_at me.0
      → Allows (Shown stands k) slots id me w (λ n. n) (saw_unit (step slots w 0 0 maybe.none) me)
  sees_it slots id me w ready one few w_is = subst (λ (x : ℕ). Allows (Shown stands k) slots id me x (λ n. n) (saw_unit (step slots x 0 0 maybe.none) me)) (sym w_is) at_it
    where
      at_it : Allows (Shown stands k) slots id me (next_unit_at me.0) (λ n. n) (saw_unit (step slots (next_unit_at me.0) 0 0 maybe.none) me)
      at_it s shown wide at small =
          let v : View = me.0 in
          let h : Shows stands k.layout s = is_open stands k s id v shown at ready in
          let t = see_next s h id v at ready one few in
          let next = t.4.0 in
          (after_see t.0 t.1 v, keeps, tt, inr next, (t.0, t.1, t.2, t.3, (refl, refl, told stands k s (set s.words (next_unit_at v) (slice_index s.words (next_unit_at v))) id v (after_see t.0 t.1 v) at ready next)))

  pub units_it : (slots id : ℕ) (me : Me (Option S) View) (lit : Literal) (number w n : ℕ) → is_ready me.0.stage ≡ true → MayPublish lit number me.0 → w ≡ next_unit_at me.0
      → Allows (Shown stands k) slots id me w (λ _. n) (λ _. stored_unit (step slots w n 0 maybe.none) me n)
  units_it slots id me lit number w n ready may w_is = subst (λ (x : ℕ). Allows (Shown stands k) slots id me x (λ _. n) (λ _. stored_unit (step slots x n 0 maybe.none) me n)) (sym w_is)
      (λ s shown wide at small.
      let v : View = me.0 in
      let h : Shows stands k.layout s = is_open stands k s id v shown at ready in
      let next = (unit_next s h id n lit number v at ready may).0 in
      (after_unit n v, keeps, tt, inr next, (refl, refl, told stands k s (set s.words (next_unit_at v) n) id v (after_unit n v) at ready next)))

  -- a number of a unit that the ring has seen is loaded
  pub number_loaded : (s : Table (Option S) View) (h : Shows stands k.layout s) (id place : ℕ) (v : View) → get_elem? s.views id ≡ some v → is_ready v.stage ≡ true → v.parts ≡ only v ∷ [] → place < length (only v).core.seen
      → (slice_index s.words (number_at v.layout place) ≡ listed_number (only v).core.numbers place)
      × ((m : Shows stands k.layout (record { words = set s.words (number_at v.layout place) (slice_index s.words (number_at v.layout place)); homes = s.homes; views = set s.views id (after_load (number_at v.layout place) (slice_index s.words (number_at v.layout place)) v) })) × (m.core ≡ h.core))
  number_loaded s h id place v at ready one lt =
      let l : Layout = k.layout in
      let c : State = h.core in
      let t = (h.each id v at).told ready in
      let mine = one_ring l c h.glue h.owner id v (h.each id v at) one in
      let part : IsPart l c h.glue (only v) = mine.0 in
      let sound : Sound c = left_sound c.opening c h.left in
      let few = seen_few l c sound h.glue (only v) part in
      let w : ℕ = number_at v.layout place in
      let u : View = after_load w (slice_index s.words w) v in (
        ap (λ (y : Layout). slice_index s.words (number_at y place)) t.0 ∙ h.words.number_is place (omega arith) ∙ number_seen l c sound h.glue (only v) part place lt,
        same_words s w id u c (looked stands l s h id v u at refl refl refl refl refl refl (h.each id v at).stops),
      )

  pub numbers_read : (slots id : ℕ) (me : Me (Option S) View) (w place : ℕ) → is_ready me.0.stage ≡ true → me.0.parts ≡ only me.0 ∷ [] → place < length (only me.0).core.seen → w ≡ number_at me.0.layout place
      → Allows (Shown stands k) slots id me w (λ n. n) (loaded_number (step slots w 0 0 maybe.none) me)
  numbers_read slots id me w place ready one lt w_is = subst (λ (x : ℕ). Allows (Shown stands k) slots id me x (λ n. n) (loaded_number (step slots x 0 0 maybe.none) me)) (sym w_is) at_it
    where
      at_it : Allows (Shown stands k) slots id me (number_at me.0.layout place) (λ n. n) (loaded_number (step slots (number_at me.0.layout place) 0 0 maybe.none) me)
      at_it s shown wide at small =
          let v : View = me.0 in
          let h : Shows stands k.layout s = is_open stands k s id v shown at ready in
          let x : ℕ = number_at v.layout place in
          let n : ℕ = slice_index s.words x in
          let t = number_loaded s h id place v at ready one lt in
          let next = t.1.0 in (
            after_load x n v,
            keeps,
            tt,
            inr next,
            (
              (refl, refl, told stands k s (set s.words x n) id v (after_load x n v) at ready next),
              λ j jt same. let j_is : j ≡ place = omega arith in t.0 ∙ ap (listed_number (only v).core.numbers) (sym j_is),
            ),
          )

  pub numbers_it : (slots id : ℕ) (me : Me (Option S) View) (lit : Literal) (number w n : ℕ) → is_ready me.0.stage ≡ true → MayPublish lit number me.0 → w ≡ next_number_at me.0
      → Allows (Shown stands k) slots id me w (λ _. n) (λ _. stored_number (step slots w n 0 maybe.none) me n)
  numbers_it slots id me lit number w n ready may w_is = subst (λ (x : ℕ). Allows (Shown stands k) slots id me x (λ _. n) (λ _. stored_number (step slots x n 0 maybe.none) me n)) (sym w_is)
      (λ s shown wide at small.
      let v : View = me.0 in
      let h : Shows stands k.layout s = is_open stands k s id v shown at ready in
      let next = (number_next s h id n lit number v at ready may).0 in
      (after_number n v, keeps, tt, inr next, (refl, refl, told stands k s (set s.words (next_number_at v) n) id v (after_number n v) at ready next)))

  pub lists_it : (slots id : ℕ) (me : Me (Option S) View) (lit : Literal) (number n : ℕ) → is_ready me.0.stage ≡ true → MayPublish lit number me.0 → (only me.0).unit ≡ Some (code_of lit) → (only me.0).number ≡ Some number → n ≡ length (only me.0).core.seen + 1
      → Allows (Shown stands k) slots id me 2 (λ _. n) (λ _. listed_unit lit number (step slots 2 n 0 maybe.none) me n)
  lists_it slots id me lit number n ready may there numbered n_is = subst (λ (x : ℕ). Allows (Shown stands k) slots id me 2 (λ _. x) (λ _. listed_unit lit number (step slots 2 x 0 maybe.none) me x)) (sym n_is)
      (λ s shown wide at small.
      let v : View = me.0 in
      let h : Shows stands k.layout s = is_open stands k s id v shown at ready in
      let next = (list_next s h id lit number v at ready may there numbered).0 in
      (after_list lit number v, keeps, tt, inr next, (refl, refl, told stands k s (set s.words 2 (length (only v).core.seen + 1)) id v (after_list lit number v) at ready next)))

-- the list has room
pub seen_room : (v : View) → Seen v → v.parts ≡ only v ∷ [] → (length (only v).core.seen ≤ 2 * v.layout.vars) × ((only v).listed ≤ 2 * v.layout.vars)
seen_room v s one =
    let part : IsPart v.layout s.core s.glue (only v) = s.parts 0 (only v) (ap (λ ps. get_elem? ps 0) one) in
    let sound = left_sound s.core.opening s.core s.left in
    let few = seen_few v.layout s.core sound s.glue (only v) part in
    let all = few_distinct v.layout.vars s.core.units sound.units.distinct s.standing.units in
    let listed = part.listed in
    (omega arith, omega arith)

shorter_front : (xs ys ks ls : List Literal) → xs ++ ks ≡ ys ++ ls → length ys ≤ length xs → (later : List Literal) × (xs ≡ ys ++ later)
shorter_front xs [] ks ls e le = (xs, refl)
shorter_front [] (y ∷ ys) ks ls e le = absurd (omega arith)
shorter_front (x ∷ xs) (y ∷ ys) ks ls e le =
    let head : x ≡ y = cc in
    let tail : xs ++ ks ≡ ys ++ ls = cc in
    let r = shorter_front xs ys ks ls tail (omega arith) in
    (r.0, λ i. head i ∷ r.1 i)

-- a ring that has seen as many units as were listed from the start has seen those
pub seen_first : (v : View) → Seen v → v.parts ≡ only v ∷ [] → length v.opening.units ≤ length (only v).core.seen → (later : List Literal) × ((only v).core.seen ≡ v.opening.units ++ later)
seen_first v s one le =
    let part : IsPart v.layout s.core s.glue (only v) = s.parts 0 (only v) (ap (λ ps. get_elem? ps 0) one) in
    let front = units_front v.layout s.core (left_sound s.core.opening s.core s.left) s.glue (only v) part in
    let first = s.places.first in
    shorter_front (only v).core.seen v.opening.units front.0 first.0 (sym front.1 ∙ first.1 ∙ ap (λ (o : CoreOpening). o.units ++ first.0) (sym s.opening)) le

-- a unit may be listed if a word of it is stored
kept_may : (f : RingPart → RingPart) (lit : Literal) (number : ℕ) (v w : View) → w.parts ≡ on_first f v.parts → w.layout ≡ v.layout → w.opening ≡ v.opening → ((p : RingPart) → (f p).turn ≡ p.turn) → ((p : RingPart) → (f p).whole ≡ p.whole)
    → ((p : RingPart) → (f p).listed ≡ p.listed) → ((p : RingPart) → (f p).core ≡ p.core) → MayPublish lit number v → (only w ≡ f (only v)) × MayPublish lit number w
kept_may f lit number v w parts layout opening turns wholes listeds cores may =
    let one : w.parts ≡ f (only v) ∷ [] = parts ∙ ap (on_first f) may.writing.0 in
    let is : only w ≡ f (only v) = ap (λ ps. slice_index_or ps 0 no_part) one in
    let turn : (only w).turn ≡ (only v).turn = ap (λ (p : RingPart). p.turn) is ∙ turns (only v) in
    let core : (only w).core ≡ (only v).core = ap (λ (p : RingPart). p.core) is ∙ cores (only v) in (
      is,
      record {
        writing = (one ∙ (λ i. sym is i ∷ []), (may.writing.1.0, turn ∙ may.writing.1.1));
        whole = (
          ap (λ (p : RingPart). p.whole) is ∙ wholes (only v) ∙ may.whole.0,
          ap (λ (p : RingPart). p.listed) is ∙ listeds (only v) ∙ may.whole.1 ∙ ap (λ (q : Part). length q.seen) (sym core),
        );
        told = (λ i. (book (opening i).formula (journal_in (turn i))).clause number) ∙ may.told;
        new = ap (λ (q : Part). has q.seen lit) core ∙ may.new;
        vars = subst (λ (y : Layout). InVars y (lit ∷ [])) (sym layout) may.vars;
      },
    )

pub still : (lit : Literal) (number n : ℕ) (v : View) → MayPublish lit number v → (only (after_unit n v) ≡ unit_part n (only v)) × MayPublish lit number (after_unit n v)
still lit number n v may = kept_may (unit_part n) lit number v (after_unit n v) refl refl refl (λ _. refl) (λ _. refl) (λ _. refl) (λ _. refl) may

pub number_still : (lit : Literal) (number n : ℕ) (v : View) → MayPublish lit number v → (only (after_number n v) ≡ number_part n (only v)) × MayPublish lit number (after_number n v)
number_still lit number n v may = kept_may (number_part n) lit number v (after_number n v) refl refl refl (λ _. refl) (λ _. refl) (λ _. refl) (λ _. refl) may

pub publish_room : (lit : Literal) (number : ℕ) (v : View) → Seen v → MayPublish lit number v → length (only v).core.seen < 2 * v.layout.vars
publish_room lit number v s may =
    let part : IsPart v.layout s.core s.glue (only v) = s.parts 0 (only v) (ap (λ ps. get_elem? ps 0) may.writing.0) in
    let ok : Listable v.layout s.core lit number v = listable v.layout s.core s.glue lit number v (left_sound s.core.opening s.core s.left) part s.standing.units (refl, s.opening) may in
    let room = ok.room in
    let n = ap (λ (us : List Literal). length us) ok.units in
    omega arith
