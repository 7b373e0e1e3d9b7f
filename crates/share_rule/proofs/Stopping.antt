-- The stop is looked at and set.
use Rattle.std.proofs.Common.{◌≡◌, ◌≢◌, ℕ, zero, suc, ◌+◌, ◌*◌, ◌/◌, ◌%◌, ◌<◌, ◌≤◌, ◌==◌, Bool, true, false, List, [], ◌∷◌, set, refl, sym, ap, ◌∙◌, subst, inr, arith, eq-eqb, ne_eqb, Option, Some, None}
use Rattle.std.specs.Prelude.{slice_index, MatchOption, if◌then◌else◌}
use mathlib.Core.Option.{some, some-injective, some-ne-none}
use mathlib.Core.Option as maybe
use mathlib.Core.Logic.{dite}
use native.Mathlib.Decide.{ℕ_discrete}
use lib.ListN.{get_elem?}
use prog.Atomic.{either}
use Rattle.atomic_table.specs.Table.{State as Table, Me, keeps, step, Allows}
use Rattle.rup_model.specs.declared.journal.Entry.{Entry}
use Rattle.share_core.specs.declared.event.Stop.{Stop}
use Rattle.share_core.specs.declared.event.Event.TheVariants.{Stop as StopEvent}
use Rattle.share_core.specs.declared.part.CoreOpening.{CoreOpening}
use Rattle.share_core.specs.State.{State}
use Rattle.share_core.specs.Events.{after, first_stop}
use Rattle.share_core.specs.Sound.{Sound}
use Rattle.share_core.proofs.Counting.{some_same, none_some}
use Rattle.share_core.proofs.Leaving.{left_sound, left_one}
use Rattle.share_rule.specs.declared.view.BookOrigin.{BookOrigin}
use Rattle.share_rule.specs.declared.Layout.{Layout}
use Rattle.share_rule.specs.declared.rule.Key.{Key}
use Rattle.share_rule.specs.declared.view.RingPart.{RingPart}
use Rattle.share_rule.specs.declared.view.View.{View}
use Rattle.share_rule.specs.Layout.{first_cell}
use Rattle.share_rule.specs.Views.{only, own_stop, is_ready, in_draft}
use Rattle.share_rule.specs.Steps.{on_first}
use Rattle.share_rule.specs.Exchanges.{IsRing, stop_in, stop_of, MayFind, set_part, after_look, after_win, after_loss, after_set}
use Rattle.share_rule.specs.ExchangesTold.{looked_at_stop, did_set}
use Rattle.share_rule.specs.Seen.{Stands, IsPart, IsStopOf, Seen}
use Rattle.share_rule.specs.Shown.{Words, Shown, Shows, ring_of, stop_number}
use Rattle.share_rule.proofs.Lists.{set_itself}
use Rattle.share_rule.proofs.Parts.{is_open, standing_of}
use Rattle.share_rule.proofs.LowWords.{stop_words, low_out}
use Rattle.share_rule.proofs.Moves.{ground, one_ring, turn_same, refused_same, given_same, moved, looked}
use Rattle.share_rule.proofs.Steps.{told}

-- a word of a stop spells it
spelled : (o : Option Stop) → ((t : Stop) → o ≡ Some t → (1 ≤ t.kind) × (t.kind ≤ 5)) → stop_of (stop_number o) ≡ o
spelled None h = refl
spelled (Some t) h =
    let few = h t refl in
    let n : ℕ = t.kind + 8 * t.ring in
    let k : n % 8 ≡ t.kind = omega arith in
    let r : n / 8 ≡ t.ring = omega arith in
    (λ i. if ne_eqb n 0 (λ e. omega arith) i then None else Some (stop_in n)) ∙ (λ i. Some (record { kind = k i; ring = r i }))

-- none was seen if none stands
none_seen : (standing x : Option Stop) (ps : List RingPart) → standing ≡ None → IsStopOf standing x ps → x ≡ None
none_seen standing None ps e f = refl
none_seen standing (Some t) ps e f = absurd (none_some t (sym e ∙ f.stands t refl))

-- what stands is as it was seen, and where nothing was seen it is another pass's ring's
may_find : (v : View) (o : Option Stop) → IsStopOf o v.stop v.parts → ((i : ℕ) (p : RingPart) → get_elem? v.parts i ≡ some p → p.set ≡ own_stop (ring_of p) o) → MayFind v o
may_find v None f own = none_seen None v.stop v.parts refl f
may_find v (Some s) f own = by v.stop refl
  where
    by : (x : Option Stop) → v.stop ≡ x → MatchOption x ((i : ℕ) (p : RingPart) → get_elem? v.parts i ≡ some p → s.ring ≢ p.core.ring) (λ t. s ≡ t)
    by None e = λ i p at same.
        let mine : p.set ≡ Some s = own i p at ∙ (λ j. if eq-eqb s.ring p.core.ring same j then Some s else None) in
        none_some s (sym e ∙ f.own i p at s mine)
    by (Some t) e = some_same s t (f.stands t e)

-- no effect where a stop stands
stop_no_effect : (o : Option Stop) (t s : Stop) → o ≡ Some t → first_stop o s ≡ o
stop_no_effect None t s e = absurd (none_some t e)
stop_no_effect (Some u) t s e = refl

module _ {S : Type 0} (stands : S → BookOrigin → Layout → CoreOpening → List Entry → Bool → Type 0) (k : Key) where
  -- the word spells the stop
  word_is : (s : Table (Option S) View) (h : Shows stands k.layout s) → stop_of (slice_index s.words 1) ≡ h.core.stop
  word_is s h =
      let sound : Sound h.core = left_sound h.core.opening h.core h.left in
      ap stop_of h.words.stop_is ∙ spelled h.core.stop (λ t e. let q = sound.stops.kinds t e in (q.0, q.1))

  -- a view that has what stands
  stop_seen : (s : Table (Option S) View) (h : Shows stands k.layout s) (id : ℕ) (v w : View) → get_elem? s.views id ≡ some v
      → w.rights ≡ v.rights → w.parts ≡ v.parts → ground w ≡ ground v → w.opening ≡ v.opening → is_ready w.stage ≡ is_ready v.stage → in_draft w.stage ≡ in_draft v.stage → w.stop ≡ stop_of (slice_index s.words 1)
      → (n : Shows stands k.layout (record { words = set s.words 1 (slice_index s.words 1); homes = s.homes; views = set s.views id w })) × (n.core ≡ h.core)
  stop_seen s h id v w at wr wp wl wo wn wd ws =
      let f = (h.each id v at).stops in
      let is : w.stop ≡ h.core.stop = ws ∙ word_is s h in
      subst (λ (ys : List ℕ). (n : Shows stands k.layout (record { words = ys; homes = s.homes; views = set s.views id w })) × (n.core ≡ h.core)) (sym (set_itself s.words 1))
      (looked stands k.layout s h id v w at wr wp wl wo wn wd (record {
        stands = λ t e. sym is ∙ e;
        own = λ i p e t q. is ∙ f.stands t (f.own i p (ap (λ ps. get_elem? ps i) (sym wp) ∙ e) t q);
      }))

  may_find_it : (s : Table (Option S) View) (h : Shows stands k.layout s) (id : ℕ) (v : View) → get_elem? s.views id ≡ some v → MayFind v (stop_of (slice_index s.words 1))
  may_find_it s h id v at =
      let f = h.each id v at in
      subst (MayFind v) (sym (word_is s h)) (may_find v h.core.stop f.stops (λ i p e. (f.parts i p e).set))

  pub look_next : (s : Table (Option S) View) (h : Shows stands k.layout s) (id : ℕ) (v : View) → get_elem? s.views id ≡ some v → is_ready v.stage ≡ true
      → (n : Shows stands k.layout (record { words = set s.words 1 (slice_index s.words 1); homes = s.homes; views = set s.views id (after_look (slice_index s.words 1) v) })) × (n.core ≡ h.core)
  look_next s h id v at ready = stop_seen s h id v (after_look (slice_index s.words 1) v) at refl refl refl refl refl refl refl

  pub looks_at_stop : (slots id : ℕ) (me : Me (Option S) View) → is_ready me.0.stage ≡ true
      → Allows (Shown stands k) slots id me 1 (λ n. n) (looked_at_stop (step slots 1 0 0 maybe.none) me)
  looks_at_stop slots id me ready s shown wide at small =
      let h : Shows stands k.layout s = is_open stands k s id me.0 shown at ready in
      let v : View = me.0 in
      let n : ℕ = slice_index s.words 1 in
      let w : View = after_look n v in
      let next = look_next s h id v at ready in
      (w, keeps, tt, inr next.0, ((refl, refl, told stands k s (set s.words 1 n) id v w at ready next.0), may_find_it s h id v at))

  -- if no stop stands, the ring's does
  win_next : (s : Table (Option S) View) (h : Shows stands k.layout s) (id kind r : ℕ) (v : View) → get_elem? s.views id ≡ some v → is_ready v.stage ≡ true → IsRing r v → 1 ≤ kind → kind ≤ 5 → (kind ≡ 2 → (only v).ended ≡ true) → slice_index s.words 1 ≡ 0
      → (n : Shows stands k.layout (record { words = set s.words 1 (kind + 8 * r); homes = s.homes; views = set s.views id (after_win (kind + 8 * r) v) })) × (n.core ≡ after h.core (StopEvent r kind))
  win_next s h id kind r v at ready ring low high refuted zero_found =
      let l : Layout = k.layout in
      let c : State = h.core in
      let p : RingPart = only v in
      let f = h.each id v at in
      let mine = one_ring l c h.glue h.owner id v f ring.0 in
      let part : IsPart l c h.glue p = mine.0 in
      let code : ℕ = kind + 8 * r in
      let t : Stop = stop_in code in
      let none : c.stop ≡ None = sym (word_is s h) ∙ ap stop_of zero_found in
      let kind_is : code % 8 ≡ kind = omega arith in
      let ring_is : code / 8 ≡ r = omega arith in
      let same : t ≡ record { kind = kind; ring = r } = (λ i. record { kind = kind_is i; ring = ring_is i }) in
      let d : State = after c (StopEvent r kind) in
      let stop : d.stop ≡ Some t = ap (λ (o : Option Stop). first_stop o (record { kind = kind; ring = r })) none ∙ ap (λ (x : Stop). Some x) (sym same) in
      let mine_ring : t.ring ≡ ring_of p = ring_is ∙ ring.1 in
      let st : Stands l c = standing_of stands l s h in
      let number : stop_number d.stop ≡ code = ap stop_number stop ∙ (λ i. kind_is i + 8 * ring_is i) in
      let low_word : 1 < first_cell l = omega arith in
      let rp : r < c.opening.rings = subst (λ (n : ℕ). n < c.opening.rings) (sym ring.1) part.ring in
      let own : own_stop (ring_of p) d.stop ≡ Some t = ap (own_stop (ring_of p)) stop ∙ (λ i. if eq-eqb t.ring (ring_of p) mine_ring i then Some t else None) in
      moved stands l s h d h.glue id v (after_win code v) (set_part t p) (set s.words 1 code) s.homes at
      (left_one c.opening c (StopEvent r kind) h.left (rp, low, high, λ e. part.ended_is (refuted e)))
      (record { rings = h.places.rings; depth = h.places.depth; limit = h.places.limit; small = h.places.small; words = h.places.words; only = h.places.only; tiled = h.places.tiled; vars = h.places.vars; starts = h.places.starts; entries = h.places.entries; units = h.places.units; few = h.places.few; first = h.places.first })
      (subst (λ (n : ℕ). Words l d h.glue (set s.words 1 n)) number (stop_words l c h.glue s.words d.stop st h.words))
      (record {
        opening = refl;
        granted = λ _ _. refl;
        part = λ _ _. refl;
        turn = λ i ne. turn_same c d i refl refl;
        units = omega arith;
        kept_turn = λ i ne e. (e, refl);
        refused = λ y. refused_same y c d refl refl;
        own = λ i ne. ap (own_stop i) stop ∙ (λ j. if ne_eqb t.ring i (λ e. ne (sym e ∙ mine_ring)) j then Some t else None) ∙ ap (own_stop i) (sym none);
        stop_stays = λ u e. absurd (none_some u (sym none ∙ e));
        stop_new = λ u e. inr (ap (λ (x : Stop). x.ring) (some_same u t (sym e ∙ stop)) ∙ mine_ring);
        ends = λ e. e;
        given = λ i gave ne lt g. given_same c d i gave refl (λ _. refl) (λ _. refl) g;
        glue_kept = λ n lt. refl;
      })
      (λ _. refl) h.home ring.0 refl (ap (on_first (set_part t)) ring.0) refl refl refl refl refl
      (record { stands = λ u e. stop ∙ e; own = λ i q e u is. one_set i q (ap (λ (ps : List RingPart). get_elem? ps i) (sym (ap (on_first (set_part t)) ring.0)) ∙ e) u is })
      (record {
        ring = part.ring;
        part = part.part;
        glues = part.glues;
        made_glues = part.made_glues;
        turn = part.turn ∙ sym (turn_same c d (ring_of p) refl refl);
        listed = part.listed;
        whole = part.whole;
        refused = part.refused;
        set = sym own;
        ended_is = part.ended_is;
        given = given_same c d (ring_of p) p.gave refl (λ _. refl) (λ _. refl) part.given;
      })
      (λ y _ z. low_out l c d s.words 1 code y st low_word (λ _. refl) refl refl (λ k' lt. ((λ e. omega arith), (λ e. omega arith))) z)
      (low_out l c d s.words 1 code (set_part t p) st low_word (λ _. refl) refl refl (λ k' lt. ((λ e. omega arith), (λ e. omega arith))) (h.stored id v 0 p at (ap (λ ps. get_elem? ps 0) ring.0)))
    where
      one_set : (i : ℕ) (q : RingPart) → get_elem? (set_part (stop_in (kind + 8 * r)) (only v) ∷ []) i ≡ some q → (u : Stop) → q.set ≡ Some u → Some (stop_in (kind + 8 * r)) ≡ Some u
      one_set zero q e u is = ap (λ (y : RingPart). y.set) (some-injective (set_part (stop_in (kind + 8 * r)) (only v)) q e) ∙ is
      one_set (suc i) q e u is = absurd (some-ne-none q (sym e))

  -- and where one stands, it stays
  loss_next : (s : Table (Option S) View) (h : Shows stands k.layout s) (id kind r : ℕ) (v : View) → get_elem? s.views id ≡ some v → is_ready v.stage ≡ true → slice_index s.words 1 ≢ 0
      → (n : Shows stands k.layout (record { words = set s.words 1 (slice_index s.words 1); homes = s.homes; views = set s.views id (after_loss (kind + 8 * r) (slice_index s.words 1) v) })) × (n.core ≡ after h.core (StopEvent r kind))
  loss_next s h id kind r v at ready found =
      let n : ℕ = slice_index s.words 1 in
      let next = stop_seen s h id v (after_loss (kind + 8 * r) n v) at refl refl refl refl refl refl refl in
      let there : h.core.stop ≡ Some (stop_in n) = sym (word_is s h) ∙ (λ i. if ne_eqb n 0 found i then None else Some (stop_in n)) in
      (next.0, next.1 ∙ (λ i. record h.core { stop = sym (stop_no_effect h.core.stop (stop_in n) (record { kind = kind; ring = r }) there) i }))

  pub set_next : (s : Table (Option S) View) (h : Shows stands k.layout s) (id kind r : ℕ) (v : View) → get_elem? s.views id ≡ some v → is_ready v.stage ≡ true → IsRing r v → 1 ≤ kind → kind ≤ 5 → (kind ≡ 2 → (only v).ended ≡ true)
      → (n : Shows stands k.layout (record { words = set s.words 1 (either (slice_index s.words 1 == 0) (kind + 8 * r) (slice_index s.words 1)); homes = s.homes; views = set s.views id (after_set (kind + 8 * r) (slice_index s.words 1) v) })) × (n.core ≡ after h.core (StopEvent r kind))
  set_next s h id kind r v at ready ring low high refuted =
      let n : ℕ = slice_index s.words 1 in
      let code : ℕ = kind + 8 * r in
      let Next : Bool → Type 0 = λ b. (m : Shows stands k.layout (record { words = set s.words 1 (either b code n); homes = s.homes; views = set s.views id (if b then after_win code v else after_loss code n v) })) × (m.core ≡ after h.core (StopEvent r kind)) in
      dite (ℕ_discrete n 0)
      (λ e. subst Next (sym (eq-eqb n 0 e)) (win_next s h id kind r v at ready ring low high refuted e))
      (λ ne. subst Next (sym (ne_eqb n 0 ne)) (loss_next s h id kind r v at ready ne))

  pub sets_stop : (slots id : ℕ) (me : Me (Option S) View) (kind r : ℕ) → is_ready me.0.stage ≡ true → IsRing r me.0 → 1 ≤ kind → kind ≤ 5 → (kind ≡ 2 → (only me.0).ended ≡ true)
      → Allows (Shown stands k) slots id me 1 (λ n. either (n == 0) (kind + 8 * r) n) (did_set (step slots 1 0 (kind + 8 * r) maybe.none) me)
  sets_stop slots id me kind r ready ring low high refuted s shown wide at small =
      let h : Shows stands k.layout s = is_open stands k s id me.0 shown at ready in
      let v : View = me.0 in
      let n : ℕ = slice_index s.words 1 in
      let code : ℕ = kind + 8 * r in
      let next = set_next s h id kind r v at ready ring low high refuted in
      (after_set code n v, keeps, tt, inr next.0, ((refl, refl, told stands k s (set s.words 1 (either (n == 0) code n)) id v (after_set code n v) at (set_ready code n v ready) next.0), may_find_it s h id v at))
    where
      set_ready : (code n : ℕ) (v : View) → is_ready v.stage ≡ true → is_ready (after_set code n v).stage ≡ true
      set_ready code n v ready = by (n == 0)
        where
          by : (b : Bool) → is_ready (if b then after_win code v else after_loss code n v).stage ≡ true
          by true = ready
          by false = ready

-- what was found is a stop of one of the rings
pub few_found : (v : View) (s : Seen v) (n : ℕ) → v.stop ≡ stop_of n → n < 8 * 16
few_found v s n is = dite (ℕ_discrete n 0)
    (λ e. omega arith)
    (λ ne.
    let sound : Sound s.core = left_sound s.core.opening s.core s.left in
    let some_stop : v.stop ≡ Some (stop_in n) = is ∙ (λ i. if ne_eqb n 0 ne i then None else Some (stop_in n)) in
    let t = sound.stops.kinds (stop_in n) (s.stops.stands (stop_in n) some_stop) in
    let few = s.left.opens.few_rings in
    let r = t.2 in
    omega arith)

-- who lost sees what was found
pub lost_sees : (code n : ℕ) (v : View) → n ≢ 0 → (after_set code n v).stop ≡ stop_of n
lost_sees code n v ne = λ i. (if ne_eqb n 0 ne i then after_win code v else after_loss code n v).stop
