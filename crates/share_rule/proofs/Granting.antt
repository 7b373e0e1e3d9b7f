-- Taking a grant keeps the rule.
use Rattle.std.proofs.Common.{◌≡◌, ◌≢◌, ℕ, zero, suc, ◌<◌, ◌≤◌, ◌==◌, ◌&&◌, Bool, true, false, not, List, [], ◌∷◌, All, set, refl, sym, ap, ◌∙◌, subst, arith, eq-eqb, ne_eqb, eqb-true, true≢false, inr, Option, Some, None}
use Rattle.std.specs.Prelude.{slice_index}
use mathlib.Core.Option.{some, some-injective, some-ne-none}
use mathlib.Core.Option as maybe
use mathlib.Core.Logic.{dite}
use native.Mathlib.Decide.{ℕ_discrete}
use lib.ListN.{get_elem?}
use Rattle.atomic_table.specs.Table.{State as Table, Me, keeps, step, Allows}
use Rattle.rup_model.specs.declared.journal.Entry.{Entry}
use Rattle.rup_model.specs.Basics.{one_if}
use Rattle.rup_model.proofs.Sums.{put_here, put_else}
use Rattle.share_core.specs.declared.event.Event.TheVariants.{Grant}
use Rattle.share_core.specs.declared.part.CoreOpening.{CoreOpening}
use Rattle.share_core.specs.declared.part.Part.{Part}
use Rattle.share_core.specs.declared.stored.ClauseAt.{ClauseAt}
use Rattle.std.specs.Prelude.{Contains, if◌then◌else◌}
use Rattle.share_core.specs.declared.event.Stop.{Stop}
use Rattle.share_rule.specs.Views.{own_stop, is_ready}
use Rattle.share_core.specs.State.{State, slot_of, blank, clause_at}
use Rattle.share_core.specs.Events.{after, granted_part}
use Rattle.share_core.specs.Sound.{Sound, last_put}
use Rattle.share_core.proofs.Counting.{none_some}
use Rattle.share_core.proofs.ClauseLists.{all_map}
use Rattle.share_rule.specs.declared.view.BookOrigin.{BookOrigin}
use Rattle.share_rule.specs.declared.Layout.{Layout}
use Rattle.share_rule.specs.declared.rule.Key.{Key}
use Rattle.share_rule.specs.declared.view.RingPart.{RingPart}
use Rattle.share_rule.specs.declared.view.View.{View}
use Rattle.share_rule.specs.Layout.{grant_at}
use Rattle.share_rule.specs.Views.{glue_in, start_glues, IsRight}
use Rattle.share_rule.specs.Steps.{new_part, after_grant}
use Rattle.share_rule.specs.Seen.{IsPart, IsStopOf, HasGiven, turn_of}
use Rattle.share_rule.specs.declared.view.Taken.{Taken}
use Rattle.share_rule.specs.Shown.{Fits, Shown, Shows, IsOut, ring_of, KnowsFault}
use Rattle.share_rule.specs.Told.{Knows, took_grant}
use Rattle.share_core.proofs.Leaving.{left_sound, left_one}
use Rattle.share_rule.proofs.Lists.{times_without, both_true, not_true, no_test, small_test, start_glue}
use Rattle.share_rule.proofs.Parts.{is_open, standing_of}
use Rattle.share_rule.proofs.Words.{grant_words, unit_kept, none_out, grant_stored}
use Rattle.share_rule.proofs.Moves.{part_owner, Frame, frame_of, turn_has, part_else, acted}
use Rattle.share_rule.proofs.Steps.{told}
use Rattle.share_rule.proofs.Telling.{told_more, still_told}

unturned : (c : State) (r : ℕ) → (c.turn ≡ Some r → c.granted r ≡ true) → c.granted r ≡ false → turn_of c r ≡ None
unturned c r h closed = by (turn_of c r) refl
  where
    by : (q : Option Taken) → turn_of c r ≡ q → turn_of c r ≡ None
    by None e = e
    by (Some t) e = absurd (true≢false (sym (h (turn_has c r t e)) ∙ closed))

-- a ring without its grant has set no stop
unstopped : (granted : ℕ → Bool) (r : ℕ) (o : Option Stop) → ((t : Stop) → o ≡ Some t → granted t.ring ≡ true) → granted r ≡ false → own_stop r o ≡ None
unstopped granted r None h closed = refl
unstopped granted r (Some t) h closed = λ i. if ne_eqb t.ring r (λ e. true≢false (sym (h t refl) ∙ ap granted e ∙ closed)) i then Some t else None

-- and has put nothing into a slot
none_given : (c d : State) (r : ℕ) → Sound c → r < c.opening.rings → d.opening ≡ c.opening → d.slot ≡ c.slot → c.part r ≡ blank r → HasGiven d r []
none_given c d r sound lt same slots fresh = subst (λ (y : CoreOpening × (ℕ → ℕ)). (to class place : ℕ) → to < y.0.rings → class < 4 → place < y.0.depth → y.1 (slot_of y.0 r to class place) ≢ 0 → Contains [] (clause_at d (y.1 (slot_of y.0 r to class place))))
    (λ i. (sym same i, sym slots i))
    (λ to class place lt' few at some. absurd (some (sound.slots r to class place lt lt' few at some ∙ ap (λ (q : Part). last_put to class place q.puts) fresh)))

module _ {S : Type 0} (stands : S → BookOrigin → Layout → CoreOpening → List Entry → Bool → Type 0) (k : Key) where
  grant_stops : (o : Option Stop) (v : View) → {r : ℕ} → IsStopOf o v.stop v.parts → IsStopOf o v.stop (new_part v.opening r ∷ v.parts)
  grant_stops o v {r} f = record { stands = f.stands; own = own }
    where
      own : (i : ℕ) (p : RingPart) → get_elem? (new_part v.opening r ∷ v.parts) i ≡ some p → (t : Stop) → p.set ≡ Some t → v.stop ≡ Some t
      own zero p at t e = absurd (none_some t (ap (λ (x : RingPart). x.set) (some-injective (new_part v.opening r) p at) ∙ e))
      own (suc i) p at t e = f.own i p at t e

  pub grant_next : (s : Table (Option S) View) (h : Shows stands k.layout s) (id r : ℕ) (v : View) → get_elem? s.views id ≡ some v → is_ready v.stage ≡ true → IsRight r v
      → (n : Shows stands k.layout (record { words = set s.words (grant_at r) 0; homes = s.homes; views = set s.views id (after_grant r v) })) × (n.core ≡ after h.core (Grant r)) × (slice_index s.words (grant_at r) ≡ 1)
  grant_next s h id r v at ready right =
      let l : Layout = k.layout in
      let n : ℕ = slice_index s.words (grant_at r) in
      let c : State = h.core in
      let f : Fits l c h.glue h.owner id v = h.each id v at in
      let t = f.told ready in
      let lt : r < c.opening.rings = subst (λ (o : CoreOpening). r < o.rings) t.1 right.0 in
      let f_r = f.rights r lt in
      let some_right = right.1 in
      let both = both_true (h.owner r == id) (not (c.granted r)) (omega arith) in
      let own : h.owner r ≡ id = eqb-true (h.owner r) id both.0 in
      let closed : c.granted r ≡ false = not_true (c.granted r) both.1 in
      let in_layout : r < l.rings = let q = h.places.rings in omega arith in
      let n_is : n ≡ 1 = h.words.grant_is r in_layout ∙ ap one_if both.1 in
      let p : Part = granted_part c.opening (c.part r) in
      let d : State = after c (Grant r) in
      let w : View = after_grant r v in
      let here : d.granted r ≡ true = put_here c.granted r true in
      let else_where : (i : ℕ) → i ≢ r → d.granted i ≡ c.granted i = put_else c.granted r true in
      let others : (i : ℕ) → i ≢ r → d.part i ≡ c.part i = put_else c.part r p in
      let new : granted_part v.opening (blank r) ≡ d.part r = (λ i. granted_part (t.1 i) (sym (h.fresh r closed) i)) ∙ sym (put_here c.part r p) in
      let sound : Sound c = left_sound c.opening c h.left in
      let first : IsPart l d h.glue (new_part v.opening r) = record {
        ring = lt;
        part = new;
        glues = subst (λ (o : CoreOpening). All (λ (h' : ClauseAt). glue_in h'.number (start_glues o.starts) ≡ h.glue h'.number) o.starts) (sym t.1)
            (all_map (λ (h' : ClauseAt). h.glue h'.number ≡ 0) (λ (h' : ClauseAt). glue_in h'.number (start_glues c.opening.starts) ≡ h.glue h'.number) c.opening.starts
            (λ x _ z. start_glue x.number c.opening.starts ∙ sym z) h.start_glues);
        made_glues = λ i d' it. absurd (omega arith);
        turn = sym (unturned c r (λ t. (h.turned r t).1) closed);
        listed = omega arith;
        whole = λ e. absurd (true≢false (sym e));
        refused = λ x e. absurd (none_some x e);
        set = sym (unstopped c.granted r c.stop (λ t e. h.stopper t e) closed);
        ended_is = λ e. absurd (true≢false (sym e));
        given = none_given c d r sound lt refl refl (h.fresh r closed);
      } in
      let frame : Frame r c d h.glue h.glue = frame_of r c d h.glue (record { opening = refl; journal = refl; turn = refl; units = refl; stop = refl; slots = λ _. refl; clauses = λ _. refl }) else_where others in
      let next = acted stands l s h d h.glue id r v w (set s.words (grant_at r) 0) s.homes at (left_one c.opening c (Grant r) h.left (lt, closed))
      (record { rings = h.places.rings; depth = h.places.depth; limit = h.places.limit; small = h.places.small; words = h.places.words; only = h.places.only; tiled = h.places.tiled; vars = h.places.vars; starts = h.places.starts; entries = h.places.entries; units = h.places.units; few = h.places.few; first = h.places.first })
      (grant_words l c h.glue s.words r p (standing_of stands l s h) in_layout h.words) frame own lt here h.fault h.home
      (record {
        rights = λ i it. let q = times_without r i v.rights some_right in dite (ℕ_discrete i r)
            (λ e. let o : one_if (r == i) ≡ 1 = ap one_if (eq-eqb r i (sym e)) in let old = f.rights i it in
            let old' : one_if ((h.owner i == id) && not (c.granted i)) ≤ 1 = small_test (h.owner i == id) (not (c.granted i)) in
            let z : one_if ((h.owner i == id) && not (d.granted i)) ≡ 0 = (λ j. one_if ((h.owner i == id) && not (d.granted (e j)))) ∙ (λ j. one_if ((h.owner i == id) && not (here j))) ∙ no_test (h.owner i == id) in omega arith)
            (λ ne. let o : one_if (r == i) ≡ 0 = ap one_if (ne_eqb r i (λ e. ne (sym e))) in let old = f.rights i it in
            let z : one_if ((h.owner i == id) && not (d.granted i)) ≡ one_if ((h.owner i == id) && not (c.granted i)) = (λ j. one_if ((h.owner i == id) && not (else_where i ne j))) in omega arith);
        owned = λ i it. let old = f.owned i it in dite (ℕ_discrete i r)
            (λ e. let o : one_if (r == i) ≡ 1 = ap one_if (eq-eqb r i (sym e)) in
            let y : one_if ((h.owner i == id) && c.granted i) ≡ 0 = (λ j. one_if ((h.owner i == id) && c.granted (e j))) ∙ (λ j. one_if ((h.owner i == id) && closed j)) ∙ no_test (h.owner i == id) in
            let z : one_if ((h.owner i == id) && d.granted i) ≡ 1 = (λ j. one_if ((h.owner (e j) == id) && d.granted (e j))) ∙ (λ j. one_if (both.0 j && here j)) in omega arith)
            (λ ne. let o : one_if (r == i) ≡ 0 = ap one_if (ne_eqb r i (λ e. ne (sym e))) in
            let z : one_if ((h.owner i == id) && d.granted i) ≡ one_if ((h.owner i == id) && c.granted i) = (λ j. one_if ((h.owner i == id) && else_where i ne j)) in omega arith);
        settled = f.settled;
        stops = grant_stops c.stop v f.stops;
        told = λ op. t;
        parts = λ i y e. each_part c d h.glue v sound frame (λ j z q. (f.parts j z q, (part_owner l c h.glue h.owner id v j z f q).2)) first closed i y e;
      })
      (λ _. h.origins id v at ready)
      (λ y _ z. (grant_stored l c d s.words r (ring_of y) y.stored (standing_of stands l s h) in_layout (λ _. refl) z.0, unit_kept l c d s.words (grant_at r) 0 y refl refl (λ k' lt. ((λ e. omega arith), (λ e. omega arith))) z.1))
      (λ i y e. stored_part l d (set s.words (grant_at r) 0) v (λ j z q. let out = h.stored id v j z at q in (grant_stored l c d s.words r (ring_of z) z.stored (standing_of stands l s h) in_layout (λ _. refl) out.0, unit_kept l c d s.words (grant_at r) 0 z refl refl (λ k' lt. ((λ e. omega arith), (λ e. omega arith))) out.1)) i y e)
      (λ _ _ _ z. z) (λ i y e. knows_part h.fault v (λ t is. none_some t is) (λ j z q. h.faults id v j z at q) i y e)
      (λ e. still_told s.views id v w at (told_more (new_part v.opening r) v.parts) (h.teller e)) in
      (next.0, next.1, n_is)
    where
      stored_part : (l : Layout) (d : State) (ws : List ℕ) (v : View) → ((i : ℕ) (p : RingPart) → get_elem? v.parts i ≡ some p → IsOut l d ws p)
          → (i : ℕ) (y : RingPart) → get_elem? (new_part v.opening r ∷ v.parts) i ≡ some y → IsOut l d ws y
      stored_part l d ws v old zero y e = subst (IsOut l d ws) (some-injective (new_part v.opening r) y e) (record { words = λ w n q. absurd (none_some n q); inside = λ w n q. absurd (none_some n q) }, none_out l d ws (new_part v.opening r) refl refl)
      stored_part l d ws v old (suc i) y e = old i y e

      knows_part : (fault : Bool) (v : View) → ((t : Taken) → (new_part v.opening r).turn ≡ Some t → ⊥) → ((i : ℕ) (p : RingPart) → get_elem? v.parts i ≡ some p → KnowsFault fault p)
          → (i : ℕ) (y : RingPart) → get_elem? (new_part v.opening r ∷ v.parts) i ≡ some y → KnowsFault fault y
      knows_part fault v none old zero y e = subst (KnowsFault fault) (some-injective (new_part v.opening r) y e) (record { told = λ q. absurd (true≢false (sym q)); taken = λ t q f. absurd (none t q) })
      knows_part fault v none old (suc i) y e = old i y e

      each_part : (c d : State) (glue : ℕ → ℕ) (v : View) → Sound c → Frame r c d glue glue → ((i : ℕ) (p : RingPart) → get_elem? v.parts i ≡ some p → IsPart k.layout c glue p × (c.granted (ring_of p) ≡ true))
          → IsPart k.layout d glue (new_part v.opening r) → c.granted r ≡ false
          → (i : ℕ) (y : RingPart) → get_elem? (new_part v.opening r ∷ v.parts) i ≡ some y → IsPart k.layout d glue y
      each_part c d glue v sound frame old first closed zero y e = subst (IsPart k.layout d glue) (some-injective (new_part v.opening r) y e) first
      each_part c d glue v sound frame old first closed (suc i) y e = let o = old i y e in
          part_else k.layout r c d glue glue y sound frame (λ q. true≢false (sym o.1 ∙ ap c.granted q ∙ closed)) o.0

  pub grants : (slots id : ℕ) (me : Me (Option S) View) (r : ℕ) → is_ready me.0.stage ≡ true → IsRight r me.0
      → Allows (Shown stands k) slots id me (grant_at r) (λ _. 0) (took_grant (step slots (grant_at r) 0 0 maybe.none) me)
  grants slots id me r ready right s shown wide at small =
      let h : Shows stands k.layout s = is_open stands k s id me.0 shown at ready in
      let v : View = me.0 in
      let n : ℕ = slice_index s.words (grant_at r) in
      let next = grant_next s h id r v at ready right in (
        after_grant r v,
        keeps,
        tt,
        inr next.0,
        λ r' e. let same : r ≡ r' = omega arith in
            subst (λ (q : ℕ). Knows (after_grant q v) me (after_grant r v, me.1) × (n ≡ 1)) same ((refl, refl, told stands k s (set s.words (grant_at r) 0) id v (after_grant r v) at ready next.0), next.2),
      )
