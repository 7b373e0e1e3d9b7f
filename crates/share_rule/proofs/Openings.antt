-- The rule holds at the start, and the table is opened.
use Rattle.std.proofs.Common.{false, true, ◌≡◌, ℕ, zero, suc, ◌*◌, ◌<◌, ◌≤◌, ◌==◌, List, [], ◌∷◌, length, get_or, set, refl, sym, ap, ◌∙◌, subst, arith, eq-eqb, ne_eqb, true≢false, inl, inr, Option, Some, None, Bool}
use Rattle.std.specs.Prelude.{replicate}
use mathlib.Core.Option.{some, some-injective, some-ne-none}
use mathlib.Core.Option as maybe
use mathlib.Core.Logic.{dite}
use native.Mathlib.Decide.{ℕ_discrete}
use lib.ListN.{get_elem?}
use Rattle.atomic_table.proofs.Lists.{set_here}
use Rattle.atomic_table.specs.Table as table
use Rattle.atomic_table.specs.Table.{State as Table, Me, step, Allows, takes, gives}
use Rattle.rup_model.specs.declared.journal.Entry.{Entry}
use Rattle.rup_model.specs.Basics.{one_if}
use Rattle.share_core.specs.declared.part.CoreOpening.{CoreOpening}
use Rattle.share_core.specs.State.{opened}
use Rattle.share_rule.specs.declared.view.BookOrigin.{BookOrigin}
use Rattle.share_rule.specs.declared.Layout.{Layout}
use Rattle.share_rule.specs.declared.rule.Key.{Key}
use Rattle.share_rule.specs.declared.view.RingPart.{RingPart}
use Rattle.share_rule.specs.declared.view.View.{View}
use Rattle.share_rule.specs.Views.{times_in, up_to, is_ready, closed_view, taken_view, first_view}
use Rattle.share_rule.specs.Shown.{Fits, Shown, Shows, Draft, IsOut, KnowsFault}
use Rattle.share_rule.specs.Openings.{Opens}
use Rattle.share_rule.specs.Told.{began, opened_table}
use Rattle.share_core.proofs.Counting.{none_some}
use Rattle.share_rule.proofs.Lists.{set_itself}
use Rattle.share_rule.proofs.Parts.{is_draft, seen_of}

times_past : (r n : ℕ) → n ≤ r → times_in r (up_to n) ≡ 0
times_past r zero h = refl
times_past r (suc n) h = let z : one_if (n == r) ≡ 0 = ap one_if (ne_eqb n r (λ e. omega arith)) in let k = times_past r n (omega arith) in omega arith

pub times_up_to : (r n : ℕ) → r < n → times_in r (up_to n) ≡ 1
times_up_to r zero h = absurd (omega arith)
times_up_to r (suc n) h = dite (ℕ_discrete n r)
    (λ e. let z : one_if (n == r) ≡ 1 = ap one_if (eq-eqb n r e) in let k = times_past r n (omega arith) in omega arith)
    (λ ne. let z : one_if (n == r) ≡ 0 = ap one_if (ne_eqb n r ne) in let k = times_up_to r n (omega arith) in omega arith)

module _ {S : Type 0} (stands : S → BookOrigin → Layout → CoreOpening → List Entry → Bool → Type 0) (k : Key) where
  pub drafted : Shown stands k (table.opening k.words.items (replicate 1 None) (closed_view k.layout))
  drafted = inl (record { words = refl; view = closed_view k.layout; views = refl; closed = (refl, refl, refl); home = λ _. refl })

  alone : (u v : View) (i : ℕ) → get_elem? (u ∷ []) i ≡ some v → (i ≡ 0) × (u ≡ v)
  alone u v zero e = (refl, some-injective u v e)
  alone u v (suc i) e = absurd (some-ne-none v (sym e))

  -- the only pass
  only_view : (s : Table (Option S) View) (id : ℕ) (v : View) → get_elem? s.views id ≡ some v → (d : Draft stands k s) → (id ≡ 0) × (d.view ≡ v)
  only_view s id v at d = alone d.view v id (ap (λ (vs : List View). get_elem? vs id) (sym d.views) ∙ at)

  only_next : (s : Table (Option S) View) (id : ℕ) (v w : View) → get_elem? s.views id ≡ some v → (d : Draft stands k s) → set s.views id w ≡ w ∷ []
  only_next s id v w at d = let o = only_view s id v at d in (λ i. set (d.views i) (o.0 i) w)

  -- the load that takes the slot, with nothing in it
  pub begin_next : (s : Table (Option S) View) (id : ℕ) → Shown stands k s → get_elem? s.views id ≡ some (closed_view k.layout)
      → Draft stands k (record { words = set s.words 0 (get_or s.words 0 0); homes = set s.homes 0 maybe.none; views = set s.views id (taken_view k.layout) }) × (get_elem? s.homes 0 ≡ some (some None))
  begin_next s id shown at =
      let d : Draft stands k s = is_draft stands k s id (closed_view k.layout) shown at refl in
      let o = only_view s id (closed_view k.layout) at d in
      let homes : s.homes ≡ some None ∷ [] = d.home (ap (λ (v : View). v.steps) o.1) in (
        record {
          words = set_itself s.words 0 ∙ d.words;
          view = taken_view k.layout;
          views = only_next s id (closed_view k.layout) (taken_view k.layout) at d;
          closed = (refl, refl, refl);
          home = λ e. absurd (omega arith);
        },
        ap (λ (hs : List (maybe.Option (Option S))). get_elem? hs 0) homes,
      )

  begins_at : (slots id : ℕ) → Allows (Shown stands k) slots id (closed_view k.layout, []) 0 (λ n. n) (began (step slots 0 0 0 maybe.none) (closed_view k.layout, []))
  begins_at slots id s shown wide at small =
      let n = begin_next s id shown at in
      (taken_view k.layout, takes 0 None, n.1, inl n.0, (refl, refl))

  pub begins : (slots id : ℕ) (me : Me (Option S) View) → me ≡ (closed_view k.layout, [])
      → Allows (Shown stands k) slots id me 0 (λ n. n) (began (step slots 0 0 0 maybe.none) me)
  begins slots id me is = subst (λ (m : Me (Option S) View). Allows (Shown stands k) slots id m 0 (λ n. n) (began (step slots 0 0 0 maybe.none) m)) (sym is) (begins_at slots id)

  -- as it stands when it is open
  open_shows : (o : CoreOpening) (w : BookOrigin) (b : S) (entries : ℕ) → Opens stands k o w b entries → (hs : List (maybe.Option (Option S))) → get_elem? hs 0 ≡ some (some (Some b))
      → Shows stands k.layout (record { words = set k.words.items 0 (256 * entries); homes = hs; views = first_view k.layout o w ∷ [] })
  open_shows o w b entries h hs at = record {
    core = opened o;
    left = record { opens = h.opens; events = []; enabled = tt; leaves = refl };
    small = h.small;
    places = h.places;
    glue = λ _. 0;
    owner = λ _. 0;
    words = h.words;
    fresh = λ r _. refl;
    stopper = λ t e. absurd (none_some t e);
    turned = λ r e. absurd (none_some r e);
    start_glues = λ _ _ _. refl;
    owners = λ r lt. omega arith;
    fault = false;
    origin = w;
    home = λ _. (b, at, h.stood);
    origins = from;
    each = one;
    stored = none_stored;
    faults = none_knows;
    teller = λ e. absurd (true≢false (sym e));
  }
    where
      from : (j : ℕ) (v : View) → get_elem? (first_view k.layout o w ∷ []) j ≡ some v → is_ready v.stage ≡ true → v.origin ≡ w
      from zero v e _ = ap (λ (z : View). z.origin) (sym (some-injective (first_view k.layout o w) v e))
      from (suc j) v e _ = absurd (some-ne-none v (sym e))

      fits : Fits k.layout (opened o) (λ _. 0) (λ _. 0) 0 (first_view k.layout o w)
      fits = record { rights = λ r lt. times_up_to r o.rings lt; owned = λ r lt. refl; settled = refl; stops = record { stands = λ t e. absurd (none_some t e); own = λ i p e. absurd (some-ne-none p (sym e)) }; told = λ _. (refl, refl); parts = λ i p e. absurd (some-ne-none p (sym e)) }

      none_stored : (j : ℕ) (v : View) (i : ℕ) (p : RingPart) → get_elem? (first_view k.layout o w ∷ []) j ≡ some v → get_elem? v.parts i ≡ some p → IsOut k.layout (opened o) (set k.words.items 0 (256 * entries)) p
      none_stored zero v i p is e = absurd (some-ne-none p (sym (ap (λ (z : View). get_elem? z.parts i) (some-injective (first_view k.layout o w) v is) ∙ e)))
      none_stored (suc j) v i p is e = absurd (some-ne-none v (sym is))

      none_knows : (j : ℕ) (v : View) (i : ℕ) (p : RingPart) → get_elem? (first_view k.layout o w ∷ []) j ≡ some v → get_elem? v.parts i ≡ some p → KnowsFault false p
      none_knows zero v i p is e = absurd (some-ne-none p (sym (ap (λ (z : View). get_elem? z.parts i) (some-injective (first_view k.layout o w) v is) ∙ e)))
      none_knows (suc j) v i p is e = absurd (some-ne-none v (sym is))

      one : (j : ℕ) (v : View) → get_elem? (first_view k.layout o w ∷ []) j ≡ some v → Fits k.layout (opened o) (λ _. 0) (λ _. 0) j v
      one zero v e = subst (Fits k.layout (opened o) (λ _. 0) (λ _. 0) 0) (some-injective (first_view k.layout o w) v e) fits
      one (suc j) v e = absurd (some-ne-none v (sym e))

  -- the store that opens the table
  pub open_next : (s : Table (Option S) View) (id entries : ℕ) (o : CoreOpening) (w : BookOrigin) (b : S) → Shown stands k s → 0 < length s.homes → get_elem? s.views id ≡ some (taken_view k.layout) → Opens stands k o w b entries
      → (n : Shows stands k.layout (record { words = set s.words 0 (256 * entries); homes = set s.homes 0 (some (Some b)); views = set s.views id (first_view k.layout o w) })) × (n.core ≡ opened o)
  unfolding open_shows
  open_next s id entries o w b shown some_slot at h =
      let d : Draft stands k s = is_draft stands k s id (taken_view k.layout) shown at refl in
      let u : View = first_view k.layout o w in
      let views : set s.views id u ≡ u ∷ [] = only_next s id (taken_view k.layout) u at d in
      let hs : List (maybe.Option (Option S)) = set s.homes 0 (some (Some b)) in
      subst (λ (y : List ℕ × List View). (n : Shows stands k.layout (record { words = set y.0 0 (256 * entries); homes = hs; views = y.1 })) × (n.core ≡ opened o)) (λ i. (sym d.words i, sym views i))
      (open_shows o w b entries h hs (set_here s.homes 0 (some (Some b)) some_slot), refl)

  opens_at : (slots id : ℕ) (o : CoreOpening) (w : BookOrigin) (b : S) (entries : ℕ) → slots ≡ 1 → Opens stands k o w b entries
      → Allows (Shown stands k) slots id (taken_view k.layout, (0, Some b) ∷ []) 0 (λ _. 256 * entries) (λ _. opened_table o w (step slots 0 (256 * entries) 0 maybe.none) (taken_view k.layout, (0, Some b) ∷ []) (256 * entries))
  opens_at slots id o w b entries one h s shown wide at small =
      let d : Draft stands k s = is_draft stands k s id (taken_view k.layout) shown at refl in
      let u : View = first_view k.layout o w in
      let views : set s.views id u ≡ u ∷ [] = only_next s id (taken_view k.layout) u at d in
      let next = open_next s id entries o w b shown (omega arith) at h in
      let there : get_elem? (set s.views id u) id ≡ some u = ap (λ (vs : List View). get_elem? vs id) views ∙ (λ i. get_elem? (u ∷ []) ((only_view s id (taken_view k.layout) at d).0 i)) in
      (u, gives, tt, inr next.0, (refl, refl, seen_of stands k.layout (record { words = set s.words 0 (256 * entries); homes = set s.homes 0 (some (Some b)); views = set s.views id u }) id u next.0 there refl))

  pub opens : (slots id : ℕ) (me : Me (Option S) View) (o : CoreOpening) (w : BookOrigin) (b : S) (entries : ℕ) → slots ≡ 1 → me ≡ (taken_view k.layout, (0, Some b) ∷ []) → Opens stands k o w b entries
      → Allows (Shown stands k) slots id me 0 (λ _. 256 * entries) (λ _. opened_table o w (step slots 0 (256 * entries) 0 maybe.none) me (256 * entries))
  opens slots id me o w b entries one is h = subst (λ (m : Me (Option S) View). Allows (Shown stands k) slots id m 0 (λ _. 256 * entries) (λ _. opened_table o w (step slots 0 (256 * entries) 0 maybe.none) m (256 * entries))) (sym is) (opens_at slots id o w b entries one h)
