-- Passes are cut in two and joined.
use Rattle.std.proofs.Common.{◌≡◌, ◌≢◌, ◌⊎◌, ℕ, zero, suc, ◌+◌, ◌<◌, ◌==◌, ◌&&◌, Bool, true, false, not, cond, List, [], ◌∷◌, ◌++◌, map, length, set, refl, sym, ap, ◌∙◌, subst, ⊎_elim, inl, inr, arith, eq-eqb, ne_eqb, eqb-true, true≢false, length-set, length-append, Option, Some, None}
use mathlib.Core.Option.{some, some-injective, some-ne-none}
use mathlib.Core.Logic.{dite}
use native.Mathlib.Decide.{ℕ_discrete}
use lib.ListN.{get_elem?}
use Rattle.atomic_table.specs.Table.{State as Table, Splits, Joins}
use Rattle.atomic_table.proofs.Lists.{at_set}
use Rattle.rup_model.specs.declared.journal.Entry.{Entry}
use Rattle.rup_model.specs.Basics.{put, one_if}
use Rattle.rup_model.proofs.Sums.{put_here, put_else}
use Rattle.share_core.specs.declared.part.CoreOpening.{CoreOpening}
use Rattle.share_core.specs.State.{State}
use Rattle.share_rule.specs.declared.view.BookOrigin.{BookOrigin}
use Rattle.share_rule.specs.declared.Layout.{Layout}
use Rattle.share_rule.specs.declared.rule.Key.{Key}
use Rattle.share_rule.specs.declared.view.RingPart.{RingPart}
use Rattle.share_rule.specs.declared.view.View.{View}
use Rattle.share_core.specs.declared.event.Stop.{Stop}
use Rattle.share_core.proofs.Counting.{none_some}
use Rattle.share_rule.specs.Views.{times_in, first_of, spent_view, IsRight, is_ready, in_draft}
use Rattle.share_rule.specs.Steps.{without_right, with_right, joined}
use Rattle.share_rule.specs.Seen.{IsPart, IsStopOf}
use Rattle.share_rule.specs.Shown.{Fits, Shown, Shows, ring_of}
use Rattle.share_rule.proofs.Lists.{times_without, times_both, both_true, not_true, no_test, off, on, at_in}
use Rattle.share_rule.proofs.Parts.{is_open}
use Rattle.share_rule.proofs.Telling.{still_told, told_with, told_joined}

module _ {A : Type 0} where
  at_end : (xs : List A) (a b : A) (j : ℕ) → get_elem? (xs ++ a ∷ []) j ≡ some b → ((j < length xs) × (get_elem? xs j ≡ some b)) ⊎ ((j ≡ length xs) × (a ≡ b))
  at_end [] a b zero e = inr (refl, some-injective a b e)
  at_end [] a b (suc j) e = absurd (some-ne-none b (sym e))
  at_end (x ∷ xs) a b zero e = inl (omega arith, e)
  at_end (x ∷ xs) a b (suc j) e = ⊎_elim (λ t. let k = t.0 in inl (omega arith, t.1)) (λ t. let k = t.0 in inr (ap suc k, t.1)) (at_end xs a b j e)

  at_both : (xs ys : List A) (b : A) (j : ℕ) → get_elem? (xs ++ ys) j ≡ some b → (get_elem? xs j ≡ some b) ⊎ ((k : ℕ) × (get_elem? ys k ≡ some b))
  at_both [] ys b j e = inr (j, e)
  at_both (x ∷ xs) ys b zero e = inl e
  at_both (x ∷ xs) ys b (suc j) e = at_both xs ys b j e

-- what two passes have seen stands, together too
pub both_stops : (standing x y : Option Stop) (ps qs : List RingPart) → IsStopOf standing x ps → IsStopOf standing y qs → IsStopOf standing (first_of x y) (ps ++ qs)
both_stops standing None y ps qs f g = record {
  stands = λ t e. g.stands t e;
  own = λ i p at t e. ⊎_elim (λ (q : get_elem? ps i ≡ some p). absurd (none_some t (f.own i p q t e))) (λ (q : (n : ℕ) × (get_elem? qs n ≡ some p)). g.own q.0 p q.1 t e) (at_both ps qs p i at);
}
both_stops standing (Some u) y ps qs f g = record {
  stands = λ t e. f.stands t e;
  own = λ i p at t e. ⊎_elim (λ (q : get_elem? ps i ≡ some p). f.own i p q t e) (λ (q : (n : ℕ) × (get_elem? qs n ≡ some p)). sym (f.stands u refl) ∙ g.stands t (g.own q.0 p q.1 t e)) (at_both ps qs p i at);
}

map_both : (xs ys : List RingPart) → map ring_of (xs ++ ys) ≡ map ring_of xs ++ map ring_of ys
map_both [] ys = refl
map_both (x ∷ xs) ys = ap (λ zs. ring_of x ∷ zs) (map_both xs ys)

-- a view of the old ones, without the right to r
abbrev Cut : (l : Layout) (c : State) (glue owner : ℕ → ℕ) (r j : ℕ) → View → Type 0
Cut l c glue owner r j u = ((i : ℕ) → i < c.opening.rings → i ≢ r → times_in i u.rights ≡ one_if ((owner i == j) && not (c.granted i))) × (times_in r u.rights ≡ 0)
    × ((i : ℕ) → i < c.opening.rings → times_in i (map ring_of u.parts) ≡ one_if ((owner i == j) && c.granted i))
    × (in_draft u.stage ≡ false) × (is_ready u.stage ≡ true → (u.layout ≡ l) × (u.opening ≡ c.opening))
    × ((i : ℕ) (p : RingPart) → get_elem? u.parts i ≡ some p → IsPart l c glue p) × IsStopOf c.stop u.stop u.parts

module _ (l : Layout) (c : State) (glue owner : ℕ → ℕ) (r : ℕ) where
  cut_here : (id : ℕ) (v : View) → Fits l c glue owner id v → times_in r v.rights ≡ one_if ((owner r == id) && not (c.granted r)) → 0 < times_in r v.rights → ((owner r == id) ≡ true) × (not (c.granted r) ≡ true) → Cut l c glue owner r id (without_right r v)
  cut_here id v f f_r has both = (
    (λ i it ne. let t = times_without r i v.rights has in let z : one_if (r == i) ≡ 0 = ap one_if (ne_eqb r i (λ e. ne (sym e))) in let o = f.rights i it in omega arith),
    (let t = times_without r r v.rights has in let z : one_if (r == r) ≡ 1 = ap one_if (eq-eqb r r refl) in let q : one_if ((owner r == id) && not (c.granted r)) ≡ 1 = (λ k. one_if (both.0 k && both.1 k)) in omega arith),
    f.owned,
    f.settled,
    f.told,
    f.parts,
    f.stops,
  )

  cut_else : (id j : ℕ) (u : View) → r < c.opening.rings → Fits l c glue owner j u → owner r ≡ id → j ≢ id → Cut l c glue owner r j u
  cut_else id j u lt f own ne = (λ i it _. f.rights i it, f.rights r lt ∙ off (owner r) j (not (c.granted r)) (λ e. ne (sym e ∙ own)), f.owned, f.settled, f.told, f.parts, f.stops)

  module _ (owner' : ℕ → ℕ) (n : ℕ) (here : owner' r ≡ n) (there : (i : ℕ) → i ≢ r → owner' i ≡ owner i) (closed : c.granted r ≡ false) where
    old_view : (j : ℕ) (u : View) → j < n → Cut l c glue owner r j u → Fits l c glue owner' j u
    old_view j u low x = record {
      rights = λ i it. dite (ℕ_discrete i r)
          (λ e. ap (λ y. times_in y u.rights) e ∙ x.1 ∙ sym (off (owner' i) j (not (c.granted i)) (λ q. let k : owner' i ≡ n = ap owner' e ∙ here in omega arith)))
          (λ ne. x.0 i it ne ∙ (λ k. one_if ((sym (there i ne) k == j) && not (c.granted i))));
      owned = λ i it. x.2 i it ∙ dite (ℕ_discrete i r)
          (λ e. let g : c.granted i ≡ false = ap c.granted e ∙ closed in (λ k. one_if ((owner i == j) && g k)) ∙ no_test (owner i == j) ∙ sym (no_test (owner' i == j)) ∙ (λ k. one_if ((owner' i == j) && sym g k)))
          (λ ne k. one_if ((sym (there i ne) k == j) && c.granted i));
      settled = x.3;
      told = x.4;
      parts = x.5;
      stops = x.6;
    }

    new_view : (v : View) → ((i : ℕ) → i < c.opening.rings → owner i < n) → (v.layout ≡ l) × (v.opening ≡ c.opening) → not (c.granted r) ≡ true → Fits l c glue owner' n (with_right r v)
    new_view v owners told opened = record {
      rights = λ i it. dite (ℕ_discrete i r)
          (λ e. let o : one_if (r == i) ≡ 1 = ap one_if (eq-eqb r i (sym e)) in
          let q : one_if ((owner' i == n) && not (c.granted i)) ≡ 1 = on (owner' i) n (not (c.granted i)) (ap owner' e ∙ here) ∙ (λ k. one_if (not (c.granted (e k)))) ∙ ap one_if opened in omega arith)
          (λ ne. let o : one_if (r == i) ≡ 0 = ap one_if (ne_eqb r i (λ e. ne (sym e))) in
          let q : one_if ((owner' i == n) && not (c.granted i)) ≡ 0 = off (owner' i) n (not (c.granted i)) (λ e. let a = there i ne in let b = owners i it in omega arith) in omega arith);
      owned = λ i it. sym (dite (ℕ_discrete i r)
          (λ e. (λ k. one_if ((owner' i == n) && (ap c.granted e ∙ closed) k)) ∙ no_test (owner' i == n))
          (λ ne. off (owner' i) n (c.granted i) (λ e. let a = there i ne in let b = owners i it in omega arith)));
      settled = refl;
      told = λ _. told;
      stops = record { stands = λ t e. absurd (none_some t e); own = λ i p e. absurd (some-ne-none p (sym e)) };
      parts = λ i p e. absurd (some-ne-none p (sym e));
    }

module _ {S : Type 0} (stands : S → BookOrigin → Layout → CoreOpening → List Entry → Bool → Type 0) (k : Key) where
  -- a right moves to a new pass
  pub split_next : (s : Table (Option S) View) (h : Shows stands k.layout s) (id r : ℕ) (v : View) → get_elem? s.views id ≡ some v → is_ready v.stage ≡ true → IsRight r v
      → (n : Shows stands k.layout (record { words = s.words; homes = s.homes; views = set s.views id (without_right r v) ++ with_right r v ∷ [] })) × (n.core ≡ h.core)
  split_next s h id r v at ready right =
      let l : Layout = k.layout in
      let c : State = h.core in
      let n : ℕ = length s.views in
      let cut : View = without_right r v in
      let n_is : length (set s.views id cut) ≡ n = length-set s.views id cut in
      let f : Fits l c h.glue h.owner id v = h.each id v at in
      let t = f.told ready in
      let lt : r < c.opening.rings = subst (λ (o : CoreOpening). r < o.rings) t.1 right.0 in
      let has = right.1 in
      let f_r = f.rights r lt in
      let both = both_true (h.owner r == id) (not (c.granted r)) (omega arith) in
      let own : h.owner r ≡ id = eqb-true (h.owner r) id both.0 in
      let closed : c.granted r ≡ false = not_true (c.granted r) both.1 in
      let owner' : ℕ → ℕ = put h.owner r n in
      let here : owner' r ≡ n = put_here h.owner r n in
      let there : (i : ℕ) → i ≢ r → owner' i ≡ h.owner i = put_else h.owner r n in
      let next : Shows stands l (record { words = s.words; homes = s.homes; views = set s.views id cut ++ with_right r v ∷ [] }) = record {
        core = c;
        left = h.left;
        small = h.small;
        places = h.places;
        glue = h.glue;
        owner = owner';
        words = h.words;
        fresh = h.fresh;
        stopper = h.stopper;
        turned = h.turned;
        start_glues = h.start_glues;
        owners = λ i it. let long = length-append (set s.views id cut) (with_right r v ∷ []) in dite (ℕ_discrete i r)
            (λ e. let q : owner' i ≡ n = ap owner' e ∙ here in omega arith)
            (λ ne. let q : owner' i ≡ h.owner i = there i ne in let o = h.owners i it in omega arith);
        fault = h.fault;
        origin = h.origin;
        home = h.home;
        origins = λ j u is op. ⊎_elim
            (λ (x : (j < length (set s.views id cut)) × (get_elem? (set s.views id cut) j ≡ some u)). ⊎_elim
            (λ (y : (j ≡ id) × (cut ≡ u)). ap (λ (z : View). z.origin) (sym y.1) ∙ h.origins id v at (ap (λ (z : View). is_ready z.stage) y.1 ∙ op))
            (λ (y : (j ≢ id) × (get_elem? s.views j ≡ some u)). h.origins j u y.1 op)
            (at_set s.views id j cut u x.1))
            (λ (x : (j ≡ length (set s.views id cut)) × (with_right r v ≡ u)). ap (λ (z : View). z.origin) (sym x.1) ∙ h.origins id v at ready)
            (at_end (set s.views id cut) (with_right r v) u j is);
        each = λ j u is. ⊎_elim
            (λ (x : (j < length (set s.views id cut)) × (get_elem? (set s.views id cut) j ≡ some u)).
            let low : j < n = let q = x.0 in omega arith in
            old_view l c h.glue h.owner r owner' n here there closed j u low (⊎_elim
            (λ (y : (j ≡ id) × (cut ≡ u)). subst (λ (z : ℕ × View). Cut l c h.glue h.owner r z.0 z.1) (λ i. (sym y.0 i, y.1 i)) (cut_here l c h.glue h.owner r id v f f_r has both))
            (λ (y : (j ≢ id) × (get_elem? s.views j ≡ some u)). cut_else l c h.glue h.owner r id j u lt (h.each j u y.1) own y.0)
            (at_set s.views id j cut u x.1)))
            (λ (x : (j ≡ length (set s.views id cut)) × (with_right r v ≡ u)).
            let high : j ≡ n = let q = x.0 in omega arith in
            subst (λ (z : ℕ × View). Fits l c h.glue owner' z.0 z.1) (λ i. (sym high i, x.1 i)) (new_view l c h.glue h.owner r owner' n here there closed v h.owners t both.1))
            (at_end (set s.views id cut) (with_right r v) u j is);
        stored = λ j u i p is e. ⊎_elim
            (λ (x : (j < length (set s.views id cut)) × (get_elem? (set s.views id cut) j ≡ some u)). ⊎_elim
            (λ (y : (j ≡ id) × (cut ≡ u)). h.stored id v i p at (ap (λ (z : View). get_elem? z.parts i) y.1 ∙ e))
            (λ (y : (j ≢ id) × (get_elem? s.views j ≡ some u)). h.stored j u i p y.1 e)
            (at_set s.views id j cut u x.1))
            (λ (x : (j ≡ length (set s.views id cut)) × (with_right r v ≡ u)). absurd (some-ne-none p (sym (ap (λ (z : View). get_elem? z.parts i) x.1 ∙ e))))
            (at_end (set s.views id cut) (with_right r v) u j is);
        teller = λ f. told_with (set s.views id cut) (with_right r v) (still_told s.views id v cut at (λ t. t) (h.teller f));
        faults = λ j u i p is e. ⊎_elim
            (λ (x : (j < length (set s.views id cut)) × (get_elem? (set s.views id cut) j ≡ some u)). ⊎_elim
            (λ (y : (j ≡ id) × (cut ≡ u)). h.faults id v i p at (ap (λ (z : View). get_elem? z.parts i) y.1 ∙ e))
            (λ (y : (j ≢ id) × (get_elem? s.views j ≡ some u)). h.faults j u i p y.1 e)
            (at_set s.views id j cut u x.1))
            (λ (x : (j ≡ length (set s.views id cut)) × (with_right r v ≡ u)). absurd (some-ne-none p (sym (ap (λ (z : View). get_elem? z.parts i) x.1 ∙ e))))
            (at_end (set s.views id cut) (with_right r v) u j is);
      } in
      (next, refl)

  pub splits : (id : ℕ) (v : View) (r : ℕ) → is_ready v.stage ≡ true → IsRight r v → Splits (Shown stands k) id v (without_right r v) (with_right r v)
  splits id v r ready right s shown at = inr (split_next s (is_open stands k s id v shown at ready) id r v at ready right).0

  -- two passes are made one
  pub join_next : (s : Table (Option S) View) (h : Shows stands k.layout s) (id other : ℕ) (v w : View) → get_elem? s.views id ≡ some v → other ≢ id → get_elem? (set s.views id (joined v w)) other ≡ some w
      → (n : Shows stands k.layout (record { words = s.words; homes = s.homes; views = set (set s.views id (joined v w)) other spent_view })) × (n.core ≡ h.core)
  join_next s h id other v w at apart there =
      let l : Layout = k.layout in
      let c : State = h.core in
      let both : View = joined v w in
      let owner' : ℕ → ℕ = λ i. cond (h.owner i == other) id (h.owner i) in
      let w_at : get_elem? s.views other ≡ some w = ⊎_elim (λ (t : (other ≡ id) × (both ≡ w)). absurd (apart t.0)) (λ (t : (other ≢ id) × (get_elem? s.views other ≡ some w)). t.1) (at_set s.views id other both w there) in
      let f : Fits l c h.glue h.owner id v = h.each id v at in
      let g : Fits l c h.glue h.owner other w = h.each other w w_at in
      let to : (i : ℕ) → h.owner i ≡ other → owner' i ≡ id = λ i e j. cond (eq-eqb (h.owner i) other e j) id (h.owner i) in
      let same : (i : ℕ) → h.owner i ≢ other → owner' i ≡ h.owner i = λ i ne j. cond (ne_eqb (h.owner i) other ne j) id (h.owner i) in
      let n_is : length (set (set s.views id both) other spent_view) ≡ length s.views = length-set (set s.views id both) other spent_view ∙ length-set s.views id both in (
        record {
          core = c;
          left = h.left;
          small = h.small;
          places = h.places;
          glue = h.glue;
          owner = owner';
          words = h.words;
          fresh = h.fresh;
          stopper = h.stopper;
          turned = h.turned;
          start_glues = h.start_glues;
          owners = λ i it. dite (ℕ_discrete (h.owner i) other)
              (λ e. let q : owner' i ≡ id = to i e in let b = at_in s.views id v at in omega arith)
              (λ ne. let q : owner' i ≡ h.owner i = same i ne in let b = h.owners i it in omega arith);
          fault = h.fault;
          origin = h.origin;
          home = h.home;
          origins = λ j u is op. ⊎_elim
              (λ (x : (j ≡ other) × (spent_view ≡ u)). absurd (true≢false (sym op ∙ ap (λ (z : View). is_ready z.stage) (sym x.1))))
              (λ (x : (j ≢ other) × (get_elem? (set s.views id both) j ≡ some u)). ⊎_elim
              (λ (y : (j ≡ id) × (both ≡ u)). ap (λ (z : View). z.origin) (sym y.1) ∙ h.origins id v at (ap (λ (z : View). is_ready z.stage) y.1 ∙ op))
              (λ (y : (j ≢ id) × (get_elem? s.views j ≡ some u)). h.origins j u y.1 op)
              (at_set s.views id j both u x.1))
              (at_set (set s.views id both) other j spent_view u is);
          each = λ j u is. ⊎_elim
              (λ (x : (j ≡ other) × (spent_view ≡ u)). subst (λ (y : ℕ × View). Fits l c h.glue owner' y.0 y.1) (λ i. (sym x.0 i, x.1 i)) (record {
                rights = λ i it. sym (off (owner' i) other (not (c.granted i)) (away h.owner owner' to same i));
                owned = λ i it. sym (off (owner' i) other (c.granted i) (away h.owner owner' to same i));
                settled = refl;
                told = λ e. absurd (true≢false (sym e));
                stops = record { stands = λ t e. absurd (none_some t e); own = λ i p e. absurd (some-ne-none p (sym e)) };
                parts = λ i p e. absurd (some-ne-none p (sym e));
              }))
              (λ (x : (j ≢ other) × (get_elem? (set s.views id both) j ≡ some u)). ⊎_elim
              (λ (y : (j ≡ id) × (both ≡ u)). subst (λ (z : ℕ × View). Fits l c h.glue owner' z.0 z.1) (λ i. (sym y.0 i, y.1 i)) (record {
                rights = λ i it. let t = times_both i v.rights w.rights in let a = f.rights i it in let b = g.rights i it in let m = merged h.owner owner' to same i (not (c.granted i)) in omega arith;
                owned = λ i it. let e : times_in i (map ring_of (v.parts ++ w.parts)) ≡ times_in i (map ring_of v.parts ++ map ring_of w.parts) = ap (times_in i) (map_both v.parts w.parts) in
                    let t = times_both i (map ring_of v.parts) (map ring_of w.parts) in let a = f.owned i it in let b = g.owned i it in let m = merged h.owner owner' to same i (c.granted i) in omega arith;
                settled = f.settled;
                told = f.told;
                stops = both_stops c.stop v.stop w.stop v.parts w.parts f.stops g.stops;
                parts = λ i p e. ⊎_elim (λ (q : get_elem? v.parts i ≡ some p). f.parts i p q) (λ (q : (n : ℕ) × (get_elem? w.parts n ≡ some p)). g.parts q.0 p q.1) (at_both v.parts w.parts p i e);
              }))
              (λ (y : (j ≢ id) × (get_elem? s.views j ≡ some u)). let o : Fits l c h.glue h.owner j u = h.each j u y.1 in record {
                rights = λ i it. o.rights i it ∙ apart_from h.owner owner' to same i j (not (c.granted i)) x.0 y.0;
                owned = λ i it. o.owned i it ∙ apart_from h.owner owner' to same i j (c.granted i) x.0 y.0;
                settled = o.settled;
                told = o.told;
                stops = o.stops;
                parts = o.parts;
              })
              (at_set s.views id j both u x.1))
              (at_set (set s.views id both) other j spent_view u is);
          stored = λ j u i p is e. ⊎_elim
              (λ (x : (j ≡ other) × (spent_view ≡ u)). absurd (some-ne-none p (sym (ap (λ (z : View). get_elem? z.parts i) x.1 ∙ e))))
              (λ (x : (j ≢ other) × (get_elem? (set s.views id both) j ≡ some u)). ⊎_elim
              (λ (y : (j ≡ id) × (both ≡ u)). ⊎_elim (λ (q : get_elem? v.parts i ≡ some p). h.stored id v i p at q) (λ (q : (n : ℕ) × (get_elem? w.parts n ≡ some p)). h.stored other w q.0 p w_at q.1) (at_both v.parts w.parts p i (ap (λ (z : View). get_elem? z.parts i) y.1 ∙ e)))
              (λ (y : (j ≢ id) × (get_elem? s.views j ≡ some u)). h.stored j u i p y.1 e)
              (at_set s.views id j both u x.1))
              (at_set (set s.views id both) other j spent_view u is);
          teller = λ f. told_joined s.views id other v w both spent_view at w_at apart refl (h.teller f);
          faults = λ j u i p is e. ⊎_elim
              (λ (x : (j ≡ other) × (spent_view ≡ u)). absurd (some-ne-none p (sym (ap (λ (z : View). get_elem? z.parts i) x.1 ∙ e))))
              (λ (x : (j ≢ other) × (get_elem? (set s.views id both) j ≡ some u)). ⊎_elim
              (λ (y : (j ≡ id) × (both ≡ u)). ⊎_elim (λ (q : get_elem? v.parts i ≡ some p). h.faults id v i p at q) (λ (q : (n : ℕ) × (get_elem? w.parts n ≡ some p)). h.faults other w q.0 p w_at q.1) (at_both v.parts w.parts p i (ap (λ (z : View). get_elem? z.parts i) y.1 ∙ e)))
              (λ (y : (j ≢ id) × (get_elem? s.views j ≡ some u)). h.faults j u i p y.1 e)
              (at_set s.views id j both u x.1))
              (at_set (set s.views id both) other j spent_view u is);
        },
        refl,
      )
    where
      away : (owner owner' : ℕ → ℕ) → ((i : ℕ) → owner i ≡ other → owner' i ≡ id) → ((i : ℕ) → owner i ≢ other → owner' i ≡ owner i) → (i : ℕ) → owner' i ≢ other
      away owner owner' to same i = dite (ℕ_discrete (owner i) other) (λ e q. apart (sym q ∙ to i e)) (λ ne q. ne (sym (same i ne) ∙ q))

      merged : (owner owner' : ℕ → ℕ) → ((i : ℕ) → owner i ≡ other → owner' i ≡ id) → ((i : ℕ) → owner i ≢ other → owner' i ≡ owner i) → (i : ℕ) (b : Bool) → one_if ((owner i == id) && b) + one_if ((owner i == other) && b) ≡ one_if ((owner' i == id) && b)
      merged owner owner' to same i b = dite (ℕ_discrete (owner i) other)
          (λ e. let x = off (owner i) id b (λ q. apart (sym e ∙ q)) in let y = on (owner i) other b e in let z = on (owner' i) id b (to i e) in omega arith)
          (λ ne. let y = off (owner i) other b ne in let z : one_if ((owner' i == id) && b) ≡ one_if ((owner i == id) && b) = (λ j. one_if ((same i ne j == id) && b)) in omega arith)

      apart_from : (owner owner' : ℕ → ℕ) → ((i : ℕ) → owner i ≡ other → owner' i ≡ id) → ((i : ℕ) → owner i ≢ other → owner' i ≡ owner i) → (i j : ℕ) (b : Bool) → j ≢ other → j ≢ id → one_if ((owner i == j) && b) ≡ one_if ((owner' i == j) && b)
      apart_from owner owner' to same i j b far far' = dite (ℕ_discrete (owner i) other)
          (λ e. off (owner i) j b (λ q. far (sym q ∙ e)) ∙ sym (off (owner' i) j b (λ q. far' (sym q ∙ to i e))))
          (λ ne m. one_if ((sym (same i ne) m == j) && b))

  pub joins : (id : ℕ) (v : View) (other : ℕ) (w : View) → is_ready v.stage ≡ true → is_ready w.stage ≡ true → Joins (Shown stands k) id v other w (joined v w) spent_view
  joins id v other w ready ready' s shown at apart there = inr (join_next s (is_open stands k s id v shown at ready) id other v w at apart there).0
