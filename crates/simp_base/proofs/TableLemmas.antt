-- What the tables over the clauses keep.
use Rattle.std.proofs.Common.{◌≡◌, ◌≢◌, ◌⊎◌, inl, inr, ℕ, ◌+◌, ◌*◌, ◌-◌, ◌<◌, ◌≤◌, Bool, true, false, not, cond, List, [], ◌∷◌, ◌++◌, length, set, get_or, refl, sym, ap, subst, ◌∙◌, arith, ⊎_elim, Contains, Option, Some, None, length-append, length-set}
use mathlib.Core.Logic.{dite}
use native.Mathlib.Decide.{ℕ_discrete}
use Rattle.std.specs.List.{slice_get, All}
use Rattle.std.proofs.lemmas.Bool.{false≢true, or_left}
use Rattle.std.proofs.lemmas.Option.{slice_get_within, get_or_from_slice_get, slice_get_read}
use Rattle.std.proofs.lemmas.List.{get_or_default, get_or-set_same, get_or-set_other, get_or_append_left}
use Rattle.sat_words.specs.Literal.{Literal, IsOn, opposite, code_of}
use Rattle.sat_words.specs.Clause.{has, two_or_more}
use Rattle.sat_words.proofs.Members.{same-refl, same-true, opposite-opposite}
use Rattle.rup_model.proofs.Lists.{has_In}
use Rattle.simp_base.specs.WorkState.{is_only}
use Rattle.simp_base.specs.Removed.{Removed}
use Rattle.simp_base.specs.Tables.{IsTable, KeptNotes, IsUnit, IsUnitNumber, IsClash, IsClashAfter, alone_after}
use Rattle.simp_base.proofs.Lists.{All_In, Contains_left, Contains_last, Contains_apart}
use Rattle.simp_base.proofs.Removal.{stood, stands, removed_back}

-- a literal on the variables has a code in the tables
pub code_on : (vars codes : ℕ) (l : Literal) → IsOn vars l → codes ≡ 2 * (vars + 1) → code_of l < codes
code_on vars codes l on e = by l.neg on.high
  where
    by : (b : Bool) → l.var ≤ vars → 2 * l.var + cond b 1 0 < codes
    by true h = omega (arith, e)
    by false h = omega (arith, e)

pub codes_on : (vars codes : ℕ) (lits : List Literal) → All (IsOn vars) lits → codes ≡ 2 * (vars + 1) → All (λ l. code_of l < codes) lits
codes_on vars codes lits all e k d lt = code_on vars codes (get_or lits k d) (all k d lt) e

pub each_codes_on : (vars codes : ℕ) (G : List (List Literal)) → All (All (IsOn vars)) G → codes ≡ 2 * (vars + 1) → All (All (λ l. code_of l < codes)) G
each_codes_on vars codes G all e k d lt = codes_on vars codes (get_or G k d) (all k d lt) e

-- the only literal of a clause
pub only_is : (l : Literal) (c : List Literal) → is_only l c ≡ true → c ≡ l ∷ []
only_is l [] e = absurd (false≢true e)
only_is l (k ∷ []) e = ap (λ x. x ∷ []) (same-true k l e)
only_is l (k ∷ j ∷ c) e = absurd (false≢true e)

pub opposite_below : (n k : ℕ) → n ≡ 2 * k → (l : Literal) → code_of l < n → code_of (opposite l) < n
opposite_below n k e l lt = by l.neg lt
  where
    by : (b : Bool) → 2 * l.var + cond b 1 0 < n → 2 * l.var + cond (not b) 1 0 < n
    by true h = omega (arith, e)
    by false h = omega (arith, e)

turned : {A B : Type 0} → A ⊎ B → B ⊎ A
turned (inl a) = inr a
turned (inr b) = inl b

module _ (cells : List (ℕ × List Literal)) (places : List ℕ) (singles : List (Option ℕ)) (clash : Option Literal) (notes : List (List ℕ)) (t : IsTable cells places singles clash notes) where
  -- more was noted
  pub table_noted : (more : List (List ℕ)) → KeptNotes notes more → IsTable cells places singles clash more
  table_noted more k = record {
    placed = t.placed;
    alone = t.alone;
    agree = t.agree;
    noted = λ n c l i h. k.kept (code_of l) n (t.noted n c l i h);
    wide = k.wide ∙ t.wide;
    inside = t.inside;
    even = t.even;
  }

  -- the place that the table has of a number is that of its clause
  place_is : (number : ℕ) (c : List Literal) (h : Contains cells (number, c)) → slice_get places number ≡ Some h.0
  place_is number c h = subst (λ (n : ℕ). slice_get places n ≡ Some h.0) (ap (λ (x : ℕ × List Literal). x.0) h.2) (t.placed h.0 (number, c) h.1)

  pub found : (number place : ℕ) (c : List Literal) (h : Contains cells (number, c)) → place ≡ get_or places number place → place ≡ h.0
  found number place c h is = is ∙ get_or_from_slice_get places number h.0 place (place_is number c h)

  pub found_within : (number : ℕ) (c : List Literal) → Contains cells (number, c) → number < length places
  found_within number c h = slice_get_within places number h.0 (place_is number c h)

  pub found_number : (number place : ℕ) (c : List Literal) → Contains cells (number, c) → place ≡ get_or places number place → (d : ℕ × List Literal) → (get_or cells place d).0 ≡ number
  found_number number place c h is d =
      ap (λ (x : ℕ × List Literal). x.0) (ap (λ k. get_or cells k d) (found number place c h is) ∙ get_or_default cells h.0 d (number, c) h.1 ∙ h.2)

  pub found_clause : (number place : ℕ) (c : List Literal) → Contains cells (number, c) → place ≡ get_or places number place → (d : ℕ × List Literal) → (get_or cells place d).1 ≡ c
  found_clause number place c h is d =
      ap (λ (x : ℕ × List Literal). x.1) (ap (λ k. get_or cells k d) (found number place c h is) ∙ get_or_default cells h.0 d (number, c) h.1 ∙ h.2)

  pub found_place : (number place : ℕ) (c : List Literal) → Contains cells (number, c) → place ≡ get_or places number place → place < length cells
  found_place number place c h is = let e = found number place c h is in let lt = h.1 in omega arith

  -- what stands at a place
  pub at_place : (number place : ℕ) (x : ℕ × List Literal) → place < length cells → x ≡ get_or cells place x → x.0 ≡ number → Contains cells (number, x.1)
  at_place number place x lt is e = (place, lt, get_or_default cells place (number, x.1) x lt ∙ sym is ∙ (λ i. (e i, x.1)))

  -- the negation of a literal has a code if it has one
  pub code_opposite : (l : Literal) → code_of l < length singles → code_of (opposite l) < length singles
  code_opposite l lt = opposite_below (length singles) t.even.0 t.even.1 l lt

  -- by its number's place, the number of a unit
  pub unit_noted : (l : Literal) (o : Option ℕ) → code_of l < length singles → get_or singles (code_of l) None ≡ o → IsUnitNumber cells l o
  unit_noted l o lt e = subst (IsUnitNumber cells l) e (t.alone l lt)

  -- no unit stands past the end
  pub unit_beyond : (l : Literal) → length singles ≤ code_of l → (n : ℕ) → Contains cells (n, l ∷ []) → ⊥
  unit_beyond l ge n h = let lt = t.inside n (l ∷ []) l h (or_left _ _ (same-refl l)) in omega arith

  -- one clause more
  module _ (number : ℕ) (clause : List Literal) (more : List (Option ℕ)) (after_clash : Option Literal) (wide_more : length more ≡ length singles)
      (singles_more : (l : Literal) → code_of l < length singles → get_or more (code_of l) None ≡ alone_after (get_or singles (code_of l) None) (is_only l clause) number)
      (clash_more : IsClashAfter more clause clash after_clash)
      (codes : All (λ l. code_of l < length singles) clause)
      (ready : (l : Literal) → has clause l ≡ true → Contains (get_or notes (code_of l) []) number) where
    alone_more : (l : Literal) → code_of l < length singles → IsUnitNumber (cells ++ (number, clause) ∷ []) l (get_or more (code_of l) None)
    alone_more l lt = subst (IsUnitNumber (cells ++ (number, clause) ∷ []) l) (sym (singles_more l lt))
        (by (get_or singles (code_of l) None) (t.alone l lt) (is_only l clause) refl)
      where
        by : (o : Option ℕ) → IsUnitNumber cells l o → (b : Bool) → is_only l clause ≡ b → IsUnitNumber (cells ++ (number, clause) ∷ []) l (alone_after o b number)
        by (Some n) h b e = Contains_left cells ((number, clause) ∷ []) (n, l ∷ []) h
        by None h true e = subst (λ c. Contains (cells ++ (number, clause) ∷ []) (number, c)) (only_is l clause e) (Contains_last cells (number, clause))
        by None h false e = λ n k. ⊎_elim
            (λ (old : Contains cells (n, l ∷ [])). h n old)
            (λ (new : (number, clause) ≡ (n, l ∷ [])). false≢true (sym e ∙ ap (λ (x : ℕ × List Literal). is_only l x.1) new ∙ same-refl l))
            (Contains_apart cells (number, clause) (n, l ∷ []) k)

    inside_more : (n : ℕ) (c : List Literal) (l : Literal) → Contains (cells ++ (number, clause) ∷ []) (n, c) → has c l ≡ true → code_of l < length singles
    inside_more n c l i h = ⊎_elim
        (λ (old : Contains cells (n, c)). t.inside n c l old h)
        (λ (new : (number, clause) ≡ (n, c)). All_In (λ k. code_of k < length singles) clause l codes (has_In clause l (ap (λ (x : ℕ × List Literal). has x.1 l) new ∙ h)))
        (Contains_apart cells (number, clause) (n, c) i)

    unit_code : (l : Literal) → IsUnit (cells ++ (number, clause) ∷ []) l → code_of l < length singles
    unit_code l u = inside_more u.0 (l ∷ []) l u.1 (or_left _ _ (same-refl l))

    unit_more : (l : Literal) → IsUnit cells l → IsUnit (cells ++ (number, clause) ∷ []) l
    unit_more l u = (u.0, Contains_left cells ((number, clause) ∷ []) (u.0, l ∷ []) u.1)

    unit_apart : (l : Literal) → IsUnit (cells ++ (number, clause) ∷ []) l → IsUnit cells l ⊎ (is_only l clause ≡ true)
    unit_apart l u = ⊎_elim
        (λ (old : Contains cells (u.0, l ∷ [])). inl (u.0, old))
        (λ (new : (number, clause) ≡ (u.0, l ∷ [])). inr (ap (λ (x : ℕ × List Literal). is_only l x.1) new ∙ same-refl l))
        (Contains_apart cells (number, clause) (u.0, l ∷ []) u.1)

    -- a literal with nothing noted is no unit
    no_unit : (l : Literal) → IsUnit (cells ++ (number, clause) ∷ []) l → get_or more (code_of l) None ≡ None → ⊥
    no_unit l u e = subst (IsUnitNumber (cells ++ (number, clause) ∷ []) l) e (alone_more l (unit_code l u)) u.0 u.1

    noted_unit : (l : Literal) → code_of l < length singles → get_or more (code_of l) None ≢ None → IsUnit (cells ++ (number, clause) ∷ []) l
    noted_unit l lt ne = by (get_or more (code_of l) None) ne (alone_more l lt)
      where
        by : (o : Option ℕ) → o ≢ None → IsUnitNumber (cells ++ (number, clause) ∷ []) l o → IsUnit (cells ++ (number, clause) ∷ []) l
        by (Some n) m h = (n, h)
        by None m h = absurd (m refl)

    only_unit : (l : Literal) → is_only l clause ≡ true → IsUnit (cells ++ (number, clause) ∷ []) l
    only_unit l e = (number, subst (λ c. Contains (cells ++ (number, clause) ∷ []) (number, c)) (only_is l clause e) (Contains_last cells (number, clause)))

    clash_here : (before after : Option Literal) → IsClash cells before → IsClashAfter more clause before after → IsClash (cells ++ (number, clause) ∷ []) after
    clash_here (Some u) after h e = subst (IsClash (cells ++ (number, clause) ∷ [])) (sym e) (unit_more u h.0, unit_more (opposite u) h.1)
    clash_here None (Some u) h e =
        let is = only_unit u e.0 in
        (is, noted_unit (opposite u) (code_opposite u (unit_code u is)) e.1)
    clash_here None None h e = λ l u v. ⊎_elim
        (λ (new : is_only l clause ≡ true). no_unit (opposite l) v (e l new))
        (λ (old : IsUnit cells l). ⊎_elim
        (λ (new : is_only (opposite l) clause ≡ true). no_unit (opposite (opposite l)) (subst (IsUnit (cells ++ (number, clause) ∷ [])) (sym (opposite-opposite l)) u) (e (opposite l) new))
        (λ (too : IsUnit cells (opposite l)). h l old too)
        (turned (unit_apart (opposite l) v)))
        (turned (unit_apart l u))

    with_places : (after : List ℕ) → ((k : ℕ) (d : ℕ × List Literal) → k < length (cells ++ (number, clause) ∷ []) → slice_get after (get_or (cells ++ (number, clause) ∷ []) k d).0 ≡ Some k)
        → IsTable (cells ++ (number, clause) ∷ []) after more after_clash notes
    with_places after placed = record {
      placed = placed;
      alone = λ l lt. alone_more l (omega (arith, wide_more, lt));
      agree = clash_here clash after_clash t.agree clash_more;
      noted = λ n c l i h. ⊎_elim
          (λ (old : Contains cells (n, c)). t.noted n c l old h)
          (λ (new : (number, clause) ≡ (n, c)). subst (λ (m : ℕ). Contains (get_or notes (code_of l) []) m) (ap (λ (x : ℕ × List Literal). x.0) new) (ready l (ap (λ (x : ℕ × List Literal). has x.1 l) new ∙ h)))
          (Contains_apart cells (number, clause) (n, c) i);
      wide = t.wide ∙ sym wide_more;
      inside = λ n c l i h. subst (λ (m : ℕ). code_of l < m) (sym wide_more) (inside_more n c l i h);
      even = (t.even.0, wide_more ∙ t.even.1);
    }

    end : {X : Type 0} (xs : List X) (x d : X) → get_or (xs ++ x ∷ []) (length xs) d ≡ x
    end [] x d = refl
    end (y ∷ xs) x d = end xs x d

    -- its number is that of the last
    module _ (k : ℕ) (d : ℕ × List Literal) (e : k ≡ length cells) where
      number_at_end : (get_or (cells ++ (number, clause) ∷ []) k d).0 ≡ number
      number_at_end = ap (λ (x : ℕ × List Literal). x.0) (ap (λ j. get_or (cells ++ (number, clause) ∷ []) j d) e ∙ end cells (number, clause) d)

    -- it comes under the next number
    module _ (next : number ≡ length places) where
      placed_more : (k : ℕ) (d : ℕ × List Literal) → k < length (cells ++ (number, clause) ∷ []) → slice_get (places ++ length cells ∷ []) (get_or (cells ++ (number, clause) ∷ []) k d).0 ≡ Some k
      placed_more k d lt = dite (ℕ_discrete k (length cells))
          (λ (e : k ≡ length cells). (let n = length-append places (length cells ∷ []) in
          subst (λ (m : ℕ). slice_get (places ++ length cells ∷ []) m ≡ Some k) (sym (number_at_end k d e ∙ next))
          (slice_get_read (places ++ length cells ∷ []) (length (places ++ length cells ∷ [])) (length places) k refl (omega arith) (sym (end places (length cells) k ∙ sym e)))))
          (λ (ne : k ≢ length cells). (let m = length-append cells ((number, clause) ∷ []) in let lo : k < length cells = omega arith in
          let was = t.placed k d lo in let within = slice_get_within places (get_or cells k d).0 k was in let n = length-append places (length cells ∷ []) in
          subst (λ (x : ℕ × List Literal). slice_get (places ++ length cells ∷ []) x.0 ≡ Some k) (sym (get_or_append_left cells ((number, clause) ∷ []) d k lo))
          (slice_get_read (places ++ length cells ∷ []) (length (places ++ length cells ∷ [])) (get_or cells k d).0 k refl (omega arith)
          (sym (get_or_append_left places (length cells ∷ []) k (get_or cells k d).0 within ∙ get_or_from_slice_get places (get_or cells k d).0 k k was)))))

      pub table_more : IsTable (cells ++ (number, clause) ∷ []) (places ++ length cells ∷ []) more after_clash notes
      table_more = with_places (places ++ length cells ∷ []) placed_more

    -- it comes under a number that no other has
    module _ (within : number < length places) (free : (c : List Literal) → Contains cells (number, c) → ⊥) where
      placed_put : (k : ℕ) (d : ℕ × List Literal) → k < length (cells ++ (number, clause) ∷ []) → slice_get (set places number (length cells)) (get_or (cells ++ (number, clause) ∷ []) k d).0 ≡ Some k
      placed_put k d lt = dite (ℕ_discrete k (length cells))
          (λ (e : k ≡ length cells). (let n = length-set places number (length cells) in
          subst (λ (m : ℕ). slice_get (set places number (length cells)) m ≡ Some k) (sym (number_at_end k d e))
          (slice_get_read (set places number (length cells)) (length (set places number (length cells))) number k refl (omega arith) (e ∙ sym (get_or-set_same places number (length cells) k within)))))
          (λ (ne : k ≢ length cells). (let m = length-append cells ((number, clause) ∷ []) in let lo : k < length cells = omega arith in
          let was = t.placed k d lo in let low = slice_get_within places (get_or cells k d).0 k was in let n = length-set places number (length cells) in
          let apart : (get_or cells k d).0 ≢ number = λ q. free (get_or cells k d).1 (k, lo, get_or_default cells k (number, (get_or cells k d).1) d lo ∙ (λ i. (q i, (get_or cells k d).1))) in
          subst (λ (x : ℕ × List Literal). slice_get (set places number (length cells)) x.0 ≡ Some k) (sym (get_or_append_left cells ((number, clause) ∷ []) d k lo))
          (slice_get_read (set places number (length cells)) (length (set places number (length cells))) (get_or cells k d).0 k refl (omega arith)
          (sym (get_or-set_other places number (get_or cells k d).0 (length cells) k apart ∙ get_or_from_slice_get places (get_or cells k d).0 k k was)))))

      pub table_put : IsTable (cells ++ (number, clause) ∷ []) (set places number (length cells)) more after_clash notes
      table_put = with_places (set places number (length cells)) placed_put

  -- one clause less
  module _ (left : List (ℕ × List Literal)) (place : ℕ) (r : Removed cells left place) (long : (d : ℕ × List Literal) → two_or_more (get_or cells place d).1 ≡ true) where
    single_left : (n : ℕ) (l : Literal) → Contains cells (n, l ∷ []) → Contains left (n, l ∷ [])
    single_left n l k =
        let s = stands cells left place r k.0 k.1 (λ e. short (ap (λ (x : ℕ × List Literal). two_or_more x.1) (sym k.2 ∙ ap (λ j. get_or cells j (n, l ∷ [])) e) ∙ long (n, l ∷ []))) in
        (s.0, s.1, s.2 (n, l ∷ []) ∙ k.2)
      where
        short : two_or_more (l ∷ []) ≡ true → ⊥
        short e = false≢true e

    alone_less : (l : Literal) (o : Option ℕ) → IsUnitNumber cells l o → IsUnitNumber left l o
    alone_less l (Some n) h = single_left n l h
    alone_less l None h = λ n k. h n (removed_back cells left place r (n, l ∷ []) k)

    clash_less : (o : Option Literal) → IsClash cells o → IsClash left o
    clash_less (Some l) h = ((h.0.0, single_left h.0.0 l h.0.1), (h.1.0, single_left h.1.0 (opposite l) h.1.1))
    clash_less None h = λ l u v. h l (u.0, removed_back cells left place r (u.0, l ∷ []) u.1) (v.0, removed_back cells left place r (v.0, opposite l ∷ []) v.1)

    less : (after : List ℕ) → ((k : ℕ) (d : ℕ × List Literal) → k < length left → slice_get after (get_or left k d).0 ≡ Some k) → IsTable left after singles clash notes
    less after placed = record {
      placed = placed;
      alone = λ l lt. alone_less l (get_or singles (code_of l) None) (t.alone l lt);
      agree = clash_less clash t.agree;
      noted = λ n c l i h. t.noted n c l (removed_back cells left place r (n, c) i) h;
      wide = t.wide;
      inside = λ n c l i h. t.inside n c l (removed_back cells left place r (n, c) i) h;
      even = t.even;
    }

    -- the last clause was removed
    pub table_less_last : length left ≤ place → IsTable left places singles clash notes
    table_less_last end = less places (λ k d lt. (let s = stood cells left place r k lt in let n = r.len in let w = r.within in
        let same : s.0 ≡ k = ⊎_elim (λ (e : k ≡ place). absurd (omega arith)) (λ (e : s.0 ≡ k). e) s.4 in
        subst (λ (x : ℕ × List Literal). slice_get places x.0 ≡ Some k) (sym (s.3 d)) (t.placed s.0 d s.1 ∙ ap Some same)))

    -- the last clause took its place
    pub table_less : (moved : ℕ) → place < length left → ((d : ℕ × List Literal) → moved ≡ (get_or left place d).0) → IsTable left (set places moved place) singles clash notes
    table_less moved lt is = less (set places moved place) each
      where
        last : ℕ
        last = length cells - 1

        moved_from : (d : ℕ × List Literal) → slice_get places moved ≡ Some (length cells - 1)
        moved_from d = let s = stood cells left place r place lt in
            subst (λ (n : ℕ). slice_get places n ≡ Some (length cells - 1)) (sym (is d ∙ ap (λ (x : ℕ × List Literal). x.0) (s.3 d))) (t.placed s.0 d s.1 ∙ ap Some (s.5 refl))

        each : (k : ℕ) (d : ℕ × List Literal) → k < length left → slice_get (set places moved place) (get_or left k d).0 ≡ Some k
        each k d kl = dite (ℕ_discrete k place)
            (λ (e : k ≡ place). (let w = slice_get_within places moved (length cells - 1) (moved_from d) in let n = length-set places moved place in
            subst (λ (m : ℕ). slice_get (set places moved place) m ≡ Some k) (is d ∙ ap (λ j. (get_or left j d).0) (sym e))
            (slice_get_read (set places moved place) (length (set places moved place)) moved k refl (omega arith) (e ∙ sym (get_or-set_same places moved place k w)))))
            (λ (ne : k ≢ place). (let s = stood cells left place r k kl in let n = r.len in
            let same : s.0 ≡ k = ⊎_elim (λ (e : k ≡ place). absurd (ne e)) (λ (e : s.0 ≡ k). e) s.4 in
            let was : slice_get places (get_or left k d).0 ≡ Some k = subst (λ (x : ℕ × List Literal). slice_get places x.0 ≡ Some k) (sym (s.3 d)) (t.placed s.0 d s.1 ∙ ap Some same) in
            let apart : (get_or left k d).0 ≢ moved = λ q. (let e : Some k ≡ Some (length cells - 1) = sym was ∙ ap (slice_get places) q ∙ moved_from d in differ k (length cells - 1) (omega arith) e) in
            let w = slice_get_within places (get_or left k d).0 k was in let z = length-set places moved place in
            slice_get_read (set places moved place) (length (set places moved place)) (get_or left k d).0 k refl (omega arith)
            (sym (get_or-set_other places moved (get_or left k d).0 place k apart ∙ get_or_from_slice_get places (get_or left k d).0 k k was))))
          where
            differ : (a b : ℕ) → a < b → Some a ≡ Some b → ⊥
            differ a b lt e = let f : a ≡ b = cc in omega arith
