-- A walk through a clause that looks for the literals of another one.
use Rattle.std.proofs.Common.{◌≡◌, ◌⊎◌, ℕ, zero, suc, ◌+◌, ◌*◌, ◌<◌, ◌≤◌, Bool, true, false, not, cond, List, [], ◌∷◌, length, take, drop, get_or, Option, None, Some, refl, sym, ap, subst, ◌∙◌, inl, inr, ⊎_elim, arith}
use Rattle.std.specs.declared.cmp.Ordering.TheVariants.{Less}
use Rattle.std.proofs.lemmas.Bool.{true≢false}
use Rattle.std.proofs.lemmas.Map.Views.{All-after_first}
use Rattle.std.proofs.lemmas.Map.Keys.{sorted_tail}
use Rattle.sat_words.specs.Literal.{Literal, opposite, same, code_of, lit_cmp}
use Rattle.sat_words.specs.Clause.{has, has_opposites, InOrder}
use Rattle.sat_words.proofs.Members.{same-true, same-refl}
use Rattle.rup_model.proofs.Lists.{In, In_has, has_In}
use Rattle.simp_base.proofs.Lists.{All_In}
use Rattle.simp_base.proofs.Long.{is_below}
use Rattle.simp_subsume.specs.Related.{IsUnrelated}
use Rattle.simp_subsume.specs.Walked.{PassesOver, Finds, FindsNegated, FindsAnother, IsStep, found_as}
use Rattle.simp_subsume.specs.Compared.{IsRelation}
use Rattle.simp_subsume.specs.declared.relation.Comparison.{Comparison}
use Rattle.simp_subsume.proofs.Fronts.{In_drop, In_take, take_or_drop, take_all, front, one_more, still, here}
use Rattle.simp_subsume.proofs.Relating.{refuted, opposed, in_subsumes, strengthens_from, unrelated_by_one, unrelated_by_two}

-- Literals of one variable

pub other_sign : (k l : Literal) → k.var ≡ l.var → same k l ≡ false → k ≡ opposite l
other_sign k l v ne = by k.neg l.neg refl refl
  where
    by : (a b : Bool) → k.neg ≡ a → l.neg ≡ b → k ≡ opposite l
    by true true e f = absurd (true≢false (sym (same-refl k) ∙ ap (same k) (λ i. record { var = v i; neg = (e ∙ sym f) i }) ∙ ne))
    by false false e f = absurd (true≢false (sym (same-refl k) ∙ ap (same k) (λ i. record { var = v i; neg = (e ∙ sym f) i }) ∙ ne))
    by true false e f = λ i. record { var = v i; neg = (e ∙ sym (ap not f)) i }
    by false true e f = λ i. record { var = v i; neg = (e ∙ sym (ap not f)) i }

-- Lists in order

ordered_from : (c : List Literal) (i : ℕ) → InOrder c → InOrder (drop i c)
ordered_from c zero o = o
ordered_from [] (suc i) o = o
ordered_from (x ∷ c) (suc i) o = ordered_from c i (sorted_tail lit_cmp x c o)

after_first : (x : Literal) (c : List Literal) (m : Literal) → InOrder (x ∷ c) → In m c → code_of x < code_of m
after_first x c m o i = is_below (code_of x) (code_of m) (All_In (λ q. lit_cmp x q ≡ Less) c m (All-after_first lit_cmp x c o) i)

vars_from_codes : (x m : Literal) → code_of x < code_of m → x.var ≤ m.var
vars_from_codes x m lt = by x.neg m.neg lt
  where
    by : (a b : Bool) → 2 * x.var + cond a 1 0 < 2 * m.var + cond b 1 0 → x.var ≤ m.var
    by true true h = omega arith
    by true false h = omega arith
    by false true h = omega arith
    by false false h = omega arith

-- How far the walk has come: the literals found are among those seen except for the one that was flipped, whose negation is,
-- and what was seen is of lower variables than what is looked for
pub record Walked (c seen : List Literal) (w : Comparison) : Type 0 where
  pub within : w.found ≤ length c
  pub found : (k : Literal) → In k (take w.found c) → In k seen ⊎ (w.flipped ≡ Some k)
  pub flipped : (k : Literal) → w.flipped ≡ Some k → In k c × In (opposite k) seen
  pub below : (x m : Literal) → In x seen → In m (drop w.found c) → x.var < m.var

pub walked_none : (c d : List Literal) → Walked c (take 0 d) (record { found = 0; flipped = None })
walked_none c d = record {
  within = omega arith;
  found = λ k i. absurd i;
  flipped = λ k e. absurd (let wrong : ⊥ = cc in wrong);
  below = λ x m i j. absurd i;
}

module _ (c d : List Literal) (ordered_c : InOrder c) (ordered_d : InOrder d) (proper : has_opposites c ≡ false) (w : Comparison) where
  -- All were found

  pub all_relation : (j : ℕ) → Walked c (take j d) w → length c ≤ w.found → IsRelation c d (found_as w.flipped)
  all_relation j t le = by w.flipped refl
    where
      each : (k : Literal) → has c k ≡ true → In k (take j d) ⊎ (w.flipped ≡ Some k)
      each k h = t.found k (subst (In k) (sym (take_all c w.found le)) (has_In c k h))

      by : (f : Option Literal) → w.flipped ≡ f → IsRelation c d (found_as f)
      by None e = in_subsumes c d (λ k h. ⊎_elim
          (λ (i : In k (take j d)). In_has d k (In_take d j k i))
          (λ (q : w.flipped ≡ Some k). absurd (let wrong : ⊥ = cc in wrong))
          (each k h))
      by (Some l) e =
          let f = t.flipped l e in
          strengthens_from c d l (In_has c l f.0) (In_has d (opposite l) (In_take d j (opposite l) f.1)) (λ k h. ⊎_elim
          (λ (i : In k (take j d)). inr (In_has d k (In_take d j k i)))
          (λ (q : w.flipped ≡ Some k). (let same_one : l ≡ k = cc in inl (ap (same l) (sym same_one) ∙ same-refl l)))
          (each k h))

  -- One was not

  module _ (lt : w.found < length c) (wanted : Literal) (is : wanted ≡ get_or c w.found wanted) where
    behind : drop w.found c ≡ wanted ∷ drop (w.found + 1) c
    behind = front c w.found wanted lt ∙ ap (λ (x : Literal). x ∷ drop (w.found + 1) c) (sym is)

    first_left : In wanted (drop w.found c)
    first_left = subst (In wanted) (sym behind) (inl refl)

    wanted_in : In wanted c
    wanted_in = In_drop c w.found wanted first_left

    -- no literal of the other clause has its variable
    nowhere : ((x : Literal) → In x d → x.var ≡ wanted.var → ⊥) → IsUnrelated c d
    nowhere away =
        unrelated_by_one c d wanted (In_has c wanted wanted_in)
        (refuted (has d wanted) (λ h. away wanted (has_In d wanted h) refl))
        (refuted (has d (opposite wanted)) (λ h. away (opposite wanted) (has_In d (opposite wanted) h) refl))

    pub ended_apart : (j : ℕ) → length d ≤ j → Walked c (take j d) w → IsUnrelated c d
    ended_apart j le t = nowhere (λ x i e. (let b = t.below x wanted (subst (In x) (sym (take_all d j le)) i) first_left in omega arith))

    module _ (j : ℕ) (jl : j < length d) (lit : Literal) (at : lit ≡ get_or d j lit) (t : Walked c (take j d) w) where
      ahead : drop j d ≡ lit ∷ drop (j + 1) d
      ahead = front d j lit jl ∙ ap (λ (x : Literal). x ∷ drop (j + 1) d) (sym at)

      lit_in : In lit d
      lit_in = In_drop d j lit (subst (In lit) (sym ahead) (inl refl))

      -- what comes is of no lower variable
      later : (x : Literal) → In x (drop j d) → lit.var ≤ x.var
      later x i = by (subst (In x) ahead i)
        where
          by : In x (lit ∷ drop (j + 1) d) → lit.var ≤ x.var
          by (inl e) = let f : lit.var ≡ x.var = ap (λ (y : Literal). y.var) e in omega arith
          by (inr h) = vars_from_codes lit x (after_first lit (drop (j + 1) d) x (subst InOrder ahead (ordered_from d j ordered_d)) h)

      pub beyond_apart : wanted.var < lit.var → IsUnrelated c d
      beyond_apart over = nowhere (λ x i e. ⊎_elim
          (λ (k : In x (take j d)). (let b = t.below x wanted k first_left in absurd (omega arith)))
          (λ (k : In x (drop j d)). (let b = later x k in absurd (omega arith)))
          (take_or_drop d j x i))

      pub another_apart : FindsAnother w wanted lit → has_opposites d ≡ false → IsUnrelated c d
      another_apart h none =
          let f = t.flipped h.one h.flipped in
          let lower : h.one.var < wanted.var = t.below (opposite h.one) wanted f.1 first_left in
          unrelated_by_two c d h.one wanted (In_has c h.one f.0) (In_has c wanted wanted_in)
          (refuted (same h.one wanted) (λ e. (let q : h.one.var ≡ wanted.var = ap (λ (y : Literal). y.var) (same-true h.one wanted e) in omega arith)))
          (refuted (has d h.one) (λ k. opposed d h.one k (In_has d (opposite h.one) (In_take d j (opposite h.one) f.1)) none))
          (refuted (has d wanted) (λ k. opposed d wanted k (In_has d (opposite wanted) (subst (λ x. In x d) h.is lit_in)) none))

      pub stopped_apart : IsStep w wanted lit None → has_opposites d ≡ false → IsUnrelated c d
      stopped_apart (inl over) none = beyond_apart over
      stopped_apart (inr h) none = another_apart h none

      -- The walk goes on

      -- what is looked for later is of a higher variable
      strictly_later : (m : Literal) → In m (drop (w.found + 1) c) → wanted.var < m.var
      strictly_later m i =
          let o = subst InOrder behind (ordered_from c w.found ordered_c) in
          let codes = after_first wanted (drop (w.found + 1) c) m o i in
          let le = vars_from_codes wanted m codes in
          ⊎_elim
          (λ (h : wanted.var < m.var). h)
          (λ (e : wanted.var ≡ m.var). absurd (opposed c wanted (In_has c wanted wanted_in)
          (In_has c (opposite wanted) (subst (λ x. In x c) (other_sign m wanted (sym e) (refuted (same m wanted) (λ q. (let z : code_of m ≡ code_of wanted = ap code_of (same-true m wanted q) in omega arith)))) (In_drop c (w.found + 1) m i))) proper))
          (split wanted.var m.var le)
        where
          split : (a b : ℕ) → a ≤ b → (a < b) ⊎ (a ≡ b)
          split zero zero le = inr refl
          split zero (suc b) le = inl (omega arith)
          split (suc a) zero le = absurd (omega arith)
          split (suc a) (suc b) le = ⊎_elim (λ (h : a < b). inl (omega arith)) (λ (e : a ≡ b). inr (ap suc e)) (split a b (omega arith))

      no_earlier : (m : Literal) → In m (drop w.found c) → wanted.var ≤ m.var
      no_earlier m i = by (subst (In m) behind i)
        where
          by : In m (wanted ∷ drop (w.found + 1) c) → wanted.var ≤ m.var
          by (inl e) = let f : wanted.var ≡ m.var = ap (λ (y : Literal). y.var) e in omega arith
          by (inr h) = let s = strictly_later m h in omega arith

      left_more : (m : Literal) → In m (drop (w.found + 1) c) → In m (drop w.found c)
      left_more m i = subst (In m) (sym behind) (inr i)

      seen_now : In lit (take (j + 1) d)
      seen_now = subst (λ x. In x (take (j + 1) d)) (sym at) (here d j lit jl)

      -- the variable of what is seen and of what is looked for later, once the one that was looked for is found
      found_below : lit.var ≡ wanted.var → (x m : Literal) → In x (take (j + 1) d) → In m (drop (w.found + 1) c) → x.var < m.var
      found_below same_var x m i k = ⊎_elim
          (λ (h : In x (take j d)). t.below x m h (left_more m k))
          (λ (e : get_or d j lit ≡ x). (let q : lit.var ≡ x.var = ap (λ (y : Literal). y.var) (at ∙ e) in let s = strictly_later m k in omega arith))
          (one_more d j lit jl x i)

      pub walked_over : (new : Comparison) → PassesOver w wanted lit new → Walked c (take (j + 1) d) new
      walked_over new h = subst (Walked c (take (j + 1) d)) (sym h.walk) (record {
        within = t.within;
        found = λ k i. ⊎_elim (λ (s : In k (take j d)). inl (still d j k s)) (λ (q : w.flipped ≡ Some k). inr q) (t.found k i);
        flipped = λ k e. (let f = t.flipped k e in (f.0, still d j (opposite k) f.1));
        below = λ x m i k. ⊎_elim
            (λ (s : In x (take j d)). t.below x m s k)
            (λ (e : get_or d j lit ≡ x). (let q : lit.var ≡ x.var = ap (λ (y : Literal). y.var) (at ∙ e) in let s = no_earlier m k in let b = h.before in omega arith))
            (one_more d j lit jl x i);
      })

      pub walked_found : (new : Comparison) → Finds w wanted lit new → Walked c (take (j + 1) d) new
      walked_found new h = subst (Walked c (take (j + 1) d)) (sym h.walk) (record {
        within = omega arith;
        found = λ k i. ⊎_elim
            (λ (s : In k (take w.found c)). ⊎_elim (λ (u : In k (take j d)). inl (still d j k u)) (λ (q : w.flipped ≡ Some k). inr q) (t.found k s))
            (λ (e : get_or c w.found wanted ≡ k). inl (subst (λ x. In x (take (j + 1) d)) (h.is ∙ is ∙ e) seen_now))
            (one_more c w.found wanted lt k i);
        flipped = λ k e. (let f = t.flipped k e in (f.0, still d j (opposite k) f.1));
        below = found_below (ap (λ (y : Literal). y.var) h.is);
      })

      pub walked_negated : (new : Comparison) → FindsNegated w wanted lit new → Walked c (take (j + 1) d) new
      walked_negated new h = subst (Walked c (take (j + 1) d)) (sym h.walk) (record {
        within = omega arith;
        found = λ k i. ⊎_elim
            (λ (s : In k (take w.found c)). ⊎_elim (λ (u : In k (take j d)). inl (still d j k u)) (λ (q : w.flipped ≡ Some k). absurd (clash k q)) (t.found k s))
            (λ (e : get_or c w.found wanted ≡ k). inr (ap Some (is ∙ e)))
            (one_more c w.found wanted lt k i);
        flipped = λ k e. (let q : wanted ≡ k = cc in (subst (λ x. In x c) q wanted_in, subst (λ x. In x (take (j + 1) d)) (h.is ∙ ap opposite q) seen_now));
        below = found_below (ap (λ (y : Literal). y.var) h.is);
      })
        where
          clash : (k : Literal) → w.flipped ≡ Some k → ⊥
          clash k q = let f = h.first in cc

      pub walked_more : (new : Comparison) → IsStep w wanted lit (Some new) → Walked c (take (j + 1) d) new
      walked_more new (inl h) = walked_over new h
      walked_more new (inr (inl h)) = walked_found new h
      walked_more new (inr (inr h)) = walked_negated new h
