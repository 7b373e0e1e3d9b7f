-- A flip leaves the counts of the clauses under what is true then.
use Rattle.std.proofs.Common.{◌≡◌, ◌∙◌, ℕ, zero, suc, ◌<◌, Bool, true, false, ◌||◌, List, [], ◌∷◌, length, get_or, refl, sym, ap, subst, arith}
use Rattle.std.specs.Prelude.{if◌then◌else◌}
use Rattle.std.proofs.lemmas.List.{length-map, ext_get_or}
use Rattle.sat_words.specs.Literal.{Literal, IsOn, opposite, same}
use Rattle.sat_words.specs.Clause.{has, distinct_lits}
use Rattle.ring_walk.specs.declared.tally.Count.{Count}
use Rattle.ring_walk.specs.Tally.{TallyData, CanLower, count_at, nothing, raised, lowered}
use Rattle.ring_walk.specs.Truths.{count_of, counts_of, with_lit, without_lit, flipped, is_in, IsFlip}
use Rattle.ring_walk.proofs.Ordered.{all_has}
use Rattle.ring_walk.proofs.Taking.{in_own}
use Rattle.ring_walk.proofs.Truths.{raise_own, raise_other, lower_own, lower_other, can_lower}

pub count_get : (T : Literal → Bool) (G : List (List Literal)) (i : ℕ) → i < length G → count_at (counts_of T G) i ≡ count_of T (get_or G i [])
count_get T [] i lt = absurd (omega arith)
count_get T (c ∷ G) zero lt = refl
count_get T (c ∷ G) (suc i) lt = count_get T G i (omega arith)

chosen : (T : Literal → Bool) (l : Literal) (c : List Literal) (b : Bool) → b ≡ has c l → distinct_lits c ≡ true → T l ≡ false → (if b then raised (count_of T c) l.var else count_of T c) ≡ count_of (with_lit l T) c
chosen T l c true e d o = sym (raise_own T l c d o (sym e))
chosen T l c false e d o = sym (raise_other T l c (sym e))

chosen_low : (T : Literal → Bool) (l : Literal) (c : List Literal) (b : Bool) → b ≡ has c l → distinct_lits c ≡ true → T l ≡ true → (if b then lowered (count_of T c) l.var else count_of T c) ≡ count_of (without_lit l T) c
chosen_low T l c true e d y = sym (lower_own T l c d y (sym e))
chosen_low T l c false e d y = sym (lower_other T l c (sym e))

module _ (t : TallyData) (up down : List ℕ) (var : ℕ) (G : List (List Literal)) (T : Literal → Bool) (l : Literal) (f : IsFlip t up down var G T l) where
  pub long : length t.counts ≡ length G
  long = ap (λ (xs : List Count). length xs) f.counts ∙ length-map G (count_of T)

  still_true : with_lit l T (opposite l) ≡ true
  still_true = ap (λ (b : Bool). same (opposite l) l || b) f.was_true ∙ by (same (opposite l) l)
    where
      by : (b : Bool) → (b || true) ≡ true
      by true = refl
      by false = refl

  -- after the first half
  pub half : (now : List Count) → length now ≡ length t.counts → ((i : ℕ) → i < length t.counts → count_at now i ≡ (if is_in up i then raised (count_at t.counts i) var else count_at t.counts i)) → now ≡ counts_of (with_lit l T) G
  half now len each = ext_get_or nothing now (counts_of (with_lit l T) G) (len ∙ long ∙ sym (length-map G (count_of (with_lit l T)))) (λ i lt.
      let lo = long in
      let low : i < length G = omega arith in
      let was : count_at t.counts i ≡ count_of T (get_or G i []) = ap (λ (xs : List Count). count_at xs i) f.counts ∙ count_get T G i low in
      each i (omega arith)
      ∙ ap (λ (x : Count). if is_in up i then raised x var else x) was
      ∙ ap (λ (v : ℕ). if is_in up i then raised (count_of T (get_or G i [])) v else count_of T (get_or G i [])) (sym f.var_is)
      ∙ chosen T l (get_or G i []) (is_in up i) (f.up_names i low) (f.distinct i low) f.was_false
      ∙ sym (count_get (with_lit l T) G i low))

  -- what comes next may be lowered
  pub next_can : (k : ℕ) → k < length down → CanLower t.vars (count_at (counts_of (with_lit l T) G) (get_or down k 0)) var
  next_can k lt =
      let i = get_or down k 0 in
      let low = f.down_low k lt in
      let has_it : has (get_or G i []) (opposite l) ≡ true = sym (f.down_names i low) ∙ in_own down k lt in
      subst (λ (x : Count). CanLower t.vars x var) (sym (count_get (with_lit l T) G i low))
      (subst (λ (v : ℕ). CanLower t.vars (count_of (with_lit l T) (get_or G i [])) v) f.var_is
      (can_lower (with_lit l T) t.vars (opposite l) (get_or G i []) (f.distinct i low) still_true has_it (λ m h. (all_has (IsOn t.vars) (get_or G i []) m (f.on i [] low) h).high)))

  -- after the second half
  pub whole : (now : List Count) → length now ≡ length (counts_of (with_lit l T) G) → ((i : ℕ) → i < length (counts_of (with_lit l T) G) → count_at now i ≡ (if is_in down i then lowered (count_at (counts_of (with_lit l T) G) i) var else count_at (counts_of (with_lit l T) G) i))
      → now ≡ counts_of (flipped l T) G
  whole now len each = ext_get_or nothing now (counts_of (flipped l T) G) (len ∙ length-map G (count_of (with_lit l T)) ∙ sym (length-map G (count_of (flipped l T)))) (λ i lt.
      let lo = length-map G (count_of (with_lit l T)) in
      let low : i < length G = omega arith in
      each i (omega arith)
      ∙ ap (λ (x : Count). if is_in down i then lowered x var else x) (count_get (with_lit l T) G i low)
      ∙ ap (λ (v : ℕ). if is_in down i then lowered (count_of (with_lit l T) (get_or G i [])) v else count_of (with_lit l T) (get_or G i [])) (sym f.var_is)
      ∙ chosen_low (with_lit l T) (opposite l) (get_or G i []) (is_in down i) (f.down_names i low) (f.distinct i low) still_true
      ∙ sym (count_get (flipped l T) G i low))
