-- Down the trail, place by place.
use Rattle.std.proofs.Common.{◌≡◌, ◌∙◌, ◌⊎◌, ℕ, suc, ◌<◌, Bool, true, false, not, ◌&&◌, List, [], ◌∷◌, ◌++◌, length, Option, Some, None, sym, refl, ap, subst, inl, inr, arith}
use Rattle.std.specs.Prelude.{reverse}
use Rattle.std.proofs.lemmas.Bool.{cases_Bool, cases_eq, and_parts, and_from, false≢true}
use Rattle.std.proofs.lemmas.List.{reverse-append}
use Rattle.sat_words.specs.Literal.{Literal, opposite, same}
use Rattle.sat_words.specs.Clause.{has}
use Rattle.sat_words.proofs.Members.{same-true, same-refl}
use Rattle.rup_model.specs.Hints.{numbered, hinted_from}
use Rattle.simp_base.specs.Tables.{IsUnit}
use Rattle.simp_base.specs.declared.hints.trail.Step.{Step}
use Rattle.simp_base.specs.Hinting.{lit_at, reason_at, IsUp, IsFalsified}
use Rattle.simp_base.specs.Collecting.{IsEarly, Rests, marked, IsBasis, ForcedBefore, IsNoted, AreMet, IsCollected}
use Rattle.simp_base.proofs.Collecting.{rests_last, rests_skip, rests_step, no_units, hinted_all}
use Rattle.simp_base.proofs.Needing.{numbered_is}

put_last : (xs : List ℕ) (n : ℕ) → reverse (xs ++ n ∷ []) ≡ n ∷ reverse xs
put_last xs n = reverse-append xs (n ∷ [])

none_some : (o : Option ℕ) (n : ℕ) → o ≡ None → o ≡ Some n → ⊥
none_some o n e f = let g : None ≡ Some n = sym e ∙ f in cc

-- nothing is marked yet
pub nothing_noted : (cells : List (ℕ × List Literal)) (start : Literal → Bool) (steps : List Step) (i : ℕ) (marks : List Bool) → ((l : Literal) → marked marks l ≡ false) → IsNoted cells start steps i marks [] []
nothing_noted cells start steps i marks off = record {
  only = λ l m. absurd (false≢true (sym (off l) ∙ m));
  listed = λ l h. absurd (false≢true h);
  alone = λ l h. absurd (false≢true h);
  first = no_units (numbered cells) start (IsUnit cells) (lit_at steps);
}

module _ (cells : List (ℕ × List Literal)) (start : Literal → Bool) (steps : List Step) (b : IsBasis cells start steps) where
  -- the false clause
  pub begun : (last : ℕ) (f : IsFalsified cells steps last) (now : List Bool) (units : List Literal) (numbers reasons : List ℕ) → reasons ≡ last ∷ []
      → AreMet cells start steps (length steps) now units numbers f.clause → IsCollected cells start steps (length steps) now units numbers reasons
  begun last f now units numbers reasons is m = record {
    noted = m.noted;
    rests = subst (λ (xs : List ℕ). Rests (numbered cells) start (IsUnit cells) (lit_at steps) (length steps) (marked now) (reverse xs)) (sym is)
        (rests_last (numbered cells) start (IsUnit cells) (lit_at steps) (length steps) last f.clause (marked now) (numbered_is cells b.own last f.clause f.there)
        (λ k h. elim (m.met k h) as (λ _. (marked now (opposite k) ≡ true) ⊎ (start (opposite k) ≡ true)) [
          | inl at ↦ (let lt = at.0 in absurd (omega arith))
          | inr y ↦ y
        ]));
  }

  module _ (p : ℕ) (lt : p < length steps) (marks : List Bool) (units : List Literal) (numbers reasons : List ℕ) (s : IsCollected cells start steps (suc p) marks units numbers reasons) where
    -- a place that is given, or isn't marked
    pub skipped : ((n : ℕ) → reason_at steps p ≡ Some n → marked marks (lit_at steps p) ≡ true → ⊥) → IsCollected cells start steps p marks units numbers reasons
    skipped not_now = record {
      noted = record {
        only = λ l m. elim (s.noted.only l m) as (λ _. (has units l ≡ true) ⊎ ForcedBefore steps p l) [ inl h ↦ inl h | inr f ↦ inr (before l m f) ];
        listed = s.noted.listed;
        alone = s.noted.alone;
        first = s.noted.first;
      };
      rests = rests_skip (numbered cells) start (IsUnit cells) (lit_at steps) p (marked marks) (marked marks) (reverse reasons) s.rests (λ l m. inl m);
    }
      where
        before : (l : Literal) → marked marks l ≡ true → ForcedBefore steps (suc p) l → ForcedBefore steps p l
        before l m f = elim (cases_eq f.place p) as (λ _. ForcedBefore steps p l) [
          | inl e ↦ absurd (not_now f.number (ap (reason_at steps) (sym e) ∙ f.reason) (ap (marked marks) (ap (lit_at steps) (sym e) ∙ f.true_there) ∙ m))
          | inr ne ↦ (let low = f.before in record { place = f.place; before = omega arith; true_there = f.true_there; number = f.number; reason = f.reason })
        ]

    module _ (n : ℕ) (reason : reason_at steps p ≡ Some n) (mid : List Bool) (is : (l : Literal) → marked mid l ≡ (not (same (lit_at steps p) l) && marked marks l)) where
      not_not : (c : Bool) → not c ≡ true → c ≡ false
      not_not true e = absurd (false≢true e)
      not_not false e = refl

      -- the place's mark is taken away
      pub unmarked : IsNoted cells start steps p mid units numbers
      unmarked = record {
        only = λ l m. (let both = and_parts (not (same (lit_at steps p) l)) (marked marks l) (sym (is l) ∙ m) in
            elim (s.noted.only l both.1) as (λ _. (has units l ≡ true) ⊎ ForcedBefore steps p l) [ inl h ↦ inl h | inr f ↦ inr (before l (not_not _ both.0) f) ]);
        listed = λ l h. is l ∙ and_from _ _ (ap not (other l h)) (s.noted.listed l h);
        alone = s.noted.alone;
        first = s.noted.first;
      }
        where
          before : (l : Literal) → same (lit_at steps p) l ≡ false → ForcedBefore steps (suc p) l → ForcedBefore steps p l
          before l ne f = elim (cases_eq f.place p) as (λ _. ForcedBefore steps p l) [
            | inl e ↦ absurd (false≢true (sym ne ∙ ap (λ (x : Literal). same x l) (ap (lit_at steps) (sym e) ∙ f.true_there) ∙ same-refl l))
            | inr other ↦ (let low = f.before in record { place = f.place; before = omega arith; true_there = f.true_there; number = f.number; reason = f.reason })
          ]

          other : (l : Literal) → has units l ≡ true → same (lit_at steps p) l ≡ false
          other l h = elim (cases_Bool (same (lit_at steps p) l)) as (λ _. same (lit_at steps p) l ≡ false) [
            | inl y ↦ absurd (b.trail.apart p n lt reason l (s.noted.alone l h) (ap (λ (x : Literal). x.var) (sym (same-true (lit_at steps p) l y))))
            | inr f ↦ f
          ]

      -- no literal of the variable is true before the place
      not_early : (l : Literal) → l.var ≡ (lit_at steps p).var → IsEarly start (IsUnit cells) (lit_at steps) p l → ⊥
      not_early l v (inl st) =
          let a = b.trail.all l st in
          let e : a.0 ≡ p = b.trail.distinct a.0 p a.1 lt (ap (λ (x : Literal). x.var) a.3 ∙ v) in
          none_some (reason_at steps p) n (ap (reason_at steps) (sym e) ∙ a.2) reason
      not_early l v (inr (inl u)) = b.trail.apart p n lt reason l u v
      not_early l v (inr (inr t)) =
          let low = t.1 in
          let e : t.0 ≡ p = b.trail.distinct t.0 p (omega arith) lt (ap (λ (x : Literal). x.var) t.2 ∙ v) in
          absurd (omega arith)

      -- its reason comes before the hints
      pub stepped : (u : IsUp cells steps p n) (now : List Bool) (more : List Literal) (others after : List ℕ) → after ≡ reasons ++ n ∷ []
          → ((l : Literal) → marked mid l ≡ true → marked now l ≡ true) → AreMet cells start steps p now more others u.clause
          → IsCollected cells start steps p now more others after
      stepped u now more others after e kept m = record {
        noted = m.noted;
        rests = subst (λ (xs : List ℕ). Rests (numbered cells) start (IsUnit cells) (lit_at steps) p (marked now) xs) (sym (ap (λ (xs : List ℕ). reverse xs) e ∙ put_last reasons n))
            (rests_step (numbered cells) start (IsUnit cells) (lit_at steps) p n u.clause (marked marks) (marked now) (reverse reasons) s.rests (numbered_is cells b.own n u.clause u.there) u.has_lit
            (λ k h. elim (m.met k h) as (λ _. (k ≡ lit_at steps p) ⊎ ((marked now (opposite k) ≡ true) ⊎ (start (opposite k) ≡ true))) [ inl at ↦ inl (sym at.1) | inr y ↦ inr y ])
            (λ l y. elim (cases_Bool (same (lit_at steps p) l)) as (λ _. (marked now l ≡ true) ⊎ (l ≡ lit_at steps p)) [
              | inl q ↦ inr (sym (same-true (lit_at steps p) l q))
              | inr f ↦ inl (kept l (is l ∙ and_from _ _ (ap not f) y))
            ])
            (not_early (lit_at steps p) refl) (not_early (opposite (lit_at steps p)) refl));
      }

  -- at the bottom
  only_units : (marks : List Bool) (units : List Literal) (numbers : List ℕ) → IsNoted cells start steps 0 marks units numbers → (l : Literal) → marked marks l ≡ true → has units l ≡ true
  only_units marks units numbers n l m = elim (n.only l m) as (λ _. has units l ≡ true) [ inl h ↦ h | inr f ↦ (let low = f.before in absurd (omega arith)) ]

  pub hinted_at_end : (marks : List Bool) (units : List Literal) (numbers reasons : List ℕ) → IsCollected cells start steps 0 marks units numbers reasons
      → hinted_from (numbered cells) start (numbers ++ reverse reasons) ≡ true
  hinted_at_end marks units numbers reasons s =
      hinted_all (numbered cells) start (IsUnit cells) (lit_at steps) units numbers (marked marks) (reverse reasons) s.noted.first s.rests (only_units marks units numbers s.noted)

  pub blank_at_end : (marks : List Bool) (units : List Literal) (numbers reasons : List ℕ) → IsCollected cells start steps 0 marks units numbers reasons
      → (l : Literal) → (not (has units l) && marked marks l) ≡ false
  blank_at_end marks units numbers reasons s l = by (marked marks l) (has units l) (only_units marks units numbers s.noted l)
    where
      by : (m h : Bool) → (m ≡ true → h ≡ true) → (not h && m) ≡ false
      by m true f = refl
      by true false f = absurd (false≢true (f refl))
      by false false f = refl
