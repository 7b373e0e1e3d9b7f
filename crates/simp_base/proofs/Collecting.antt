-- Hints are collected from the last one down along a trail, and units come first.
use Rattle.std.proofs.Common.{append_assoc, ◌≡◌, ◌∙◌, ◌⊎◌, ℕ, suc, Bool, true, false, List, [], ◌∷◌, ◌++◌, Some, sym, refl, ap, subst, inl, inr, arith}
use Rattle.std.proofs.lemmas.Bool.{or_left, or_right, or_cases, cases_Bool, false≢true}
use Rattle.sat_words.specs.Literal.{Literal, opposite, same}
use Rattle.sat_words.specs.Clause.{has}
use Rattle.sat_words.proofs.Members.{same-true, same-refl}
use Rattle.rup_model.specs.Hints.{Numbered, with_lit, hinted_from}
use Rattle.rup_model.proofs.Hinting.{hint_last, hint_first}
use Rattle.rup_model.proofs.HintReading.{set_pushed}
use Rattle.simp_base.specs.Collecting.{IsEarly, AreEarly, Rests, ComeFirst}

not_in : (B : Literal → Bool) (l : Literal) → (B l ≡ true → ⊥) → B l ≡ false
not_in B l never = elim (cases_Bool (B l)) as (λ _. B l ≡ false) [ inl y ↦ absurd (never y) | inr n ↦ n ]

module _ (at : Numbered) (start : Literal → Bool) (alone : Literal → Type 0) (lit : ℕ → Literal) where
  early_more : (i : ℕ) (l : Literal) → IsEarly start alone lit i l → IsEarly start alone lit (suc i) l
  early_more i l (inl s) = inl s
  early_more i l (inr (inl u)) = inr (inl u)
  early_more i l (inr (inr t)) = inr (inr (t.0, (let h = t.1 in omega arith), t.2))

  -- the false clause
  pub rests_last : (i last : ℕ) (c : List Literal) (needed : Literal → Bool) → at last ≡ Some c
      → ((k : Literal) → has c k ≡ true → (needed (opposite k) ≡ true) ⊎ (start (opposite k) ≡ true)) → Rests at start alone lit i needed (last ∷ [])
  rests_last i last c needed is all = record {
    first = last;
    others = [];
    is = refl;
    hinted = λ B e cov. hint_last at B last c is (λ k h. elim (all k h) as (λ _. B (opposite k) ≡ true) [ inl y ↦ cov (opposite k) y | inr s ↦ e.all (opposite k) s ]);
  }

  -- a place that is assumed, or not needed
  pub rests_skip : (i : ℕ) (needed now : Literal → Bool) (hints : List ℕ) → Rests at start alone lit (suc i) needed hints
      → ((l : Literal) → needed l ≡ true → (now l ≡ true) ⊎ (start l ≡ true)) → Rests at start alone lit i now hints
  rests_skip i needed now hints r kept = record {
    first = r.first;
    others = r.others;
    is = r.is;
    hinted = λ B e cov. r.hinted B (record { all = e.all; only = λ l h. early_more i l (e.only l h) })
        (λ l h. elim (kept l h) as (λ _. B l ≡ true) [ inl y ↦ cov l y | inr s ↦ e.all l s ]);
  }

  -- more is needed
  pub rests_more : (i : ℕ) (needed now : Literal → Bool) (hints : List ℕ) → Rests at start alone lit i needed hints
      → ((l : Literal) → needed l ≡ true → now l ≡ true) → Rests at start alone lit i now hints
  rests_more i needed now hints r kept = record {
    first = r.first;
    others = r.others;
    is = r.is;
    hinted = λ B e cov. r.hinted B e (λ l h. cov l (kept l h));
  }

  -- a derived place that is needed
  pub rests_step : (i n : ℕ) (c : List Literal) (needed now : Literal → Bool) (hints : List ℕ) → Rests at start alone lit (suc i) needed hints
      → at n ≡ Some c → has c (lit i) ≡ true
      → ((k : Literal) → has c k ≡ true → (k ≡ lit i) ⊎ ((now (opposite k) ≡ true) ⊎ (start (opposite k) ≡ true)))
      → ((l : Literal) → needed l ≡ true → (now l ≡ true) ⊎ (l ≡ lit i))
      → (IsEarly start alone lit i (lit i) → ⊥) → (IsEarly start alone lit i (opposite (lit i)) → ⊥)
      → Rests at start alone lit i now (n ∷ hints)
  rests_step i n c needed now hints r is there others kept yet free = record {
    first = n;
    others = hints;
    is = refl;
    hinted = by;
  }
    where
      wider : (B : Literal → Bool) → AreEarly start alone lit i B → AreEarly start alone lit (suc i) (with_lit (lit i) B)
      wider B e = record {
        all = λ l s. or_right _ _ (e.all l s);
        only = λ l h. elim (or_cases (same l (lit i)) (B l) h) as (λ _. IsEarly start alone lit (suc i) l) [
          | inl s ↦ inr (inr (i, omega arith, sym (same-true l (lit i) s)))
          | inr b ↦ early_more i l (e.only l b)
        ];
      }

      by : (B : Literal → Bool) → AreEarly start alone lit i B → ((l : Literal) → now l ≡ true → B l ≡ true) → hinted_from at B (n ∷ hints) ≡ true
      by B e cov =
          let rest : hinted_from at (with_lit (lit i) B) hints ≡ true = r.hinted (with_lit (lit i) B) (wider B e)
          (λ l h. elim (kept l h) as (λ _. with_lit (lit i) B l ≡ true) [
            | inl y ↦ or_right _ _ (cov l y)
            | inr s ↦ or_left _ _ (subst (λ (x : Literal). same x (lit i) ≡ true) (sym s) (same-refl (lit i)))
          ]) in
          ap (λ (xs : List ℕ). hinted_from at B (n ∷ xs)) r.is
          ∙ hint_first at B n r.first r.others c (lit i) is there
          (λ k h. elim (others k h) as (λ _. (k ≡ lit i) ⊎ (B (opposite k) ≡ true)) [
            | inl s ↦ inl s
            | inr m ↦ inr (elim m as (λ _. B (opposite k) ≡ true) [ inl y ↦ cov (opposite k) y | inr s ↦ e.all (opposite k) s ])
          ])
          (not_in B (lit i) (λ y. yet (e.only (lit i) y)))
          (not_in B (opposite (lit i)) (λ y. free (e.only (opposite (lit i)) y)))
          (subst (λ (xs : List ℕ). hinted_from at (with_lit (lit i) B) xs ≡ true) r.is rest)

  -- the units

  pub no_units : ComeFirst at start alone lit [] []
  no_units = record { hinted = λ first others go. go start (record { all = λ l s. s; only = λ l s. inl s }) (λ l h. absurd (false≢true h)) (λ l s. inl s) }

  pub one_unit : (units : List Literal) (numbers : List ℕ) (u : Literal) (n : ℕ) → ComeFirst at start alone lit units numbers → at n ≡ Some (u ∷ [])
      → alone u → has units u ≡ false → start u ≡ false → (IsEarly start alone lit 0 (opposite u) → ⊥)
      → ComeFirst at start alone lit (units ++ u ∷ []) (numbers ++ n ∷ [])
  one_unit units numbers u n f is unit fresh yet free = record {
    hinted = λ first others go.
        ap (hinted_from at start) (append_assoc numbers (n ∷ []) (first ∷ others))
        ∙ f.hinted n (first ∷ others) (λ B e cov only. hint_first at B n first others (u ∷ []) u is (or_left _ _ (same-refl u))
        (λ k h. elim (or_cases (same k u) false h) as (λ _. (k ≡ u) ⊎ (B (opposite k) ≡ true)) [ inl s ↦ inl (same-true k u s) | inr z ↦ absurd (false≢true z) ])
        (not_in B u (λ y. elim (only u y) as (λ _. ⊥) [ inl s ↦ false≢true (sym yet ∙ s) | inr h ↦ false≢true (sym fresh ∙ h) ]))
        (not_in B (opposite u) (λ y. free (e.only (opposite u) y)))
        (go (with_lit u B)
        (record {
          all = λ l s. or_right _ _ (e.all l s);
          only = λ l h. elim (or_cases (same l u) (B l) h) as (λ _. IsEarly start alone lit 0 l) [
            | inl s ↦ inr (inl (subst alone (sym (same-true l u s)) unit))
            | inr b ↦ e.only l b
          ];
        })
        (λ l h. elim (or_cases (same l u) (has units l) (sym (ap (λ (A : Literal → Bool). A l) (set_pushed units u)) ∙ h)) as (λ _. with_lit u B l ≡ true) [
          | inl s ↦ or_left _ _ s
          | inr old ↦ or_right _ _ (cov l old)
        ])
        (λ l h. elim (or_cases (same l u) (B l) h) as (λ _. (start l ≡ true) ⊎ (has (units ++ u ∷ []) l ≡ true)) [
          | inl s ↦ inr (ap (λ (A : Literal → Bool). A l) (set_pushed units u) ∙ or_left _ _ s)
          | inr b ↦ elim (only l b) as (λ _. (start l ≡ true) ⊎ (has (units ++ u ∷ []) l ≡ true)) [
            | inl z ↦ inl z
            | inr old ↦ inr (ap (λ (A : Literal → Bool). A l) (set_pushed units u) ∙ or_right _ _ old)
          ]
        ])));
  }

  -- all together
  pub hinted_all : (units : List Literal) (numbers : List ℕ) (needed : Literal → Bool) (hints : List ℕ) → ComeFirst at start alone lit units numbers
      → Rests at start alone lit 0 needed hints → ((l : Literal) → needed l ≡ true → has units l ≡ true) → hinted_from at start (numbers ++ hints) ≡ true
  hinted_all units numbers needed hints f r listed =
      ap (λ (xs : List ℕ). hinted_from at start (numbers ++ xs)) r.is
      ∙ f.hinted r.first r.others (λ B e cov only. subst (λ (xs : List ℕ). hinted_from at B xs ≡ true) r.is (r.hinted B e (λ l h. cov l (listed l h))))
