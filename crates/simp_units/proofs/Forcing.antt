-- What a clause that forces a literal shows.
use Rattle.std.proofs.Common.{◌≡◌, ◌⊎◌, ◌<◌, ◌||◌, Bool, true, false, not, List, [], ◌∷◌, length, map, set, refl, sym, ap, ◌∙◌, subst, inl, inr, ⊎_elim, Option, Some}
use Rattle.std.specs.List.{list_all}
use Rattle.std.proofs.lemmas.Bool.{or_left, or_right, or_cases, and_from, cases_Bool, true≢false, false≢true}
use Rattle.sat_words.specs.Literal.{Literal, opposite, same}
use Rattle.sat_words.specs.Clause.{has}
use Rattle.sat_words.proofs.Members.{same-true, same-refl}
use Rattle.sat_words.specs.Values.{is_true}
use Rattle.rup_model.specs.Rounds.{falsifies, forces}
use Rattle.rup_model.specs.Rup.{conflicts, rup}
use Rattle.rup_model.specs.Status.{IsSettled}
use Rattle.rup_model.specs.Derivation.{Derives, with_derived}
use Rattle.rup_model.proofs.Lists.{In, In_has, has_In, all_In, In_all, In_map, In_Contains}
use Rattle.rup_model.proofs.RoundsLemmas.{forces-parts}
use Rattle.rup_model.proofs.Derivation.{conflicts_from_derivation}
use Rattle.rup_model.proofs.AssignedLemmas.{no_value, is_true-set, is_true-set_keeps, is_true-set_itself, is_true-opposite}

-- the negation of the negation
pub opposite_twice : (l : Literal) → opposite (opposite l) ≡ l
opposite_twice l = λ i. record { var = l.var; neg = twice l.neg i }
  where
    twice : (b : Bool) → not (not b) ≡ b
    twice true = refl
    twice false = refl

-- one more literal
module _ (a : List (Option Bool)) (k : Literal) (yet : is_true a k ≡ false) (neither : is_true a (opposite k) ≡ false) (range : k.var < length a) where
  abbrev b : List (Option Bool)
  b = set a k.var (Some (not k.neg))

  pub keeps : (m : Literal) → is_true a m ≡ true → is_true b m ≡ true
  keeps m h = is_true-set_keeps a k m (no_value a k yet neither) h

  pub itself : is_true b k ≡ true
  itself = is_true-set_itself a k range

  before : (c : List Literal) → has c (opposite k) ≡ false → (x : Literal) → In x c → is_true b (opposite x) ≡ true → is_true a (opposite x) ≡ true
  before c away x i h =
      elim (is_true-set a k (opposite x) range h) as (λ _. is_true a (opposite x) ≡ true) [
        | inl e ↦ absurd (false≢true (sym away ∙ In_has c (opposite k) (subst (λ y. In y c) (sym (ap opposite e ∙ opposite_twice x)) i)))
        | inr old ↦ old
      ]

  -- a clause that does not hold its negation stays settled
  pub settled_kept : (c : List Literal) → IsSettled a c → has c (opposite k) ≡ false → IsSettled b c
  settled_kept c s away = record {
    open_yet = elim (cases_Bool (falsifies (is_true b) c)) as (λ _. falsifies (is_true b) c ≡ false) [
      | inl bad ↦ absurd (true≢false (sym (In_all (λ x. is_true a (opposite x)) c (λ x i. before c away x i (all_In (λ y. is_true b (opposite y)) c x bad i))) ∙ s.open_yet))
      | inr fine ↦ fine
    ];
    closed = λ m f. (
        let parts = forces-parts (is_true b) m c f in
        let was : is_true a (opposite m) ≡ false = elim (cases_Bool (is_true a (opposite m))) as (λ _. is_true a (opposite m) ≡ false) [ inl t ↦ absurd (true≢false (sym (keeps (opposite m) t) ∙ parts.1)) | inr n ↦ n ] in
        let others : list_all (λ x. same m x || is_true a (opposite x)) c ≡ true = In_all (λ x. same m x || is_true a (opposite x)) c (λ x i.
        elim (or_cases (same m x) (is_true b (opposite x)) (all_In (λ y. same m y || is_true b (opposite y)) c x parts.2 i)) as (λ _. (same m x || is_true a (opposite x)) ≡ true) [
          | inl e ↦ or_left _ _ e
          | inr t ↦ or_right _ _ (before c away x i t)
        ]) in
        keeps m (s.closed m (and_from _ _ parts.0 (and_from _ _ (ap not was) others))));
  }

  -- a clause that holds it is settled
  pub settled_by : (c : List Literal) → has c k ≡ true → IsSettled b c
  settled_by c h = record {
    open_yet = elim (cases_Bool (falsifies (is_true b) c)) as (λ _. falsifies (is_true b) c ≡ false) [
      | inl bad ↦ absurd (true≢false (sym (all_In (λ y. is_true b (opposite y)) c k bad (has_In c k h)) ∙ not_both))
      | inr fine ↦ fine
    ];
    closed = λ m f. (
        let parts = forces-parts (is_true b) m c f in
        elim (or_cases (same m k) (is_true b (opposite k)) (all_In (λ y. same m y || is_true b (opposite y)) c k parts.2 (has_In c k h))) as (λ _. is_true b m ≡ true) [
          | inl e ↦ ap (is_true b) (same-true m k e) ∙ itself
          | inr t ↦ absurd (true≢false (sym t ∙ not_both))
        ]);
  }
    where
      not_both : is_true b (opposite k) ≡ false
      not_both = is_true-opposite b k itself

-- a clause with a true literal is settled
pub settled_true : (a : List (Option Bool)) (k : Literal) (c : List Literal) → is_true a k ≡ true → has c k ≡ true → IsSettled a c
settled_true a k c t h = record {
  open_yet = elim (cases_Bool (falsifies (is_true a) c)) as (λ _. falsifies (is_true a) c ≡ false) [
    | inl bad ↦ absurd (true≢false (sym (all_In (λ y. is_true a (opposite y)) c k bad (has_In c k h)) ∙ is_true-opposite a k t))
    | inr fine ↦ fine
  ];
  closed = λ m f. (
      let parts = forces-parts (is_true a) m c f in
      elim (or_cases (same m k) (is_true a (opposite k)) (all_In (λ y. same m y || is_true a (opposite y)) c k parts.2 (has_In c k h))) as (λ _. is_true a m ≡ true) [
        | inl e ↦ ap (is_true a) (same-true m k e) ∙ t
        | inr n ↦ absurd (true≢false (sym n ∙ is_true-opposite a k t))
      ]);
}

-- Units among the clauses

derives_units : (G : List (List Literal)) (A us : List Literal) → ((u : Literal) → In u us → In (u ∷ []) G) → Derives G A us
derives_units G A [] f = tt
derives_units G A (u ∷ us) f =
    ((u ∷ [], In_Contains G (u ∷ []) (f u (inl refl)), or_left _ _ (same-refl u), and_from _ _ (or_left _ _ (same-refl u)) refl), derives_units G (u ∷ A) us (λ x i. f x (inr i)))

derived_left : (A us : List Literal) (m : Literal) → has A m ≡ true → has (with_derived A us) m ≡ true
derived_left A [] m h = h
derived_left A (u ∷ us) m h = derived_left (u ∷ A) us m (or_right _ _ h)

derived_right : (A us : List Literal) (m : Literal) → has us m ≡ true → has (with_derived A us) m ≡ true
derived_right A [] m h = absurd (false≢true h)
derived_right A (u ∷ us) m h = elim (or_cases (same m u) (has us m) h) as (λ _. has (with_derived (u ∷ A) us) m ≡ true) [
  | inl e ↦ derived_left (u ∷ A) us m (or_left _ _ e)
  | inr t ↦ derived_right (u ∷ A) us m t
]

module _ (G : List (List Literal)) (us : List Literal) (a : List (Option Bool)) (units : (u : Literal) → In u us → In (u ∷ []) G) (same_units : (l : Literal) → has us l ≡ is_true a l) (c : List Literal) (among : In c G) where
  -- a literal that a clause forces from the units follows
  pub forced_follows : (k : Literal) → forces (is_true a) k c ≡ true → rup G (k ∷ []) ≡ true
  unfolding rup
  forced_follows k f =
      let parts = forces-parts (is_true a) k c f in
      or_right _ _ (conflicts_from_derivation G (opposite k ∷ []) us c (derives_units G (opposite k ∷ []) us units) (In_Contains G c among)
      (In_all (λ j. has (with_derived (opposite k ∷ []) us) (opposite j)) c (λ j i.
      elim (or_cases (same k j) (is_true a (opposite j)) (all_In (λ y. same k y || is_true a (opposite y)) c j parts.2 i)) as (λ _. has (with_derived (opposite k ∷ []) us) (opposite j) ≡ true) [
        | inl e ↦ derived_left (opposite k ∷ []) us (opposite j) (or_left _ _ (ap (λ x. same (opposite j) (opposite x)) (same-true k j e) ∙ same-refl (opposite j)))
        | inr t ↦ derived_right (opposite k ∷ []) us (opposite j) (same_units (opposite j) ∙ t)
      ])))

  -- if the units falsify a clause, the empty clause follows
  pub falsified_follows : falsifies (is_true a) c ≡ true → rup G [] ≡ true
  unfolding rup
  falsified_follows bad =
      or_right false (conflicts G []) (conflicts_from_derivation G [] us c (derives_units G [] us units) (In_Contains G c among)
      (In_all (λ j. has (with_derived [] us) (opposite j)) c (λ j i. derived_right [] us (opposite j) (same_units (opposite j) ∙ all_In (λ y. is_true a (opposite y)) c j bad i))))

-- what is left of a clause without its false literals follows
module _ (G : List (List Literal)) (us : List Literal) (a : List (Option Bool)) (units : (u : Literal) → In u us → In (u ∷ []) G) (same_units : (l : Literal) → has us l ≡ is_true a l) (c r : List Literal) (among : In c G) (left : (k : Literal) → In k c → (has r k ≡ true) ⊎ (is_true a (opposite k) ≡ true)) where
  pub shortened_follows : rup G r ≡ true
  unfolding rup
  shortened_follows =
      or_right _ _ (conflicts_from_derivation G (map opposite r) us c (derives_units G (map opposite r) us units) (In_Contains G c among)
      (In_all (λ j. has (with_derived (map opposite r) us) (opposite j)) c (λ j i. ⊎_elim
      (λ (h : has r j ≡ true). derived_left (map opposite r) us (opposite j) (In_has (map opposite r) (opposite j) (In_map opposite r j (has_In r j h))))
      (λ (t : is_true a (opposite j) ≡ true). derived_right (map opposite r) us (opposite j) (same_units (opposite j) ∙ t))
      (left j i))))
