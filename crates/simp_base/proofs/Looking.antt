-- What the tests on a clause say.
use Rattle.std.proofs.Common.{◌≡◌, ◌⊎◌, inl, inr, Bool, true, false, not, ◌||◌, ◌&&◌, List, [], ◌∷◌, refl, sym, ap, ◌∙◌, subst, Some, None}
use Rattle.std.specs.Prelude.{if◌then◌else◌}
use Rattle.std.specs.List.{find, list_all}
use Rattle.std.proofs.lemmas.Bool.{or_left, or_right, or_cases, or_parts, and_from, cases_Bool, false≢true}
use Rattle.sat_words.specs.Literal.{Literal, opposite, same}
use Rattle.sat_words.specs.Clause.{has}
use Rattle.sat_words.proofs.Members.{same-true, same-refl}
use Rattle.rup_model.specs.Rounds.{falsifies}
use Rattle.rup_model.proofs.Lists.{all_In, has_In}
use Rattle.simp_base.specs.Search.{IsSettled, Forces}

-- no literal isn't false
pub none_open : (S : Literal → Bool) (c : List Literal) → find (λ l. not (S (opposite l))) c ≡ None → falsifies S c ≡ true
none_open S [] e = refl
none_open S (k ∷ c) e = by (none_open S c) (S (opposite k)) refl e
  where
    by : (find (λ l. not (S (opposite l))) c ≡ None → falsifies S c ≡ true) → (b : Bool) → S (opposite k) ≡ b → (if not b then Some k else find (λ l. not (S (opposite l))) c) ≡ None → falsifies S (k ∷ c) ≡ true
    by f true y q = and_from _ _ y (f q)
    by f false n q = absurd (cc)

-- the first literal that isn't false
pub first_is : (S : Literal → Bool) (c : List Literal) (l : Literal) → find (λ k. not (S (opposite k))) c ≡ Some l → (has c l ≡ true) × (S (opposite l) ≡ false)
first_is S [] l e = absurd (cc)
first_is S (k ∷ c) l e = by (first_is S c l) (S (opposite k)) refl e
  where
    by : (find (λ j. not (S (opposite j))) c ≡ Some l → (has c l ≡ true) × (S (opposite l) ≡ false)) → (b : Bool) → S (opposite k) ≡ b → (if not b then Some k else find (λ j. not (S (opposite j))) c) ≡ Some l → (has (k ∷ c) l ≡ true) × (S (opposite l) ≡ false)
    by f true y q = let t = f q in (or_right _ _ t.0, t.1)
    by f false n q = let is : k ≡ l = cc in (or_left _ _ (subst (λ (x : Literal). same l x ≡ true) (sym is) (same-refl l)), ap (λ (x : Literal). S (opposite x)) (sym is) ∙ n)

-- another literal that isn't false
record Other (S : Literal → Bool) (c : List Literal) (l : Literal) : Type 0 where
  lit : Literal
  there : has c lit ≡ true
  differs : same l lit ≡ false
  open_yet : S (opposite lit) ≡ false

other_open : (S : Literal → Bool) (c : List Literal) (l : Literal) → list_all (λ k. same l k || S (opposite k)) c ≡ false → Other S c l
other_open S [] l e = absurd (false≢true (sym e))
other_open S (k ∷ c) l e = elim (cases_Bool (same l k || S (opposite k))) as (λ _. Other S (k ∷ c) l) [
  | inl y ↦ (let t = other_open S c l (rest y) in record { lit = t.lit; there = or_right _ _ t.there; differs = t.differs; open_yet = t.open_yet })
  | inr n ↦ (let p = or_parts (same l k) (S (opposite k)) n in record { lit = k; there = or_left _ _ (same-refl k); differs = p.0; open_yet = p.1 })
]
  where
    rest : (same l k || S (opposite k)) ≡ true → list_all (λ j. same l j || S (opposite j)) c ≡ false
    rest y = by (same l k || S (opposite k)) (list_all (λ j. same l j || S (opposite j)) c) y e
      where
        by : (a b : Bool) → a ≡ true → (a && b) ≡ false → b ≡ false
        by true b p q = q
        by false b p q = absurd (false≢true p)

pub settled_by_true : (S : Literal → Bool) (c : List Literal) (l : Literal) → find (λ k. not (S (opposite k))) c ≡ Some l → S l ≡ true → IsSettled S c
settled_by_true S c l e t = inl (record { lit = l; there = (first_is S c l e).0; is_true = t })

pub settled_by_two : (S : Literal → Bool) (c : List Literal) (l : Literal) → find (λ k. not (S (opposite k))) c ≡ Some l → list_all (λ k. same l k || S (opposite k)) c ≡ false → IsSettled S c
settled_by_two S c l e o =
    let f = first_is S c l e in
    let t = other_open S c l o in
    inr (record {
      first = l;
      second = t.lit;
      differ = λ q. false≢true (sym t.differs ∙ ap (same l) (sym q) ∙ same-refl l);
      has_first = f.0;
      has_second = t.there;
      open_first = f.1;
      open_second = t.open_yet;
    })

pub forced_by : (S : Literal → Bool) (c : List Literal) (l : Literal) → find (λ k. not (S (opposite k))) c ≡ Some l → S l ≡ false → list_all (λ k. same l k || S (opposite k)) c ≡ true → Forces S c l
forced_by S c l e yet o =
    let f = first_is S c l e in
    record {
      has_lit = f.0;
      yet = yet;
      open_yet = f.1;
      others = λ k i. elim (or_cases (same l k) (S (opposite k)) (all_In (λ j. same l j || S (opposite j)) c k o (has_In c k i))) as (λ _. (k ≡ l) ⊎ (S (opposite k) ≡ true)) [
        | inl s ↦ inl (sym (same-true l k s))
        | inr t ↦ inr t
      ];
    }
