-- What a new note changes, and what the tracer's causes are.
use Rattle.std.proofs.Common.{◌≡◌, ◌∙◌, ℕ, zero, suc, ◌+◌, ◌<◌, ◌≤◌, Bool, true, false, ◌||◌, nat_eq, List, [], ◌∷◌, ◌++◌, length, get_or, take, replicate, sym, refl, ap, subst, inl, inr, ◌⊎◌, arith, length-append, append_assoc}
use Rattle.std.proofs.lemmas.List.{get_or-set_same, get_or-set_other, take_more, length-replicate}
use Rattle.std.proofs.Math.ListN.{set, length-set}
use Rattle.std.specs.List.{IsDistinct}
use Rattle.std.specs.List.Sorted.{IsPermutation}
use Rattle.std.specs.Set.{is_member}
use Rattle.std.proofs.lemmas.Cmp.{nat_eq_equiv}
use Rattle.std.proofs.lemmas.Bool.{or_cases, eq-eqb, eqb-true, cases_eq, ne_eqb, or_left, or_right, false≢true}
use Rattle.std.proofs.lemmas.Map.Keys.{IsDistinct-push, IsDistinct-IsPermutation}
use Rattle.std.proofs.lemmas.Map.Steps.{length-le_from_distinct_below}
use Rattle.sat_words.specs.Literal.{Literal, opposite}
use Rattle.sat_words.specs.Clause.{has}
use Rattle.sat_words.proofs.Members.{opposite-opposite}
use Rattle.ring_trail.specs.declared.step.TrailStep.{TrailStep}
use Rattle.ring_trail.specs.TrailData.{TrailData, IsTrail, lit_at}
use Rattle.analyze.specs.MarksData.{MarksData, all_blank, with_mark}
use Rattle.analyze.specs.Noting.{note_at, is_found_note, is_found_at, IsNoting, HasNoted}
use Rattle.analyze.specs.declared.tracer.Note.{Note}
use Rattle.analyze.specs.declared.tracer.Note.TheVariants.{Free, Given, Noted}
use Rattle.rup_model.proofs.Lists.{In_get_or}
use Rattle.rup_model.proofs.Counting.{In_member}
use Rattle.analyze.proofs.Chains.{has-head, has-one}
use Rattle.analyze.proofs.Sorting.{member_permutation}
use Rattle.analyze.proofs.Marking.{member_push, or_false, has-append}

none_twice : IsDistinct nat_eq []
unfolding IsDistinct
none_twice = tt

-- no place is found
pub free : (n p : ℕ) → note_at (replicate n Free) p ≡ Free
free zero p = refl
free (suc n) zero = refl
free (suc n) (suc p) = free n p

pub found-none : (n p : ℕ) → is_found_at (replicate n Free) p ≡ false
found-none n p = ap is_found_note (free n p)

pub IsNoting-none : (t : TrailData) → IsNoting t.steps t.vars (all_blank t.vars Free)
IsNoting-none t = record {
  blank = refl;
  size = length-replicate t.vars Free;
  in_range = λ p y. absurd (false≢true (sym (found-none t.vars p) ∙ y));
  listed = λ p. sym (found-none t.vars p);
  distinct = none_twice;
}

-- what isn't found is free
pub free_note : (n : Note) → is_found_note n ≡ false → n ≡ Free
free_note Free e = refl
free_note Given e = absurd (false≢true (sym e))
free_note Noted e = absurd (false≢true (sym e))

-- what is found is given or noted
pub found_cases : (n : Note) → is_found_note n ≡ true → (n ≡ Given) ⊎ (n ≡ Noted)
found_cases Free e = absurd (false≢true e)
found_cases Given e = inl refl
found_cases Noted e = inr refl

pub touched_few : (t : TrailData) (m : MarksData Note) → IsTrail t → IsNoting t.steps t.vars m → length m.touched ≤ length t.steps
touched_few t m shape k = length-le_from_distinct_below m.touched (length t.steps) k.distinct (λ p y. k.in_range p (sym (k.listed p) ∙ y))

-- one more place is found
module _ (t : TrailData) (m : MarksData Note) (shape : IsTrail t) (k : IsNoting t.steps t.vars m) (p : ℕ) (lt : p < length t.steps) (off : is_found_at m.values p ≡ false) (v : Note) where
  in_table : p < length m.values
  in_table = let s = shape.short in let z = k.size in omega arith

  here : note_at (set m.values p v) p ≡ v
  here = get_or-set_same m.values p v Free in_table

  other : (q : ℕ) → (q ≡ p → ⊥) → note_at (set m.values p v) q ≡ note_at m.values q
  other q ne = get_or-set_other m.values p q v Free ne

  pushed : IsDistinct nat_eq (m.touched ++ p ∷ [])
  pushed = IsDistinct-push nat_eq_equiv m.touched p k.distinct (k.listed p ∙ off)

  -- there is room to list the place
  pub room_noted : length m.touched < t.vars
  room_noted =
      let le = length-le_from_distinct_below (m.touched ++ p ∷ []) (length t.steps) pushed (λ r y.
      elim (or_cases (is_member nat_eq m.touched r) (nat_eq r p) (sym (member_push m.touched p r) ∙ y)) as (λ _. r < length t.steps) [
        | inl old ↦ k.in_range r (sym (k.listed r) ∙ old)
        | inr e ↦ (let s = eqb-true r p e in omega arith)
      ]) in
      let s = shape.short in
      omega (arith, le, length-append m.touched (p ∷ []))

  module _ (found : is_found_note v ≡ true) where
    pub IsNoting-set : IsNoting t.steps t.vars (with_mark m p v)
    IsNoting-set = record {
      blank = k.blank;
      size = length-set m.values p v ∙ k.size;
      in_range = λ q y. elim (cases_eq q p) as (λ _. q < length t.steps) [
        | inl e ↦ omega arith
        | inr ne ↦ k.in_range q (ap is_found_note (sym (other q ne)) ∙ y)
      ];
      listed = λ q. member_push m.touched p q ∙ elim (cases_eq q p) as (λ _. (is_member nat_eq m.touched q || nat_eq q p) ≡ is_found_at (set m.values p v) q) [
        | inl e ↦ or_right _ _ (eq-eqb q p e) ∙ sym (subst (λ (r : ℕ). is_found_at (set m.values p v) r ≡ true) (sym e) (ap is_found_note here ∙ found))
        | inr ne ↦ ap (λ (x : Bool). is_member nat_eq m.touched q || x) (ne_eqb q p ne) ∙ or_false (is_member nat_eq m.touched q) ∙ k.listed q ∙ sym (ap is_found_note (other q ne))
      ];
      distinct = pushed;
    }

    pub HasNoted-set : (l : Literal) → lit_at t.steps p ≡ opposite l → HasNoted t.steps v m (with_mark m p v) (l ∷ [])
    HasNoted-set l is =
        let own : opposite (lit_at t.steps p) ≡ l = ap opposite is ∙ opposite-opposite l in
        record {
          kept = λ q y. other q (λ e. false≢true (sym off ∙ ap (is_found_at m.values) (sym e) ∙ y));
          only = λ q y. elim (cases_eq q p) as (λ _. (is_found_at m.values q ≡ true) ⊎ ((note_at (set m.values p v) q ≡ v) × (has (l ∷ []) (opposite (lit_at t.steps q)) ≡ true))) [
            | inl e ↦ inr (
              ap (note_at (set m.values p v)) e ∙ here,
              subst (λ (r : ℕ). has (l ∷ []) (opposite (lit_at t.steps r)) ≡ true) (sym e) (subst (λ (x : Literal). has (l ∷ []) x ≡ true) (sym own) (has-head [] l)),
            )
            | inr ne ↦ inl (ap is_found_note (sym (other q ne)) ∙ y)
          ];
          all = λ q lq h. (
              let e : q ≡ p = shape.distinct q p lq lt (ap (λ (x : Literal). x.var) (has-one l (opposite (lit_at t.steps q)) h) ∙ sym (ap (λ (x : Literal). x.var) is)) in
              subst (λ (r : ℕ). is_found_at (set m.values p v) r ≡ true) (sym e) (ap is_found_note here ∙ found));
          more = p ∷ [];
          touched = refl;
        }

-- nothing changes
pub append_none : (xs : List ℕ) → xs ≡ xs ++ []
append_none [] = refl
append_none (x ∷ xs) = ap (λ (ys : List ℕ). x ∷ ys) (append_none xs)

pub HasNoted-same : (steps : List TrailStep) (v : Note) (m : MarksData Note) (c : List Literal)
    → ((p : ℕ) → p < length steps → has c (opposite (lit_at steps p)) ≡ true → is_found_at m.values p ≡ true) → HasNoted steps v m m c
HasNoted-same steps v m c done = record { kept = λ p y. refl; only = λ p y. inl y; all = done; more = []; touched = append_none m.touched }

-- one more literal of a clause
pub HasNoted-push : (steps : List TrailStep) (v : Note) (a b d : MarksData Note) (c : List Literal) (l : Literal)
    → HasNoted steps v a b c → HasNoted steps v b d (l ∷ []) → HasNoted steps v a d (c ++ l ∷ [])
HasNoted-push steps v a b d c l x y = record {
  kept = λ p h. y.kept p (ap is_found_note (x.kept p h) ∙ h) ∙ x.kept p h;
  only = λ p h. elim (y.only p h) as (λ _. (is_found_at a.values p ≡ true) ⊎ ((note_at d.values p ≡ v) × (has (c ++ l ∷ []) (opposite (lit_at steps p)) ≡ true))) [
    | inl old ↦ elim (x.only p old) as (λ _. (is_found_at a.values p ≡ true) ⊎ ((note_at d.values p ≡ v) × (has (c ++ l ∷ []) (opposite (lit_at steps p)) ≡ true))) [
      | inl older ↦ inl older
      | inr f ↦ inr (y.kept p old ∙ f.0, has-append c (l ∷ []) (opposite (lit_at steps p)) ∙ or_left _ _ f.1)
    ]
    | inr f ↦ inr (f.0, has-append c (l ∷ []) (opposite (lit_at steps p)) ∙ or_right _ _ f.1)
  ];
  all = λ p lt h. elim (or_cases (has c (opposite (lit_at steps p))) (has (l ∷ []) (opposite (lit_at steps p))) (sym (has-append c (l ∷ []) (opposite (lit_at steps p))) ∙ h)) as (λ _. is_found_at d.values p ≡ true) [
    | inl old ↦ (let z = x.all p lt old in ap is_found_note (y.kept p z) ∙ z)
    | inr new ↦ y.all p lt new
  ];
  more = x.more ++ y.more;
  touched = y.touched ∙ ap (λ (xs : List ℕ). xs ++ y.more) x.touched ∙ append_assoc a.touched x.more y.more;
}

pub HasNoted-more : (steps : List TrailStep) (v : Note) (a b d : MarksData Note) (c : List Literal) (i : ℕ) (e : Literal) → i < length c
    → HasNoted steps v a b (take i c) → HasNoted steps v b d (get_or c i e ∷ []) → HasNoted steps v a d (take (i + 1) c)
HasNoted-more steps v a b d c i e h x y =
    subst (λ (xs : List Literal). HasNoted steps v a d xs) (sym (take_more c i e h)) (HasNoted-push steps v a b d (take i c) (get_or c i e) x y)

-- a listed place is on the trail
pub touched_in : (t : TrailData) (m : MarksData Note) (i : ℕ) → IsNoting t.steps t.vars m → i < length m.touched → get_or m.touched i 0 < length t.steps
touched_in t m i k lt = k.in_range (get_or m.touched i 0) (sym (k.listed (get_or m.touched i 0)) ∙ In_member m.touched (get_or m.touched i 0) (In_get_or m.touched i 0 lt))

flips : (x y : ℕ) → nat_eq x y ≡ nat_eq y x
flips x y = elim (cases_eq x y) as (λ _. nat_eq x y ≡ nat_eq y x) [
  | inl e ↦ eq-eqb x y e ∙ sym (eq-eqb y x (sym e))
  | inr ne ↦ ne_eqb x y ne ∙ sym (ne_eqb y x (λ e. ne (sym e)))
]

-- the order of the list doesn't matter
pub IsNoting-sorted : (steps : List TrailStep) (vars : ℕ) (m : MarksData Note) (ts : List ℕ) → IsNoting steps vars m → IsPermutation m.touched ts → IsNoting steps vars (record m { touched = ts })
IsNoting-sorted steps vars m ts k h = record {
  blank = k.blank;
  size = k.size;
  in_range = k.in_range;
  listed = λ p. sym (member_permutation m.touched ts p h) ∙ k.listed p;
  distinct = IsDistinct-IsPermutation nat_eq flips m.touched ts h k.distinct;
}
