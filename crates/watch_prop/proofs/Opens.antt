-- What the search of a clause for a literal that is not false comes to, on a trail whose values it looks at.
use Rattle.std.proofs.Common.{◌≡◌, ◌↔◌, ℕ, ◌≤◌, ◌⊎◌, ◌&&◌, Bool, true, false, not, List, [], ◌∷◌, All, Option, Some, None, IsTrue, cond, refl, sym, ap, subst, ◌∙◌, inl, inr}
use Rattle.std.specs.Prelude.{IfSome, IfNone, slice_get}
use Rattle.std.specs.List.{find}
use Rattle.std.proofs.lemmas.Bool.{or_left, or_right, or_cases, and_parts, false≢true, true≢false}
use Rattle.std.proofs.lemmas.Option.{slice_get_within, get_or_from_slice_get}
use Rattle.sat_words.specs.Literal.{Literal, opposite, same}
use Rattle.sat_words.specs.Clause.{has}
use Rattle.sat_words.specs.Values.{is_true, is_open, first_open}
use Rattle.sat_words.proofs.Members.{same-true, same-refl}
use Rattle.ring_trail.specs.declared.step.TrailStep.{TrailStep}
use Rattle.ring_trail.specs.TrailData.{IsFalseOn}
use Rattle.watch_prop.specs.Visiting.{NotFalse, IsOpenIn, AllFalseBut}
use Rattle.watch_prop.proofs.Ranks.{at_has}

-- a fact of each member, at a place
pub all_at : (P : Literal → Type 0) (c : List Literal) (i : ℕ) (l : Literal) → All P c → slice_get c i ≡ Some l → P l
all_at P c i l all e = subst P (get_or_from_slice_get c i l l e) (all i l (slice_get_within c i l e))

-- a fact of each member
all_has : (P : Literal → Type 0) (c : List Literal) (l : Literal) → All P c → has c l ≡ true → P l
all_has P c l all h = let t = at_has c l h in all_at P c t.0 l all t.2

not_true : (b : Bool) → not b ≡ true → b ≡ true → ⊥
not_true true e f = false≢true e
not_true false e f = false≢true f

-- if both tests cannot fail
one_holds : (a b : Bool) → (not a && not b) ≡ false → (a ≡ true) ⊎ (b ≡ true)
one_holds true b e = inl refl
one_holds false true e = inr refl
one_holds false false e = absurd (true≢false e)

find_has : (p : Literal → Bool) (xs : List Literal) (k : Literal) → find p xs ≡ Some k → (has xs k ≡ true) × (p k ≡ true)
find_has p [] k e = absurd (let no : ⊥ = cc in no)
find_has p (x ∷ xs) k e = by (p x) refl e (find_has p xs k)
  where
    by : (b : Bool) → p x ≡ b → cond b (Some x) (find p xs) ≡ Some k → (find p xs ≡ Some k → (has xs k ≡ true) × (p k ≡ true)) → (has (x ∷ xs) k ≡ true) × (p k ≡ true)
    by true q f rest = let is : x ≡ k = (let z : Some x ≡ Some k = f in cc) in (or_left (same k x) (has xs k) (ap (same k) is ∙ same-refl k), ap p (sym is) ∙ q)
    by false q f rest = let t = rest f in (or_right (same k x) (has xs k) t.0, t.1)

find_none : (p : Literal → Bool) (xs : List Literal) → find p xs ≡ None → (k : Literal) → has xs k ≡ true → p k ≡ false
find_none p [] e k h = absurd (false≢true h)
find_none p (x ∷ xs) e k h = by (p x) refl e h (λ f. find_none p xs f k)
  where
    by : (b : Bool) → p x ≡ b → cond b (Some x) (find p xs) ≡ None → has (x ∷ xs) k ≡ true → (find p xs ≡ None → has xs k ≡ true → p k ≡ false) → p k ≡ false
    by true q f g rest = absurd (let z : Some x ≡ None = f in (let no : ⊥ = cc in no))
    by false q f g rest =
        elim (or_cases (same k x) (has xs k) g) as (λ _. p k ≡ false) [
          | inl e ↦ ap p (same-true k x e) ∙ q
          | inr m ↦ rest f m
        ]

-- these values tell which literals are false
abbrev pub Tell : List (Option Bool) → List TrailStep → ℕ → Type 0
Tell values steps vars = (k : Literal) → k.var ≤ vars → IsTrue (is_true values (opposite k)) ↔ IsFalseOn steps k

pub found_open : (values : List (Option Bool)) (steps : List TrailStep) (vars : ℕ) (c : List Literal) (l other : Literal) (r : Option Literal) → Tell values steps vars → All (λ k. k.var ≤ vars) c → IsFalseOn steps l
    → r ≡ first_open values other c → IfSome r (IsOpenIn steps c l other)
found_open values steps vars c l other None tell on gone e = tt
found_open values steps vars c l other (Some k) tell on gone e =
    let t = find_has (is_open values other) c k (sym e) in
    let b = and_parts (not (is_true values (opposite k))) (not (same k other)) t.1 in
    let open_yet : NotFalse steps k = λ f. not_true (is_true values (opposite k)) b.0 ((tell k (all_has (λ m. m.var ≤ vars) c k on t.0)).1 f) in
    record {
      inside = t.0;
      not_l = λ q. open_yet (subst (IsFalseOn steps) (sym q) gone);
      not_other = λ q. not_true (same k other) b.1 (ap (same k) (sym q) ∙ same-refl k);
      not_false = open_yet;
    }

pub none_open : (values : List (Option Bool)) (steps : List TrailStep) (vars : ℕ) (c : List Literal) (l other : Literal) (r : Option Literal) → Tell values steps vars → All (λ k. k.var ≤ vars) c
    → r ≡ first_open values other c → IfNone r (AllFalseBut steps c l other)
none_open values steps vars c l other (Some k) tell on e = tt
none_open values steps vars c l other None tell on e = λ k h.
    elim (one_holds (is_true values (opposite k)) (same k other) (find_none (is_open values other) c (sym e) k h)) as (λ _. (k ≡ l) ⊎ ((k ≡ other) ⊎ IsFalseOn steps k)) [
      | inl f ↦ inr (inr ((tell k (all_has (λ m. m.var ≤ vars) c k on h)).0 f))
      | inr q ↦ inr (inl (same-true k other q))
    ]
