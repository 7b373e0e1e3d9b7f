-- Truth of clauses without a variable, and members of joined lists.
use Rattle.std.proofs.Common.{◌≡◌, ◌≢◌, Bool, true, false, List, [], ◌∷◌, ◌++◌, sym, refl, ap, subst, ◌∙◌, inl, inr}
use Rattle.std.specs.List.{flat_map}
use Rattle.std.proofs.lemmas.Bool.{true≢false}
use Rattle.sat_words.specs.Literal.{Literal, opposite}
use Rattle.sat_words.specs.Clause.{has}
use Rattle.sat_words.specs.Truth.{lit_true, clause_true}
use Rattle.rup_model.proofs.Lists.{In, any_In, In_any, has_In, In_has, In_append}
use Rattle.simp_base.proofs.Truths.{Agree, lit_cases}

-- no literal of the variable
abbrev pub Apart : Literal → List Literal → Type 0
Apart x c = (l : Literal) → In l c → l.var ≢ x.var

pub apart_has : (x : Literal) (c : List Literal) → has c x ≡ false → has c (opposite x) ≡ false → Apart x c
apart_has x c no_x no_not l inC e =
    elim (lit_cases x l e) as (λ _. ⊥) [
      | inl s ↦ true≢false (sym (In_has c l inC) ∙ ap (has c) s ∙ no_x)
      | inr s ↦ true≢false (sym (In_has c l inC) ∙ ap (has c) s ∙ no_not)
    ]

pub true_apart : (x : Literal) (a b : List Bool) (c : List Literal) → Agree x a b → Apart x c → clause_true a c ≡ true → clause_true b c ≡ true
true_apart x a b c agree apart h =
    let t = In_any (lit_true a) c h in
    any_In (lit_true b) c t.0 t.1 (agree t.0 (apart t.0 t.1) ∙ t.2)

pub true_has : (a : List Bool) (c : List Literal) (l : Literal) → has c l ≡ true → lit_true a l ≡ true → clause_true a c ≡ true
true_has a c l h e = any_In (lit_true a) c l (has_In c l h) e

-- Members of joined lists

left : {Y : Type 0} (us vs : List Y) (y : Y) → In y us → In y (us ++ vs)
left [] vs y h = absurd h
left (u ∷ us) vs y (inl e) = inl e
left (u ∷ us) vs y (inr h) = inr (left us vs y h)

right : {Y : Type 0} (us vs : List Y) (y : Y) → In y vs → In y (us ++ vs)
right [] vs y h = h
right (u ∷ us) vs y h = inr (right us vs y h)

pub In_flat : {X Y : Type 0} (f : X → List Y) (xs : List X) (x : X) (y : Y) → In x xs → In y (f x) → In y (flat_map f xs)
In_flat f [] x y h k = absurd h
In_flat {X} f (z ∷ zs) x y (inl e) k = left (f z) (flat_map f zs) y (subst (λ (w : X). In y (f w)) (sym e) k)
In_flat f (z ∷ zs) x y (inr h) k = right (f z) (flat_map f zs) y (In_flat f zs x y h k)

pub flat_In : {X Y : Type 0} (f : X → List Y) (xs : List X) (y : Y) → In y (flat_map f xs) → (x : X) × In x xs × In y (f x)
flat_In f [] y h = absurd h
flat_In {X} f (z ∷ zs) y h =
    elim (In_append (f z) (flat_map f zs) y h) as (λ _. (x : X) × In x (z ∷ zs) × In y (f x)) [
      | inl k ↦ (z, inl refl, k)
      | inr k ↦ (let t = flat_In f zs y k in (t.0, inr t.1, t.2))
    ]
