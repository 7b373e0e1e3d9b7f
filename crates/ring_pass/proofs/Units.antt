-- Lists of units, some of which are left out.
use Rattle.std.proofs.Common.{◌≡◌, ℕ, zero, suc, Bool, true, false, not, List, [], ◌∷◌, if◌then◌else◌, take, drop, refl, sym, ap, subst, ◌∙◌, inl, inr}
use Rattle.std.specs.List.{filter}
use Rattle.std.proofs.lemmas.Bool.{false≢true, and_parts}
use Rattle.sat_words.specs.Literal.{Literal}
use Rattle.sat_words.specs.Clause.{has, distinct_lits}
use Rattle.rup_model.proofs.Lists.{In, has_In, In_has}

-- what a filter leaves stood there
pub filter_In : (p : Literal → Bool) (xs : List Literal) (l : Literal) → In l (filter p xs) → In l xs
filter_In p [] l i = i
filter_In p (x ∷ xs) l i = by (filter_In p xs l) (p x) i
  where
    by : (In l (filter p xs) → In l xs) → (b : Bool) → In l (if b then x ∷ filter p xs else filter p xs) → In l (x ∷ xs)
    by again true (inl e) = inl e
    by again true (inr k) = inr (again k)
    by again false k = inr (again k)

-- and it leaves what passes
pub In_filter : (p : Literal → Bool) (xs : List Literal) (l : Literal) → In l xs → p l ≡ true → In l (filter p xs)
In_filter p [] l i h = i
In_filter p (x ∷ xs) l (inl e) h = subst (λ (b : Bool). In l (if b then x ∷ filter p xs else filter p xs)) (sym (ap p e ∙ h)) (inl e)
In_filter p (x ∷ xs) l (inr k) h = by (p x) (In_filter p xs l k h)
  where
    by : (b : Bool) → In l (filter p xs) → In l (if b then x ∷ filter p xs else filter p xs)
    by true i = inr i
    by false i = i

-- fronts and rests of a list stand in it
pub take_In : (n : ℕ) (xs : List Literal) (l : Literal) → In l (take n xs) → In l xs
take_In zero xs l i = absurd i
take_In (suc n) [] l i = i
take_In (suc n) (x ∷ xs) l (inl e) = inl e
take_In (suc n) (x ∷ xs) l (inr k) = inr (take_In n xs l k)

pub drop_In : (n : ℕ) (xs : List Literal) (l : Literal) → In l (drop n xs) → In l xs
drop_In zero xs l i = i
drop_In (suc n) [] l i = i
drop_In (suc n) (x ∷ xs) l i = inr (drop_In n xs l i)

-- the first of a list without repeats is not among the others
pub head_else : (x : Literal) (xs : List Literal) → distinct_lits (x ∷ xs) ≡ true → has xs x ≡ false
head_else x xs d = by (has xs x) (and_parts (not (has xs x)) (distinct_lits xs) d).0
  where
    by : (b : Bool) → not b ≡ true → b ≡ false
    by true e = absurd (false≢true e)
    by false e = refl

rest_distinct : (x : Literal) (xs : List Literal) → distinct_lits (x ∷ xs) ≡ true → distinct_lits xs ≡ true
rest_distinct x xs d = (and_parts (not (has xs x)) (distinct_lits xs) d).1

-- front and rest of a list without repeats have nothing in common
pub parts_apart : (n : ℕ) (xs : List Literal) (l : Literal) → distinct_lits xs ≡ true → In l (take n xs) → In l (drop n xs) → ⊥
parts_apart zero xs l d i j = i
parts_apart (suc n) [] l d i j = i
parts_apart (suc n) (x ∷ xs) l d (inl e) j = false≢true (sym (head_else x xs d) ∙ ap (has xs) e ∙ In_has xs l (drop_In n xs l j))
parts_apart (suc n) (x ∷ xs) l d (inr k) j = parts_apart n xs l (rest_distinct x xs d) k j

-- so what is in the front is left when the rest is left out
pub front_left : (n : ℕ) (xs seen : List Literal) (l : Literal) → distinct_lits xs ≡ true → In l (take n xs) → has seen l ≡ true → has (filter (λ k. not (has (drop n xs) k)) seen) l ≡ true
front_left n xs seen l d i h = In_has (filter (λ k. not (has (drop n xs) k)) seen) l (In_filter (λ k. not (has (drop n xs) k)) seen l (has_In seen l h) (by (has (drop n xs) l) refl))
  where
    by : (b : Bool) → has (drop n xs) l ≡ b → not b ≡ true
    by true e = absurd (parts_apart n xs l d i (has_In (drop n xs) l e))
    by false e = refl
