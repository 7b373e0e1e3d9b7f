-- How many copies of a clause there are.
use Rattle.std.proofs.Common.{◌≡◌, ◌+◌, ◌<◌, Bool, true, false, cond, List, [], ◌∷◌, refl, sym, ap, subst, inl, inr, arith}
use Rattle.std.specs.List.{list_any}
use Rattle.std.proofs.lemmas.Bool.{cases_Bool}
use Rattle.std.proofs.lemmas.List.Sums.{sum_by-cons}
use Rattle.sat_words.specs.Literal.{Literal}
use Rattle.sat_words.specs.Clause.{same_set}
use Rattle.rup_model.specs.Basics.{one_if}
use Rattle.rup_model.specs.Log.{copies, without_copy}
use Rattle.rup_model.proofs.Lists.{In, any_In}
use Rattle.rup_model.proofs.Covers.{same_as}

pub copies-cons : (c d : List Literal) (G : List (List Literal)) → copies c (d ∷ G) ≡ one_if (same_set c d) + copies c G
copies-cons c d G = sum_by-cons (λ (e : List Literal). one_if (same_set c e)) d G

pub copies_some : (c : List Literal) (G : List (List Literal)) → 0 < copies c G → (d : List Literal) × In d G × (same_set c d ≡ true)
copies_some c [] h = absurd (omega arith)
copies_some c (d ∷ G) h = elim (cases_Bool (same_set c d)) as (λ _. (e : List Literal) × In e (d ∷ G) × (same_set c e ≡ true)) [
  | inl e ↦ (d, inl refl, e)
  | inr n ↦ (let z : one_if (same_set c d) ≡ 0 = ap one_if n in let t = copies_some c G (let k = copies-cons c d G in omega arith) in (t.0, inr t.1, t.2))
]

pub copies_any : (c : List Literal) (G : List (List Literal)) → 0 < copies c G → list_any (same_set c) G ≡ true
copies_any c G h = let t = copies_some c G h in any_In (same_set c) G t.0 t.1 t.2

-- a copy less of a is a copy less of each clause with the literals of a
pub copies_without : (a c : List Literal) (G : List (List Literal)) → 0 < copies a G → copies c (without_copy a G) + one_if (same_set c a) ≡ copies c G
copies_without a c [] h = absurd (omega arith)
copies_without a c (d ∷ G) h = elim (cases_Bool (same_set a d)) as (λ _. copies c (without_copy a (d ∷ G)) + one_if (same_set c a) ≡ copies c (d ∷ G)) [
  | inl e ↦ subst (λ t. copies c (cond t G (d ∷ without_copy a G)) + one_if (same_set c a) ≡ copies c (d ∷ G)) (sym e)
      (let s : one_if (same_set c a) ≡ one_if (same_set c d) = ap one_if (same_as c a d e) in let k = copies-cons c d G in omega arith)
  | inr n ↦ (let z : one_if (same_set a d) ≡ 0 = ap one_if n in
      let r = copies_without a c G (let k = copies-cons a d G in omega arith) in
      subst (λ t. copies c (cond t G (d ∷ without_copy a G)) + one_if (same_set c a) ≡ copies c (d ∷ G)) (sym n) (let k = copies-cons c d G in let j = copies-cons c d (without_copy a G) in omega arith))
]

-- what is left was there
pub without_copy_In : (c : List Literal) (G : List (List Literal)) (d : List Literal) → In d (without_copy c G) → In d G
without_copy_In c [] d h = h
without_copy_In c (e ∷ G) d h = by (same_set c e) (without_copy_In c G d) h
  where
    by : (t : Bool) → (In d (without_copy c G) → In d G) → In d (cond t G (e ∷ without_copy c G)) → In d (e ∷ G)
    by true rec k = inr k
    by false rec (inl q) = inl q
    by false rec (inr k) = inr (rec k)
