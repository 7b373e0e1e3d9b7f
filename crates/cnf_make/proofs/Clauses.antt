-- The clauses of a made formula, one by one, and their truth under the hidden values.
use Rattle.std.proofs.Common.{◌≡◌, ◌∙◌, ℕ, zero, suc, ◌+◌, ◌/◌, ◌%◌, ◌<◌, Bool, true, false, not, ◌||◌, cond, List, [], ◌∷◌, ◌++◌, refl, sym, ap, arith, append_assoc, inl, inr}
use Rattle.std.proofs.lemmas.Bool.{cases_Bool}
use Rattle.rand_pcg.specs.Lcg.{Lcg}
use Rattle.sat_words.specs.Literal.{Literal, opposite}
use Rattle.sat_words.specs.Clause.{has, clause_of}
use Rattle.sat_words.specs.Truth.{value_of, lit_true, clause_true, formula_true}
use Rattle.cnf_make.specs.Made.{draw_of, behind_draw, first_lit, second_lit, third_lit, with_negated, mended, planted, clauses_from}

pub clauses-zero : (h : List Bool) (g : Lcg) → clauses_from h g 0 ≡ []
unfolding clauses_from
clauses-zero h g = refl

clauses-suc : (h : List Bool) (g : Lcg) (n : ℕ) → clauses_from h g (suc n) ≡ clause_of (planted h (draw_of g)) ∷ clauses_from h (behind_draw g) n
unfolding clauses_from
clauses-suc h g n = refl

-- one clause more was drawn
pub clauses-next : (h : List Bool) (start g k : Lcg) (done : List (List Literal)) (c : List Literal) (i : ℕ) → c ≡ clause_of (planted h (draw_of g)) → k ≡ behind_draw g
    → ((m : ℕ) → clauses_from h start (i + m) ≡ done ++ clauses_from h g m) → (m : ℕ) → clauses_from h start (i + 1 + m) ≡ (done ++ c ∷ []) ++ clauses_from h k m
clauses-next h start g k done c i ce ke before m =
    let e : i + 1 + m ≡ i + suc m = omega arith in
    ap (clauses_from h start) e ∙ before (suc m) ∙ ap (λ (xs : List (List Literal)). done ++ xs) (clauses-suc h g m)
    ∙ ap (λ (x : List Literal). done ++ x ∷ clauses_from h (behind_draw g) m) (sym ce)
    ∙ ap (λ (x : Lcg). done ++ c ∷ clauses_from h x m) (sym ke)
    ∙ sym (append_assoc done (c ∷ []) (clauses_from h k m))

flipped : (b v : Bool) → cond b (not v) v ≡ false → cond (not b) (not v) v ≡ true
flipped true true e = refl
flipped true false e = sym e
flipped false true e = sym e
flipped false false e = refl

-- the negation of a false literal is true
opposite_true : (h : List Bool) (l : Literal) → lit_true h l ≡ false → lit_true h (opposite l) ≡ true
opposite_true h l e = flipped l.neg (value_of h l.var) e

or_true : (a b : Bool) → b ≡ true → a || b ≡ true
or_true true b e = refl
or_true false b e = e

first_false : (a b : Bool) → a || b ≡ false → a ≡ false
first_false true b e = e
first_false false b e = refl

rest_false : (a b : Bool) → a || b ≡ false → b ≡ false
rest_false true b e = absurd (let z : true ≡ false = e in cc)
rest_false false b e = e

-- the hidden values make a clause true, as drawn or with one literal negated
mended_true : (h : List Bool) (a b c : Literal) (place : ℕ) → place < 3 → clause_true h (mended h a b c place) ≡ true
mended_true h a b c place lt =
    elim (cases_Bool (clause_true h (a ∷ b ∷ c ∷ []))) as (λ _. clause_true h (mended h a b c place) ≡ true) [
      | inl holds ↦ rw holds holds
      | inr fails ↦ (
          let fa : lit_true h a ≡ false = first_false _ _ fails in
          let no2 = rest_false (lit_true h a) _ fails in
          let fb : lit_true h b ≡ false = first_false _ _ no2 in
          let no3 = rest_false (lit_true h b) _ no2 in
          let fc : lit_true h c ≡ false = first_false _ _ no3 in
          rw fails (at_place place lt fa fb fc))
    ]
  where
    at_place : (k : ℕ) → k < 3 → lit_true h a ≡ false → lit_true h b ≡ false → lit_true h c ≡ false → clause_true h (with_negated a b c k) ≡ true
    at_place zero lt fa fb fc = rw (opposite_true h a fa) refl
    at_place (suc zero) lt fa fb fc = or_true (lit_true h a) _ (rw (opposite_true h b fb) refl)
    at_place (suc (suc zero)) lt fa fb fc = or_true (lit_true h a) _ (or_true (lit_true h b) _ (rw (opposite_true h c fc) refl))
    at_place (suc (suc (suc k))) lt fa fb fc = absurd (omega arith)

pub clauses-true : (h : List Bool)
    → ((c : List Literal) (l : Literal) → has (clause_of c) l ≡ has c l)
    → ((a : List Bool) (c d : List Literal) → ((l : Literal) → has c l ≡ has d l) → clause_true a c ≡ clause_true a d)
    → (n : ℕ) (g : Lcg) → formula_true h (clauses_from h g n) ≡ true
unfolding clauses_from
clauses-true h members same zero g = refl
clauses-true h members same (suc n) g =
    let d = draw_of g in
    let lt : d.signs / 8 % 3 < 3 = omega arith in
    let t : clause_true h (clause_of (planted h d)) ≡ true = same h (clause_of (planted h d)) (planted h d) (members (planted h d)) ∙ mended_true h (first_lit d) (second_lit d) (third_lit d) (d.signs / 8 % 3) lt in
    rw t (clauses-true h members same n (behind_draw g))
