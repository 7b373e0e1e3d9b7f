-- Truth of literals and clauses if one variable changes.
use Rattle.std.proofs.Common.{◌≡◌, ◌≢◌, ℕ, ◌≤◌, zero, suc, Bool, true, false, not, List, [], ◌∷◌, cond, sym, refl, ap, ◌∙◌, inl, inr, ◌⊎◌, arith}
use Rattle.std.proofs.lemmas.Bool.{cases_Bool}
use Rattle.sat_words.specs.Literal.{Literal, opposite}
use Rattle.sat_words.specs.Clause.{has, has_opposites}
use Rattle.sat_words.specs.Truth.{value_of, with_value, lit_true, clause_true}
use Rattle.rup_model.proofs.Lists.{any_In, In_any, has_In}
use Rattle.model_stack.specs.Extend.{made_true}

pub value_of-with_value : (a : List Bool) (v : ℕ) (x : Bool) → 1 ≤ v → value_of (with_value a v x) v ≡ x
value_of-with_value a zero x h = absurd (omega arith)
value_of-with_value [] (suc zero) x h = refl
value_of-with_value (y ∷ a) (suc zero) x h = refl
value_of-with_value [] (suc (suc v)) x h = value_of-with_value [] (suc v) x (omega arith)
value_of-with_value (y ∷ a) (suc (suc v)) x h = value_of-with_value a (suc v) x (omega arith)

pub value_of-with_value_other : (a : List Bool) (v : ℕ) (x : Bool) (w : ℕ) → w ≢ v → value_of (with_value a v x) w ≡ value_of a w
value_of-with_value_other a zero x w ne = refl
value_of-with_value_other [] (suc zero) x zero ne = refl
value_of-with_value_other [] (suc zero) x (suc zero) ne = absurd (ne refl)
value_of-with_value_other [] (suc zero) x (suc (suc w)) ne = refl
value_of-with_value_other (y ∷ a) (suc zero) x zero ne = refl
value_of-with_value_other (y ∷ a) (suc zero) x (suc zero) ne = absurd (ne refl)
value_of-with_value_other (y ∷ a) (suc zero) x (suc (suc w)) ne = refl
value_of-with_value_other [] (suc (suc v)) x zero ne = refl
value_of-with_value_other [] (suc (suc v)) x (suc zero) ne = refl
value_of-with_value_other [] (suc (suc v)) x (suc (suc w)) ne = value_of-with_value_other [] (suc v) x (suc w) (λ e. ne (ap suc e))
value_of-with_value_other (y ∷ a) (suc (suc v)) x zero ne = refl
value_of-with_value_other (y ∷ a) (suc (suc v)) x (suc zero) ne = refl
value_of-with_value_other (y ∷ a) (suc (suc v)) x (suc (suc w)) ne = value_of-with_value_other a (suc v) x (suc w) (λ e. ne (ap suc e))

-- the same truth for the literals of all other variables
abbrev pub Agree : Literal → List Bool → List Bool → Type 0
Agree x a b = (l : Literal) → l.var ≢ x.var → lit_true b l ≡ lit_true a l

pub agree_made_true : (x : Literal) (a : List Bool) → Agree x a (made_true a x)
agree_made_true x a l ne = ap (λ (v : Bool). cond l.neg (not v) v) (value_of-with_value_other a x.var (not x.neg) l.var ne)

pub true_made_true : (a : List Bool) (x : Literal) → 1 ≤ x.var → lit_true (made_true a x) x ≡ true
true_made_true a x pos =
    ap (λ (v : Bool). cond x.neg (not v) v) (value_of-with_value a x.var (not x.neg) pos) ∙ itself x.neg
  where
    itself : (n : Bool) → cond n (not (not n)) (not n) ≡ true
    itself true = refl
    itself false = refl

pub lit_true-opposite : (a : List Bool) (l : Literal) → lit_true a (opposite l) ≡ not (lit_true a l)
lit_true-opposite a l = by l.neg (value_of a l.var)
  where
    by : (n v : Bool) → cond (not n) (not v) v ≡ not (cond n (not v) v)
    by true true = refl
    by true false = refl
    by false true = refl
    by false false = refl

-- a literal of the variable is the one or the other
pub lit_cases : (x l : Literal) → l.var ≡ x.var → (l ≡ x) ⊎ (l ≡ opposite x)
lit_cases x l e = by l.neg x.neg refl refl
  where
    by : (m n : Bool) → l.neg ≡ m → x.neg ≡ n → (l ≡ x) ⊎ (l ≡ opposite x)
    by true true p q = inl (λ i. record { var = e i; neg = both p q i })
      where
        both : l.neg ≡ true → x.neg ≡ true → l.neg ≡ x.neg
        both p q = p ∙ sym q
    by true false p q = inr (λ i. record { var = e i; neg = both p q i })
      where
        both : l.neg ≡ true → x.neg ≡ false → l.neg ≡ not x.neg
        both p q = p ∙ sym (ap not q)
    by false true p q = inr (λ i. record { var = e i; neg = both p q i })
      where
        both : l.neg ≡ false → x.neg ≡ true → l.neg ≡ not x.neg
        both p q = p ∙ sym (ap not q)
    by false false p q = inl (λ i. record { var = e i; neg = both p q i })
      where
        both : l.neg ≡ false → x.neg ≡ false → l.neg ≡ x.neg
        both p q = p ∙ sym q

-- a tautology is true
pub true_opposites : (a : List Bool) (c : List Literal) → has_opposites c ≡ true → clause_true a c ≡ true
true_opposites a c h =
    let t = In_any (λ l. has c (opposite l)) c h in
    elim (cases_Bool (lit_true a t.0)) as (λ _. clause_true a c ≡ true) [
      | inl e ↦ any_In (lit_true a) c t.0 t.1 e
      | inr e ↦ any_In (lit_true a) c (opposite t.0) (has_In c (opposite t.0) t.2) (lit_true-opposite a t.0 ∙ ap not e)
    ]
