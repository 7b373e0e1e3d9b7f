-- The values of the first variables, and what is true by them.
use Rattle.std.proofs.Common.{◌≡◌, ◌∙◌, ◌+◌, ◌-◌, ◌<◌, ◌≤◌, ◌&&◌, ◌||◌, ℕ, zero, suc, Bool, false, List, [], ◌∷◌, ◌++◌, length, take, set, get_or, refl, sym, ap, arith}
use Rattle.std.specs.Prelude.{All, not, if◌then◌else◌}
use Rattle.std.proofs.lemmas.List.{length-set, get_or-take, take_more, take_more_set, take_all}
use Rattle.sat_words.specs.Literal.{Literal, IsOn}
use Rattle.sat_words.specs.Truth.{value_of, lit_true, clause_true, formula_true}

-- Values that are taken over one after another

pub cut_next : (values model new : List Bool) (taken vars : ℕ) (x : Bool) → taken < vars → vars ≤ length model → length values ≡ vars → take taken values ≡ take taken model
    → x ≡ value_of model (taken + 1) → new ≡ set values (taken + 1 - 1) x → (length new ≡ vars) × (take (taken + 1) new ≡ take (taken + 1) model)
cut_next values model new taken vars x lt le long same is put =
    let there : taken + 1 - 1 ≡ taken = omega arith in
    let next : taken + 1 ≡ suc taken = omega arith in
    let put_there : new ≡ set values taken x = put ∙ ap (λ (n : ℕ). set values n x) there in
    let value_is : x ≡ get_or model taken false = is ∙ ap (value_of model) next in (
      ap length put_there ∙ length-set values taken x ∙ long,
      ap (take (taken + 1)) put_there ∙ take_more_set values taken x (omega (arith, lt, long)) ∙ ap (λ (xs : List Bool). xs ++ x ∷ []) same
          ∙ ap (λ (y : Bool). take taken model ++ y ∷ []) value_is ∙ sym (take_more model taken false (omega (arith, lt, le))),
    )

pub cut_all : (values model : List Bool) (taken vars : ℕ) → taken ≡ vars → length values ≡ vars → take taken values ≡ take taken model → values ≡ take vars model
cut_all values model taken vars at long same = sym (take_all taken values (omega (arith, at, long))) ∙ same ∙ ap (λ (n : ℕ). take n model) at

-- What is true of literals on the first variables

value_cut : (n : ℕ) (a : List Bool) (v : ℕ) → v ≤ n → value_of (take n a) v ≡ value_of a v
value_cut n a zero le = refl
value_cut n a (suc v) le = get_or-take n a v false (omega arith)

lit_cut : (n : ℕ) (a : List Bool) (l : Literal) → IsOn n l → lit_true (take n a) l ≡ lit_true a l
lit_cut n a l on = ap (λ (x : Bool). if l.neg then not x else x) (value_cut n a l.var on.high)

clause_cut : (n : ℕ) (a : List Bool) (c : List Literal) → All (IsOn n) c → clause_true (take n a) c ≡ clause_true a c
clause_cut n a [] on = refl
clause_cut n a (l ∷ c) on = λ i. lit_cut n a l (on 0 l (omega arith)) i || clause_cut n a c (λ k d lt. on (suc k) d (omega arith)) i

-- other variables do not matter
pub formula_cut : (n : ℕ) (a : List Bool) (F : List (List Literal)) → All (All (IsOn n)) F → formula_true (take n a) F ≡ formula_true a F
formula_cut n a [] on = refl
formula_cut n a (c ∷ F) on = λ i. clause_cut n a c (on 0 c (omega arith)) i && formula_cut n a F (λ k d lt. on (suc k) d (omega arith)) i
