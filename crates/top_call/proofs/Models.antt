-- A model without values for variables that don't occur.
use Rattle.std.proofs.Common.{◌≡◌, ◌≢◌, ℕ, zero, suc, ◌+◌, ◌-◌, ◌<◌, ◌≤◌, ◌==◌, Bool, true, false, not, ◌||◌, ◌&&◌, List, [], ◌∷◌, ◌++◌, length, take, get_or, replicate, refl, sym, ap, ◌∙◌, subst, inl, inr, arith, length-set, eq-eqb, cond}
use Rattle.std.specs.List.{list_any}
use Rattle.std.proofs.Math.ListN.{set}
use Rattle.std.proofs.lemmas.Bool.{cases_Bool, cases_lt}
use Rattle.std.proofs.lemmas.List.{take_more, get_or-set_same, get_or-set_other}
use Rattle.sat_words.specs.Literal.{Literal}
use Rattle.sat_words.specs.Truth.{value_of, lit_true, clause_true}
use Rattle.sat_words.specs.FormulaData.{FormulaData}
use Rattle.rup_model.proofs.Lists.{any_In, In_any, all_In, In_all}
use Rattle.portfolio_run.specs.Solved.{IsModel}
use Rattle.top_call.specs.Decided.{mentions, IsClearedModel}
use Rattle.top_call.specs.Occurring.{Marks, IsOccurring, IsBoth}

any-append : {X : Type 0} (p : X → Bool) (xs ys : List X) → list_any p (xs ++ ys) ≡ list_any p xs || list_any p ys
any-append p [] ys = refl
any-append p (x ∷ xs) ys = ap (λ b. p x || b) (any-append p xs ys) ∙ regroup (p x) (list_any p xs) (list_any p ys)
  where
    regroup : (x y z : Bool) → x || (y || z) ≡ (x || y) || z
    regroup true y z = refl
    regroup false y z = refl

any-next : {X : Type 0} (p : X → Bool) (xs : List X) (i : ℕ) (x : X) → i < length xs → x ≡ get_or xs i x → list_any p (take (i + 1) xs) ≡ list_any p (take i xs) || p x
any-next p xs i x at is =
    ap (list_any p) (take_more xs i x at)
    ∙ any-append p (take i xs) (get_or xs i x ∷ [])
    ∙ ap (λ y. list_any p (take i xs) || (p y || false)) (sym is)
    ∙ shape (list_any p (take i xs)) (p x)
  where
    shape : (a b : Bool) → a || (b || false) ≡ a || b
    shape true b = refl
    shape false true = refl
    shape false false = refl

-- an assignment with one value set

value-set_same : (a : List Bool) (v : ℕ) (x : Bool) → 1 ≤ v → v ≤ length a → value_of (set a (v - 1) x) v ≡ x
value-set_same a v x low high =
    let e : v ≡ suc (v - 1) = omega arith in
    ap (λ (w : ℕ). value_of (set a (v - 1) x) w) e ∙ get_or-set_same a (v - 1) x false (omega arith)

value-set_other : (a : List Bool) (v w : ℕ) (x : Bool) → 1 ≤ v → w ≢ v → value_of (set a (v - 1) x) w ≡ value_of a w
value-set_other a v zero x low ne = refl
value-set_other a v (suc w) x low ne = get_or-set_other a (v - 1) w x false (λ e. ne (omega arith))

eqb_same : (v w : ℕ) → (v == w) ≡ true → v ≡ w
eqb_same v w e = grind arith

or_none : (b : Bool) → b ≡ (b || false)
or_none true = refl
or_none false = refl

or_true : (b : Bool) → (b || true) ≡ true
or_true true = refl
or_true false = refl

pub marks_start : (old : List Bool) → Marks [] old old
marks_start old = record { long = refl; value = λ v. or_none (value_of old v) }

pub marks_next : (c : List Literal) (old new : List Bool) (i : ℕ) (l : Literal) → i < length c → l ≡ get_or c i l → 1 ≤ l.var → l.var ≤ length old
    → Marks (take i c) old new → Marks (take (i + 1) c) old (set new (l.var - 1) true)
marks_next c old new i l at is low high s =
    let within : l.var ≤ length new = omega (arith, s.long) in
    record {
      long = length-set new (l.var - 1) true ∙ s.long;
      value = λ v. elim (cases_Bool (l.var == v)) as (λ _. value_of (set new (l.var - 1) true) v ≡ (value_of old v || mentions (take (i + 1) c) v)) [
        | inl e ↦ (let same_var = eqb_same l.var v e in
            subst (λ (w : ℕ). value_of (set new (l.var - 1) true) w ≡ true) same_var (value-set_same new l.var true low within)
            ∙ sym (ap (λ (b : Bool). value_of old v || b) (any-next (λ k. k.var == v) c i l at is ∙ ap (λ (b : Bool). mentions (take i c) v || b) e ∙ or_true (mentions (take i c) v)) ∙ or_true (value_of old v)))
        | inr n ↦ value-set_other new l.var v true low (apart v n) ∙ s.value v
            ∙ ap (λ (b : Bool). value_of old v || b) (or_none (mentions (take i c) v) ∙ ap (λ (b : Bool). mentions (take i c) v || b) (sym n) ∙ sym (any-next (λ k. k.var == v) c i l at is))
      ];
    }
  where
    apart : (v : ℕ) → (l.var == v) ≡ false → v ≢ l.var
    apart v n e = grind arith

value-none : (n v : ℕ) → value_of (replicate n false) v ≡ false
value-none n zero = refl
value-none zero (suc v) = refl
value-none (suc n) (suc zero) = refl
value-none (suc n) (suc (suc v)) = value-none n (suc v)

length-none : (n : ℕ) → length (replicate n false) ≡ n
length-none zero = refl
length-none (suc n) = ap suc (length-none n)

pub occurring_start : (vars : ℕ) → IsOccurring [] vars (replicate vars false)
occurring_start vars = record { long = length-none vars; value = λ v. value-none vars v }

pub occurring_next : (cs : List (List Literal)) (vars : ℕ) (old new : List Bool) (i : ℕ) (c : List Literal) → i < length cs → c ≡ get_or cs i c
    → IsOccurring (take i cs) vars old → Marks c old new → IsOccurring (take (i + 1) cs) vars new
occurring_next cs vars old new i c at is m s = record {
  long = s.long ∙ m.long;
  value = λ v. s.value v ∙ ap (λ (b : Bool). b || mentions c v) (m.value v) ∙ sym (any-next (λ d. mentions d v) cs i c at is);
}

-- values taken over up to a variable

pub record TakenBelow (n : ℕ) (occurring from model : List Bool) : Type 0 where
  pub long : length model ≡ length occurring
  pub taken : (v : ℕ) → v < n → value_of model v ≡ (value_of occurring v && value_of from v)
  pub rest : (v : ℕ) → n ≤ v → value_of model v ≡ value_of occurring v

pub taken_start : (occurring from : List Bool) → TakenBelow 1 occurring from occurring
taken_start occurring from = record { long = refl; taken = first; rest = λ v h. refl }
  where
    first : (v : ℕ) → v < 1 → value_of occurring v ≡ (value_of occurring v && value_of from v)
    first zero h = refl
    first (suc v) h = absurd (omega arith)

pub taken_set : (n : ℕ) (occurring from model : List Bool) → 1 ≤ n → n ≤ length model → value_of model n ≡ true → TakenBelow n occurring from model → TakenBelow (n + 1) occurring from (set model (n - 1) (value_of from n))
taken_set n occurring from model low high here s =
    let x : Bool = value_of from n in
    record {
      long = length-set model (n - 1) x ∙ s.long;
      taken = λ v h. elim (cases_lt v n) as (λ _. value_of (set model (n - 1) x) v ≡ (value_of occurring v && value_of from v)) [
        | inl lt ↦ value-set_other model n v x low (λ e. absurd (omega arith)) ∙ s.taken v lt
        | inr le ↦ (let same_var : n ≡ v = omega (arith, h, le) in
            subst (λ (w : ℕ). value_of (set model (n - 1) x) w ≡ (value_of occurring w && value_of from w)) same_var
            (value-set_same model n x low high ∙ ap (λ (b : Bool). b && x) (sym here ∙ s.rest n (omega arith))))
      ];
      rest = λ v h. value-set_other model n v x low (λ e. absurd (omega arith)) ∙ s.rest v (omega arith);
    }

pub taken_skip : (n : ℕ) (occurring from model : List Bool) → value_of model n ≡ false → TakenBelow n occurring from model → TakenBelow (n + 1) occurring from model
taken_skip n occurring from model here s = record {
  long = s.long;
  taken = λ v h. elim (cases_lt v n) as (λ _. value_of model v ≡ (value_of occurring v && value_of from v)) [
    | inl lt ↦ s.taken v lt
    | inr le ↦ (let same_var : n ≡ v = omega (arith, h, le) in
        subst (λ (w : ℕ). value_of model w ≡ (value_of occurring w && value_of from w)) same_var
        (here ∙ ap (λ (b : Bool). b && value_of from n) (sym here ∙ s.rest n (omega arith))))
  ];
  rest = λ v h. s.rest v (omega arith);
}

value_past : (a : List Bool) (v : ℕ) → length a < v → value_of a v ≡ false
value_past a zero h = refl
value_past [] (suc v) h = refl
value_past (x ∷ a) (suc zero) h = absurd (omega arith)
value_past (x ∷ a) (suc (suc v)) h = value_past a (suc v) (omega arith)

pub taken_all : (n : ℕ) (occurring from model : List Bool) → length occurring < n → TakenBelow n occurring from model → IsBoth occurring from model
taken_all n occurring from model past s = record {
  long = s.long;
  value = λ v. elim (cases_lt v n) as (λ _. value_of model v ≡ (value_of occurring v && value_of from v)) [
    | inl lt ↦ s.taken v lt
    | inr le ↦ s.rest v le ∙ value_past occurring v (omega arith) ∙ ap (λ (b : Bool). b && value_of from v) (sym (value_past occurring v (omega arith)))
  ];
}

-- truth depends on the variables that occur alone

same_truth : (a m : List Bool) (l : Literal) → value_of m l.var ≡ value_of a l.var → lit_true a l ≡ true → lit_true m l ≡ true
same_truth a m l e t = by l.neg (value_of a l.var) (value_of m l.var) e t
  where
    by : (n x y : Bool) → y ≡ x → cond n (not x) x ≡ true → cond n (not y) y ≡ true
    by n x y e t = subst (λ (z : Bool). cond n (not z) z ≡ true) (sym e) t

-- a model is one also without values for variables that don't occur
pub cleared : (formula : FormulaData) (occurring a m : List Bool) → IsModel formula a → IsOccurring formula.clauses formula.vars occurring → IsBoth occurring a m → IsClearedModel formula m
cleared formula occurring a m model o w = record {
  is_model = record {
    holds = In_all (clause_true m) formula.clauses (λ c i.
        (let h = In_any (lit_true a) c (all_In (clause_true a) formula.clauses c model.holds i) in
        let mentioned = any_In (λ (k : Literal). k.var == h.0.var) c h.0 h.1 (eq-eqb h.0.var h.0.var refl) in
        let there = any_In (λ (d : List Literal). mentions d h.0.var) formula.clauses c i mentioned in
        any_In (lit_true m) c h.0 h.1 (same_truth a m h.0 (w.value h.0.var ∙ ap (λ (b : Bool). b && value_of a h.0.var) (o.value h.0.var ∙ there)) h.2)));
    long = w.long ∙ o.long;
  };
  idle = λ v none. w.value v ∙ ap (λ (b : Bool). b && value_of a v) (o.value v ∙ none);
}

-- the values of one assignment if another is true, all others false
pub both : List Bool → List Bool → List Bool
both [] from = []
both (x ∷ xs) [] = false ∷ both xs []
both (x ∷ xs) (y ∷ ys) = (x && y) ∷ both xs ys

both_long : (o from : List Bool) → length (both o from) ≡ length o
unfolding both
both_long [] from = refl
both_long (x ∷ xs) [] = ap suc (both_long xs [])
both_long (x ∷ xs) (y ∷ ys) = ap suc (both_long xs ys)

and_false : (x : Bool) → (x && false) ≡ false
and_false true = refl
and_false false = refl

both_at : (o from : List Bool) (v : ℕ) → value_of (both o from) (suc v) ≡ (value_of o (suc v) && value_of from (suc v))
unfolding both
both_at [] from v = refl
both_at (x ∷ xs) [] zero = sym (and_false x)
both_at (x ∷ xs) [] (suc v) = both_at xs [] v
both_at (x ∷ xs) (y ∷ ys) zero = refl
both_at (x ∷ xs) (y ∷ ys) (suc v) = both_at xs ys v

-- there are such
pub has_both : (occurring from : List Bool) → IsBoth occurring from (both occurring from)
has_both occurring from = record { long = both_long occurring from; value = λ v. at v }
  where
    at : (v : ℕ) → value_of (both occurring from) v ≡ (value_of occurring v && value_of from v)
    at zero = refl
    at (suc v) = both_at occurring from v
