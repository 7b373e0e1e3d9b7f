-- A table of truth by code, if the two places of a variable are read and written.
use Rattle.std.proofs.Common.{◌≡◌, ◌≢◌, ◌∙◌, ℕ, zero, suc, ◌+◌, ◌*◌, ◌<◌, cond, Bool, true, false, not, List, [], ◌∷◌, length, get_or, replicate, Option, None, Some, refl, ap, subst, arith}
use Rattle.std.proofs.Math.ListN.{set}
use Rattle.std.proofs.lemmas.List.{set_comm}
use Rattle.sat_words.specs.declared.values.Truth.{Truth}
use Rattle.sat_words.specs.declared.values.Truth.TheVariants.{Open, True, False}
use Rattle.sat_words.specs.Literal.{Literal, opposite, code_of}
use Rattle.sat_words.specs.Values.{value_of}
use Rattle.sat_words.specs.ByCode.{truth_of, turned, value_from, values_of, IsPaired}

pub length_paired : (t : List Truth) → IsPaired t → length t ≡ 2 * length (values_of t)
length_paired [] p = refl
length_paired (x ∷ []) p = absurd p
length_paired (x ∷ y ∷ t) p = let n = length_paired t p.1 in omega arith

code_lt : (t : List Truth) (v i : ℕ) (neg : Bool) → IsPaired t → i ≡ 2 * v + cond neg 1 0 → v < length (values_of t) → i < length t
code_lt t v i true p e lt = let m = length_paired t p in omega arith
code_lt t v i false p e lt = let m = length_paired t p in omega arith

-- a variable with a place has both of its codes
pub code_in_range : (t : List Truth) (l : Literal) → IsPaired t → l.var < length (values_of t) → code_of l < length t
code_in_range t l p lt = code_lt t l.var (code_of l) l.neg p refl lt

-- Reads

own_truth : (x : Truth) → x ≡ truth_of (value_from x) false
own_truth Open = refl
own_truth True = refl
own_truth False = refl

turned_truth : (x : Truth) → turned x ≡ truth_of (value_from x) true
turned_truth Open = refl
turned_truth True = refl
turned_truth False = refl

-- what stands at a literal's place
truth_at : (t : List Truth) (v i : ℕ) (neg : Bool) → IsPaired t → i ≡ 2 * v + cond neg 1 0 → get_or t i Open ≡ truth_of (get_or (values_of t) v None) neg
truth_at [] v i neg p e = refl
truth_at (x ∷ []) v i neg p e = absurd p
truth_at (x ∷ y ∷ t) zero zero true p e = absurd (omega arith)
truth_at (x ∷ y ∷ t) zero zero false p e = own_truth x
truth_at (x ∷ y ∷ t) zero (suc zero) true p e = p.0 ∙ turned_truth x
truth_at (x ∷ y ∷ t) zero (suc zero) false p e = absurd (omega arith)
truth_at (x ∷ y ∷ t) zero (suc (suc i)) true p e = absurd (omega arith)
truth_at (x ∷ y ∷ t) zero (suc (suc i)) false p e = absurd (omega arith)
truth_at (x ∷ y ∷ t) (suc v) zero neg p e = absurd (omega arith)
truth_at (x ∷ y ∷ t) (suc v) (suc zero) true p e = absurd (omega arith)
truth_at (x ∷ y ∷ t) (suc v) (suc zero) false p e = absurd (omega arith)
truth_at (x ∷ y ∷ t) (suc v) (suc (suc i)) true p e = truth_at t v i true p.1 (omega arith)
truth_at (x ∷ y ∷ t) (suc v) (suc (suc i)) false p e = truth_at t v i false p.1 (omega arith)

pub truth_of_lit : (t : List Truth) (l : Literal) → IsPaired t → get_or t (code_of l) Open ≡ truth_of (value_of (values_of t) l.var) l.neg
truth_of_lit t l p = truth_at t l.var (code_of l) l.neg p refl

-- the value of a variable by what stands at its own place
value_back : (o : Option Bool) → value_from (truth_of o false) ≡ o
value_back None = refl
value_back (Some true) = refl
value_back (Some false) = refl

pub value_at : (t : List Truth) (v : ℕ) → IsPaired t → value_from (get_or t (2 * v) Open) ≡ value_of (values_of t) v
value_at t v p = ap value_from (truth_at t v (2 * v) false p (omega arith)) ∙ value_back (get_or (values_of t) v None)

-- Writes

-- both places of a variable
pub written : (t : List Truth) (v i j : ℕ) (x y : Truth) → IsPaired t → i ≡ 2 * v → j ≡ 2 * v + 1 → y ≡ turned x
    → IsPaired (set (set t i x) j y) × (values_of (set (set t i x) j y) ≡ set (values_of t) v (value_from x))
written [] v i j x y p e f yx = (tt, refl)
written (a ∷ []) v i j x y p e f yx = absurd p
written (a ∷ b ∷ t) zero zero (suc zero) x y p e f yx = ((yx, p.1), refl)
written (a ∷ b ∷ t) zero zero zero x y p e f yx = absurd (omega arith)
written (a ∷ b ∷ t) zero zero (suc (suc j)) x y p e f yx = absurd (omega arith)
written (a ∷ b ∷ t) zero (suc i) j x y p e f yx = absurd (omega arith)
written (a ∷ b ∷ t) (suc v) zero j x y p e f yx = absurd (omega arith)
written (a ∷ b ∷ t) (suc v) (suc zero) j x y p e f yx = absurd (omega arith)
written (a ∷ b ∷ t) (suc v) (suc (suc i)) zero x y p e f yx = absurd (omega arith)
written (a ∷ b ∷ t) (suc v) (suc (suc i)) (suc zero) x y p e f yx = absurd (omega arith)
written (a ∷ b ∷ t) (suc v) (suc (suc i)) (suc (suc j)) x y p e f yx =
    let r = written t v i j x y p.1 (omega arith) (omega arith) yx in
    ((p.0, r.0), ap (λ (os : List (Option Bool)). value_from a ∷ os) r.1)

-- a literal that is made true, and its negation false
pub made_true : (t : List Truth) (l : Literal) → IsPaired t
    → IsPaired (set (set t (code_of l) True) (code_of (opposite l)) False)
    × (values_of (set (set t (code_of l) True) (code_of (opposite l)) False) ≡ set (values_of t) l.var (Some (not l.neg)))
made_true t l p = by l.neg
  where
    by : (neg : Bool) → IsPaired (set (set t (2 * l.var + cond neg 1 0) True) (2 * l.var + cond (not neg) 1 0) False)
        × (values_of (set (set t (2 * l.var + cond neg 1 0) True) (2 * l.var + cond (not neg) 1 0) False) ≡ set (values_of t) l.var (Some (not neg)))
    by false = written t l.var (2 * l.var + 0) (2 * l.var + 1) True False p (omega arith) refl refl
    by true =
        subst (λ (ts : List Truth). IsPaired ts × (values_of ts ≡ set (values_of t) l.var (Some false)))
        (set_comm t (2 * l.var + 0) (2 * l.var + 1) False True (let ne : 2 * l.var + 0 ≢ 2 * l.var + 1 = omega arith in ne))
        (written t l.var (2 * l.var + 0) (2 * l.var + 1) False True p (omega arith) refl refl)

-- nothing known of any
blank : (n m : ℕ) → m ≡ 2 * n → IsPaired (replicate m Open) × (values_of (replicate m Open) ≡ replicate n None)
blank zero zero e = (tt, refl)
blank zero (suc m) e = absurd (omega arith)
blank (suc n) zero e = absurd (omega arith)
blank (suc n) (suc zero) e = absurd (omega arith)
blank (suc n) (suc (suc m)) e =
    let r = blank n m (omega arith) in
    ((refl, r.0), ap (λ (os : List (Option Bool)). None ∷ os) r.1)

pub all_open : (n : ℕ) → IsPaired (replicate (2 * n) Open) × (values_of (replicate (2 * n) Open) ≡ replicate n None)
all_open n = blank n (2 * n) refl
