-- Two assignments, and the variables in which they differ.
use Rattle.std.proofs.Common.{◌≡◌, ◌≢◌, ◌∙◌, ℕ, zero, suc, ◌+◌, ◌<◌, ◌≤◌, Bool, true, false, not, ◌&&◌, ◌||◌, List, [], length, get_or, refl, sym, ap, subst, inl, inr, arith}
use Rattle.std.specs.Prelude.{if◌then◌else◌}
use Rattle.std.specs.Bool.{beq}
use Rattle.std.proofs.lemmas.Bool.{cases_lt, cases_eq, cases_Bool, eq-eqb, ne_eqb, true≢false, false≢true}
use Rattle.sat_words.specs.Truth.{value_of}
use Rattle.ring_walk.specs.Listed.{AreListed, all_but, and_one, passing}
use Rattle.ring_walk.specs.KeptData.{turned, differs}
use Rattle.ring_walk.specs.Truths.{is_in}
use Rattle.ring_walk.proofs.Taking.{in_own}
use Rattle.ring_walk.proofs.Values.{value_set, value_kept, same_values}

same_value : (b : Bool) → not (beq b b) ≡ false
same_value true = refl
same_value false = refl

other_value : (b : Bool) → not (beq b (not b)) ≡ true
other_value true = refl
other_value false = refl

alike : (a b : Bool) → not (beq a b) ≡ false → a ≡ b
alike true true h = refl
alike true false h = absurd (true≢false h)
alike false true h = absurd (true≢false h)
alike false false h = refl

unlike : (a b : Bool) → not (beq a b) ≡ true → a ≡ not b
unlike true true h = absurd (false≢true h)
unlike true false h = refl
unlike false true h = refl
unlike false false h = absurd (false≢true h)

-- one assignment differs from itself in no variable
pub differs-self : (a : List Bool) (v : ℕ) → differs a a v ≡ false
differs-self a v = same_value (value_of a v)

-- how many numbers pass, if one more or less does

abbrev one_if : Bool → ℕ
one_if b = if b then 1 else 0

yes : (b : Bool) → b ≡ true → one_if b ≡ 1
yes true e = refl
yes false e = absurd (false≢true e)

nope : (b : Bool) → b ≡ false → one_if b ≡ 0
nope true e = absurd (true≢false e)
nope false e = refl

pub passing-none : (P : ℕ → Bool) (n : ℕ) → ((i : ℕ) → P i ≡ false) → passing P n ≡ 0
passing-none P zero none = refl
passing-none P (suc n) none = let r = passing-none P n none in let e = nope (P n) (none n) in omega arith

passing-le : (P : ℕ → Bool) (n : ℕ) → passing P n ≤ n
passing-le P zero = omega arith
passing-le P (suc n) = let r = passing-le P n in let b = one (P n) in omega arith
  where
    one : (b : Bool) → one_if b ≤ 1
    one true = omega arith
    one false = omega arith

pub passing-lt : (P : ℕ → Bool) (n i : ℕ) → i < n → P i ≡ false → passing P n < n
passing-lt P zero i lt none = absurd (omega arith)
passing-lt P (suc n) i lt none = elim (cases_lt i n) as (λ _. passing P (suc n) < suc n) [
  | inl low ↦ (let r = passing-lt P n i low none in let b = one (P n) in omega arith)
  | inr high ↦ (
      let e : i ≡ n = omega arith in
      let z = nope (P n) (subst (λ (k : ℕ). P k ≡ false) e none) in
      let r = passing-le P n in
      omega arith)
]
  where
    one : (b : Bool) → one_if b ≤ 1
    one true = omega arith
    one false = omega arith

passing-same : (P Q : ℕ → Bool) (n : ℕ) → ((i : ℕ) → i < n → P i ≡ Q i) → passing P n ≡ passing Q n
passing-same P Q zero h = refl
passing-same P Q (suc n) h =
    let r = passing-same P Q n (λ i lt. h i (omega arith)) in
    let e = ap one_if (h n (omega arith)) in
    omega arith

pub passing-one : (P Q : ℕ → Bool) (n i : ℕ) → i < n → ((j : ℕ) → j ≢ i → P j ≡ Q j) → P i ≡ false → Q i ≡ true → passing Q n ≡ passing P n + 1
passing-one P Q zero i lt h p q = absurd (omega arith)
passing-one P Q (suc n) i lt h p q = elim (cases_lt i n) as (λ _. passing Q (suc n) ≡ passing P (suc n) + 1) [
  | inl low ↦ (
      let r = passing-one P Q n i low h p q in
      let e = ap one_if (h n (λ e. omega arith)) in
      omega arith)
  | inr high ↦ (
      let e : i ≡ n = omega arith in
      let r = passing-same P Q n (λ j below. h j (λ f. omega arith)) in
      let a = nope (P n) (subst (λ (k : ℕ). P k ≡ false) e p) in
      let b = yes (Q n) (subst (λ (k : ℕ). Q k ≡ true) e q) in
      omega arith)
]

-- one variable has the other value

module _ (best now : List Bool) (v : ℕ) (low : 1 ≤ v) (high : v ≤ length now) where
  pub others : (w : ℕ) → w ≢ v → differs best now w ≡ differs best (turned now v) w
  others w ne = ap (λ (b : Bool). not (beq (value_of best w) b)) (sym (value_kept now v w (not (value_of now v)) low ne))

  turned_value : value_of (turned now v) v ≡ not (value_of now v)
  turned_value = value_set now v (not (value_of now v)) low high

  -- it has the best one's value then, so it had not before
  pub own_listed : value_of best v ≡ not (value_of now v) → differs best now v ≡ true
  own_listed e = ap (λ (b : Bool). not (beq b (value_of now v))) e ∙ by (value_of now v)
    where
      by : (b : Bool) → not (beq (not b) b) ≡ true
      by true = refl
      by false = refl

  pub own_unlisted : value_of best v ≡ not (value_of now v) → differs best (turned now v) v ≡ false
  own_unlisted e = ap (λ (b : Bool). not (beq (value_of best v) b)) (turned_value ∙ sym e) ∙ same_value (value_of best v)

  -- it has another value than the best one then, so it had the same before
  pub own_fresh : (value_of best v ≡ not (value_of now v) → ⊥) → differs best now v ≡ false
  own_fresh ne = by (value_of best v) (value_of now v) ne
    where
      by : (a b : Bool) → (a ≡ not b → ⊥) → not (beq a b) ≡ false
      by true true n = refl
      by true false n = absurd (n refl)
      by false true n = absurd (n refl)
      by false false n = refl

  pub own_enlisted : (value_of best v ≡ not (value_of now v) → ⊥) → differs best (turned now v) v ≡ true
  own_enlisted ne = ap (λ (b : Bool). not (beq (value_of best v) b)) turned_value ∙ by (value_of best v) (value_of now v) ne
    where
      by : (a b : Bool) → (a ≡ not b → ⊥) → not (beq a (not b)) ≡ true
      by true true n = refl
      by true false n = absurd (n refl)
      by false true n = absurd (n refl)
      by false false n = refl

  pub less : value_of best v ≡ not (value_of now v) → all_but v (differs best now) ≡ differs best (turned now v)
  less e = λ i w. at w i
    where
      at : (w : ℕ) → all_but v (differs best now) w ≡ differs best (turned now v) w
      at w = elim (cases_eq w v) as (λ _. all_but v (differs best now) w ≡ differs best (turned now v) w) [
        | inl is ↦ subst (λ (u : ℕ). all_but v (differs best now) u ≡ differs best (turned now v) u) (sym is) (ap (λ (b : Bool). differs best now v && not b) (eq-eqb v v refl) ∙ and_false (differs best now v) ∙ sym (own_unlisted e))
        | inr ne ↦ ap (λ (b : Bool). differs best now w && not b) (ne_eqb w v ne) ∙ and_true (differs best now w) ∙ others w ne
      ]
        where
          and_true : (b : Bool) → (b && true) ≡ b
          and_true true = refl
          and_true false = refl

          and_false : (b : Bool) → (b && false) ≡ false
          and_false true = refl
          and_false false = refl

  pub more : (value_of best v ≡ not (value_of now v) → ⊥) → and_one v (differs best now) ≡ differs best (turned now v)
  more n = λ i w. at w i
    where
      at : (w : ℕ) → and_one v (differs best now) w ≡ differs best (turned now v) w
      at w = elim (cases_eq w v) as (λ _. and_one v (differs best now) w ≡ differs best (turned now v) w) [
        | inl is ↦ subst (λ (u : ℕ). and_one v (differs best now) u ≡ differs best (turned now v) u) (sym is) (ap (λ (b : Bool). differs best now v || b) (eq-eqb v v refl) ∙ or_true (differs best now v) ∙ sym (own_enlisted n))
        | inr ne ↦ ap (λ (b : Bool). differs best now w || b) (ne_eqb w v ne) ∙ or_false (differs best now w) ∙ others w ne
      ]
        where
          or_true : (b : Bool) → (b || true) ≡ true
          or_true true = refl
          or_true false = refl

          or_false : (b : Bool) → (b || false) ≡ b
          or_false true = refl
          or_false false = refl

-- nothing is listed if both are the same
pub listed-none : (P : ℕ → Bool) (n : ℕ) (places : List ℕ) → length places ≡ n → ((i : ℕ) → P i ≡ false) → AreListed P n [] places
listed-none P n places wide none = record {
  wide = wide;
  low = λ k lt. absurd (omega arith);
  pass = λ k lt. absurd (omega arith);
  noted = λ k lt. absurd (omega arith);
  inside = λ i lt p. absurd (false≢true (sym (none i) ∙ p));
  there = λ i lt p. absurd (false≢true (sym (none i) ∙ p));
}

-- a variable that is listed is one of the assignments'
pub listed_low : (best now : List Bool) (n : ℕ) (L Q : List ℕ) → AreListed (differs best now) n L Q → (k : ℕ) → k < length L → (1 ≤ get_or L k 0) × (get_or L k 0 < n)
listed_low best now n L Q h k lt = (positive (get_or L k 0) (h.pass k lt), h.low k lt)
  where
    positive : (v : ℕ) → differs best now v ≡ true → 1 ≤ v
    positive zero p = absurd (false≢true p)
    positive (suc v) p = omega arith

-- once the listed variables have their values
pub caught_up : (best now new : List Bool) (L Q : List ℕ) → AreListed (differs best now) (length now + 1) L Q → length best ≡ length now → length new ≡ length best
    → ((v : ℕ) → value_of new v ≡ (if is_in L v then value_of now v else value_of best v)) → new ≡ now
caught_up best now new L Q h same len each = same_values new now (len ∙ same) (λ v le. elim (cases_Bool (is_in L v)) as (λ _. value_of new v ≡ value_of now v) [
  | inl y ↦ each v ∙ ap (λ (b : Bool). if b then value_of now v else value_of best v) y
  | inr n ↦ (
      each v ∙ ap (λ (b : Bool). if b then value_of now v else value_of best v) n
      ∙ alike (value_of best v) (value_of now v) (elim (cases_Bool (differs best now v)) as (λ _. differs best now v ≡ false) [
        | inl d ↦ (
            let low : v < length now + 1 = omega arith in
            absurd (true≢false (sym (subst (λ (u : ℕ). is_in L u ≡ true) (h.there v low d) (in_own L (get_or Q v 0) (h.inside v low d))) ∙ n)))
        | inr e ↦ e
      ]))
])
