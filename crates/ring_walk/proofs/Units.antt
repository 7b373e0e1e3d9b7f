-- Units that are marked, and units that are made true, one after another.
use Rattle.std.proofs.Common.{◌≡◌, ◌∙◌, ℕ, zero, suc, ◌+◌, ◌-◌, ◌<◌, ◌≤◌, ◌==◌, Bool, true, false, not, ◌||◌, List, [], ◌∷◌, length, get_or, take, replicate, refl, sym, ap, subst, inl, inr, ◌⊎◌, arith}
use Rattle.std.specs.Prelude.{if◌then◌else◌}
use Rattle.std.proofs.Math.ListN.{set}
use Rattle.std.proofs.lemmas.Bool.{cases_eq, cases_lt, eq-eqb, ne_eqb, eqb-false, or_parts, true≢false}
use Rattle.std.proofs.lemmas.List.{get_or_past, get_or-replicate, length-replicate}
use Rattle.std.proofs.lemmas.List.Folds.{list_any_more, list_any_at}
use Rattle.sat_words.specs.Literal.{Literal, opposite, same}
use Rattle.sat_words.specs.Clause.{has, has_opposites}
use Rattle.sat_words.specs.Truth.{value_of, lit_true}
use Rattle.sat_words.proofs.Members.{same-refl}
use Rattle.ring_walk.specs.WalkData.{is_unit_of}
use Rattle.ring_walk.proofs.Values.{value_set, value_kept}

pub none_true : (n v : ℕ) → value_of (replicate n false) v ≡ false
none_true n zero = refl
none_true n (suc v) = elim (cases_lt v n) as (λ _. value_of (replicate n false) (suc v) ≡ false) [
  | inl lt ↦ get_or-replicate n v false false lt
  | inr le ↦ get_or_past (replicate n false) v false (let long = length-replicate n false in omega (arith, long, le))
]

unit_more : (us : List Literal) (k : ℕ) (u : Literal) (v : ℕ) → k < length us → u ≡ get_or us k u → is_unit_of (take (k + 1) us) v ≡ (is_unit_of (take k us) v || (u.var == v))
unit_more us k u v lt is = list_any_more (λ l. l.var == v) us k u lt ∙ ap (λ (l : Literal). is_unit_of (take k us) v || (l.var == v)) (sym is)

-- one more variable is marked
pub marked_more : (a : List Bool) (us : List Literal) (k : ℕ) (u : Literal) → k < length us → u ≡ get_or us k u → 1 ≤ u.var → u.var ≤ length a
    → ((v : ℕ) → value_of a v ≡ is_unit_of (take k us) v) → (v : ℕ) → value_of (set a (u.var - 1) true) v ≡ is_unit_of (take (k + 1) us) v
marked_more a us k u lt is low high was v = elim (cases_eq u.var v) as (λ _. value_of (set a (u.var - 1) true) v ≡ is_unit_of (take (k + 1) us) v) [
  | inl e ↦ ap (value_of (set a (u.var - 1) true)) (sym e) ∙ value_set a u.var true low high ∙ sym (unit_more us k u v lt is ∙ ap (λ (b : Bool). is_unit_of (take k us) v || b) (eq-eqb u.var v e) ∙ or_true (is_unit_of (take k us) v))
  | inr ne ↦ value_kept a u.var v true low (λ e. ne (sym e)) ∙ was v ∙ sym (unit_more us k u v lt is ∙ ap (λ (b : Bool). is_unit_of (take k us) v || b) (ne_eqb u.var v ne) ∙ or_false (is_unit_of (take k us) v))
]
  where
    or_true : (b : Bool) → (b || true) ≡ true
    or_true true = refl
    or_true false = refl

    or_false : (b : Bool) → (b || false) ≡ b
    or_false true = refl
    or_false false = refl

-- one literal more is made true
pub true_own : (a : List Bool) (u : Literal) → 1 ≤ u.var → u.var ≤ length a → lit_true (set a (u.var - 1) (not u.neg)) u ≡ true
true_own a u low high = ap (λ (b : Bool). if u.neg then not b else b) (value_set a u.var (not u.neg) low high) ∙ by u.neg
  where
    by : (b : Bool) → (if b then not (not b) else not b) ≡ true
    by true = refl
    by false = refl

has_at : (us : List Literal) (j : ℕ) (d : Literal) → j < length us → has us (get_or us j d) ≡ true
has_at [] j d lt = absurd (omega arith)
has_at (u ∷ us) zero d lt = ap (λ (b : Bool). b || has us u) (same-refl u)
has_at (u ∷ us) (suc j) d lt = ap (λ (b : Bool). same (get_or us j d) u || b) (has_at us j d (omega arith)) ∙ or_true (same (get_or us j d) u)
  where
    or_true : (b : Bool) → (b || true) ≡ true
    or_true true = refl
    or_true false = refl

-- two units of one variable are one
alike : (us : List Literal) → has_opposites us ≡ false → (j k : ℕ) (d u : Literal) → j < length us → k < length us → u ≡ get_or us k u → (get_or us j d).var ≡ u.var → get_or us j d ≡ u
alike us apart j k d u j_low k_low is var = elim (cases_same (get_or us j d).neg u.neg) as (λ _. get_or us j d ≡ u) [
  | inl e ↦ (λ i. record { var = var i; neg = e i })
  | inr n ↦ (
      let other : get_or us j d ≡ opposite u = λ i. record { var = var i; neg = n i } in
      let in_us : has us (opposite u) ≡ true = subst (λ (l : Literal). has us l ≡ true) other (has_at us j d j_low) in
      let at : has us (opposite (get_or us k u)) ≡ true = subst (λ (l : Literal). has us (opposite l) ≡ true) is in_us in
      absurd (true≢false (sym (list_any_at (λ l. has us (opposite l)) us k u k_low at) ∙ apart)))
]
  where
    cases_same : (b c : Bool) → (b ≡ c) ⊎ (b ≡ not c)
    cases_same true true = inl refl
    cases_same true false = inr refl
    cases_same false true = inr refl
    cases_same false false = inl refl

-- what was made true stays so
pub true_kept : (a : List Bool) (us : List Literal) → has_opposites us ≡ false → (j k : ℕ) (d u : Literal) → j < length us → k < length us → u ≡ get_or us k u → 1 ≤ u.var → u.var ≤ length a
    → lit_true a (get_or us j d) ≡ true → lit_true (set a (u.var - 1) (not u.neg)) (get_or us j d) ≡ true
true_kept a us apart j k d u j_low k_low is low high was = elim (cases_eq (get_or us j d).var u.var) as (λ _. lit_true (set a (u.var - 1) (not u.neg)) (get_or us j d) ≡ true) [
  | inl e ↦ subst (λ (l : Literal). lit_true (set a (u.var - 1) (not u.neg)) l ≡ true) (sym (alike us apart j k d u j_low k_low is e)) (true_own a u low high)
  | inr ne ↦ ap (λ (b : Bool). if (get_or us j d).neg then not b else b) (value_kept a u.var (get_or us j d).var (not u.neg) low ne) ∙ was
]

-- a variable without a unit keeps its value
pub others_kept : (a b : List Bool) (us : List Literal) (k : ℕ) (u : Literal) → k < length us → u ≡ get_or us k u → 1 ≤ u.var
    → ((v : ℕ) → is_unit_of (take k us) v ≡ false → value_of a v ≡ value_of b v) → (v : ℕ) → is_unit_of (take (k + 1) us) v ≡ false → value_of (set a (u.var - 1) (not u.neg)) v ≡ value_of b v
others_kept a b us k u lt is low was v none =
    let parts = or_parts (is_unit_of (take k us) v) (u.var == v) (sym (unit_more us k u v lt is) ∙ none) in
    value_kept a u.var v (not u.neg) low (λ e. eqb-false u.var v parts.1 (sym e)) ∙ was v parts.0
