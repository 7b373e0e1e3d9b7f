-- The values of an assignment once one of them is another.
use Rattle.std.proofs.Common.{◌≡◌, ◌≢◌, ◌∙◌, ℕ, zero, suc, ◌-◌, ◌≤◌, Bool, true, false, not, ◌&&◌, ◌||◌, List, length, refl, sym, ap, subst, inl, inr, ◌⊎◌, arith}
use Rattle.std.specs.Prelude.{if◌then◌else◌}
use Rattle.std.proofs.Math.ListN.{set}
use Rattle.std.proofs.lemmas.Bool.{cases_eq, cases_Bool, true≢false, false≢true}
use Rattle.std.proofs.lemmas.List.{get_or-set_same, get_or-set_other, ext_get_or}
use Rattle.sat_words.specs.Literal.{Literal, opposite, same}
use Rattle.sat_words.specs.Truth.{value_of, lit_true}
use Rattle.sat_words.proofs.Members.{same-true, same-refl}
use Rattle.ring_walk.specs.KeptData.{turned}
use Rattle.ring_walk.specs.Truths.{flipped}

pub value_set : (a : List Bool) (w : ℕ) (x : Bool) → 1 ≤ w → w ≤ length a → value_of (set a (w - 1) x) w ≡ x
value_set a w x low high =
    let e : w ≡ suc (w - 1) = omega arith in
    ap (value_of (set a (w - 1) x)) e ∙ get_or-set_same a (w - 1) x false (omega arith)

pub value_kept : (a : List Bool) (w v : ℕ) (x : Bool) → 1 ≤ w → v ≢ w → value_of (set a (w - 1) x) v ≡ value_of a v
value_kept a w zero x low ne = refl
value_kept a w (suc v) x low ne = get_or-set_other a (w - 1) v x false (λ e. ne (let is : suc v ≡ w = omega (arith, e, low) in is))

pub same_values : (a b : List Bool) → length a ≡ length b → ((v : ℕ) → v ≤ length a → value_of a v ≡ value_of b v) → a ≡ b
same_values a b len h = ext_get_or false a b len (λ i lt. h (suc i) (omega arith))

same_lit : (l m : Literal) → l.var ≡ m.var → l.neg ≡ m.neg → l ≡ m
same_lit l m var neg = ap (λ (v : ℕ). record { var = v; neg = l.neg }) var ∙ ap (λ (b : Bool). record { var = m.var; neg = b }) neg

other_neg : (b c : Bool) → (b ≡ c → ⊥) → b ≡ not c
other_neg true true ne = absurd (ne refl)
other_neg true false ne = refl
other_neg false true ne = refl
other_neg false false ne = absurd (ne refl)

cases_same : (b c : Bool) → (b ≡ c) ⊎ (b ≡ not c)
cases_same true true = inl refl
cases_same true false = inr refl
cases_same false true = inr refl
cases_same false false = inl refl

not_same : (k l : Literal) → (k ≡ l → ⊥) → same k l ≡ false
not_same k l ne = elim (cases_Bool (same k l)) as (λ _. same k l ≡ false) [
  | inl y ↦ absurd (ne (same-true k l y))
  | inr n ↦ n
]

-- the literal of a variable that is false: negated if the variable is true
abbrev pub false_lit : List Bool → ℕ → Literal
false_lit a v = record { var = v; neg = value_of a v }

pub was_false : (a : List Bool) (v : ℕ) → lit_true a (false_lit a v) ≡ false
was_false a v = by (value_of a v)
  where
    by : (b : Bool) → (if b then not b else b) ≡ false
    by true = refl
    by false = refl

pub was_true : (a : List Bool) (v : ℕ) → lit_true a (opposite (false_lit a v)) ≡ true
was_true a v = by (value_of a v)
  where
    by : (b : Bool) → (if not b then not b else b) ≡ true
    by true = refl
    by false = refl

module _ (a : List Bool) (v : ℕ) (low : 1 ≤ v) (high : v ≤ length a) where
  now_value : value_of (turned a v) v ≡ not (value_of a v)
  now_value = value_set a v (not (value_of a v)) low high

  at : (k : Literal) → lit_true (turned a v) k ≡ flipped (false_lit a v) (lit_true a) k
  at k = elim (cases_eq k.var v) as (λ _. lit_true (turned a v) k ≡ flipped (false_lit a v) (lit_true a) k) [
    | inl is ↦ elim (cases_same k.neg (value_of a v)) as (λ _. lit_true (turned a v) k ≡ flipped (false_lit a v) (lit_true a) k) [
      | inl e ↦ subst (λ (m : Literal). lit_true (turned a v) m ≡ flipped (false_lit a v) (lit_true a) m) (sym (same_lit k (false_lit a v) is e)) own
      | inr e ↦ subst (λ (m : Literal). lit_true (turned a v) m ≡ flipped (false_lit a v) (lit_true a) m) (sym (same_lit k (opposite (false_lit a v)) is e)) negation
    ]
    | inr ne ↦ (
        let one = not_same k (false_lit a v) (λ e. ne (ap (λ (x : Literal). x.var) e)) in
        let two = not_same k (opposite (false_lit a v)) (λ e. ne (ap (λ (x : Literal). x.var) e)) in
        ap (λ (b : Bool). if k.neg then not b else b) (value_kept a v k.var (not (value_of a v)) low ne)
        ∙ sym (ap (λ (b : Bool). (b || lit_true a k) && not (same k (opposite (false_lit a v)))) one ∙ ap (λ (b : Bool). lit_true a k && not b) two ∙ and_true (lit_true a k)))
  ]
    where
      and_true : (b : Bool) → (b && true) ≡ b
      and_true true = refl
      and_true false = refl

      own : lit_true (turned a v) (false_lit a v) ≡ flipped (false_lit a v) (lit_true a) (false_lit a v)
      own =
          ap (λ (b : Bool). if value_of a v then not b else b) now_value ∙ by (value_of a v)
          ∙ sym (ap (λ (b : Bool). (b || lit_true a (false_lit a v)) && not (same (false_lit a v) (opposite (false_lit a v)))) (same-refl (false_lit a v))
          ∙ ap not (not_same (false_lit a v) (opposite (false_lit a v)) (λ e. differ (value_of a v) (ap (λ (x : Literal). x.neg) e))))
        where
          by : (b : Bool) → (if b then not (not b) else not b) ≡ true
          by true = refl
          by false = refl

          differ : (b : Bool) → b ≡ not b → ⊥
          differ true f = true≢false f
          differ false f = false≢true f

      negation : lit_true (turned a v) (opposite (false_lit a v)) ≡ flipped (false_lit a v) (lit_true a) (opposite (false_lit a v))
      negation =
          ap (λ (b : Bool). if not (value_of a v) then not b else b) now_value ∙ by (value_of a v)
          ∙ sym (ap (λ (b : Bool). (same (opposite (false_lit a v)) (false_lit a v) || lit_true a (opposite (false_lit a v))) && not b) (same-refl (opposite (false_lit a v))) ∙ and_false (same (opposite (false_lit a v)) (false_lit a v) || lit_true a (opposite (false_lit a v))))
        where
          by : (b : Bool) → (if not b then not (not b) else not b) ≡ false
          by true = refl
          by false = refl

          and_false : (b : Bool) → (b && false) ≡ false
          and_false true = refl
          and_false false = refl

  -- what is true once the variable has the other value
  pub true_then : lit_true (turned a v) ≡ flipped (false_lit a v) (lit_true a)
  true_then = λ i k. at k i
