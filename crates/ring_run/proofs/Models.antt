-- The assignment that is made of a trail, literal by literal.
use Rattle.std.proofs.Common.{◌≡◌, ◌∙◌, ◌≢◌, ℕ, zero, suc, ◌+◌, ◌-◌, ◌<◌, ◌≤◌, not, Bool, true, false, List, length, replicate, slice_set, sym, subst, ap, arith, refl, inl, inr}
use Rattle.std.specs.Prelude.{if◌then◌else◌}
use Rattle.std.proofs.lemmas.Bool.{cases_lt, cases_eq, false≢true}
use Rattle.std.proofs.lemmas.List.{get_or-set_same, get_or-set_other, get_or-replicate, get_or_past, length-replicate}
use Rattle.sat_words.specs.Literal.{Literal}
use Rattle.sat_words.specs.Truth.{value_of, lit_true}
use Rattle.ring_trail.specs.declared.step.TrailStep.{TrailStep}
use Rattle.ring_trail.specs.TrailData.{TrailData, IsTrail, TrueBefore, lit_at}

-- no variable is true but those of the first literals
abbrev pub OnlyTrue : List Bool → List TrailStep → ℕ → Type 0
OnlyTrue a steps n = (l : Literal) → l.neg ≡ false → lit_true a l ≡ true → TrueBefore steps n l

positive : (a : List Bool) (l : Literal) → l.neg ≡ false → lit_true a l ≡ value_of a l.var
positive a l e = ap (λ (b : Bool). if b then not (value_of a l.var) else value_of a l.var) e

none_true : (n v : ℕ) → value_of (replicate n false) v ≡ false
none_true n zero = refl
none_true n (suc v) = elim (cases_lt v n) as (λ _. value_of (replicate n false) (suc v) ≡ false) [
  | inl lt ↦ get_or-replicate n v false false lt
  | inr le ↦ get_or_past (replicate n false) v false (let long = length-replicate n false in omega (arith, long, le))
]

-- at first none is true
pub only_none : (n : ℕ) (steps : List TrailStep) → OnlyTrue (replicate n false) steps 0
only_none n steps l pos h = absurd (false≢true (sym (none_true n l.var) ∙ sym (positive (replicate n false) l pos) ∙ h))

value_set : (a : List Bool) (w : ℕ) (x : Bool) → 1 ≤ w → w ≤ length a → value_of (slice_set a (w - 1) x) w ≡ x
value_set a w x low high =
    let e : w ≡ suc (w - 1) = omega arith in
    ap (value_of (slice_set a (w - 1) x)) e ∙ get_or-set_same a (w - 1) x false (omega arith)

value_kept : (a : List Bool) (w v : ℕ) (x : Bool) → 1 ≤ w → v ≢ w → value_of (slice_set a (w - 1) x) v ≡ value_of a v
value_kept a w zero x low ne = refl
value_kept a w (suc v) x low ne = get_or-set_other a (w - 1) v x false (λ e. ne (let is : suc v ≡ w = omega (arith, e, low) in is))

same_lit : (l m : Literal) → l.var ≡ m.var → l.neg ≡ m.neg → l ≡ m
same_lit l m var neg = ap (λ (v : ℕ). record { var = v; neg = l.neg }) var ∙ ap (λ (b : Bool). record { var = m.var; neg = b }) neg

not_back : (b : Bool) → not b ≡ true → b ≡ false
not_back true e = absurd (false≢true e)
not_back false e = refl

-- and then one more
pub only_set : (a : List Bool) (steps : List TrailStep) (n : ℕ) (m : Literal) → OnlyTrue a steps n → m ≡ lit_at steps n → 1 ≤ m.var → m.var ≤ length a → OnlyTrue (slice_set a (m.var - 1) (not m.neg)) steps (n + 1)
only_set a steps n m p is low high l pos h =
    let b = slice_set a (m.var - 1) (not m.neg) in
    let value : value_of b l.var ≡ true = sym (positive b l pos) ∙ h in
    elim (cases_eq l.var m.var) as (λ _. TrueBefore steps (n + 1) l) [
      | inl e ↦ (
          let up : not m.neg ≡ true = sym (value_set a m.var (not m.neg) low high) ∙ ap (value_of b) (sym e) ∙ value in
          record { place = n; before = omega arith; true_there = sym is ∙ sym (same_lit l m e (pos ∙ sym (not_back m.neg up))) })
      | inr ne ↦ (
          let old = p l pos (positive a l pos ∙ sym (value_kept a m.var l.var (not m.neg) low ne) ∙ value) in
          record { place = old.place; before = (let lt = old.before in omega (arith, lt)); true_there = old.true_there })
    ]

-- What is true stays so

set_there : (s : Bool) → (if s then not (not s) else not s) ≡ true
set_there true = refl
set_there false = refl

pub true_set : (a : List Bool) (t : TrailData) (n : ℕ) (m : Literal) → IsTrail t → n < length t.steps → m ≡ lit_at t.steps n → 1 ≤ m.var → m.var ≤ length a → ((p : ℕ) → p < n → lit_true a (lit_at t.steps p) ≡ true)
    → (p : ℕ) → p < n + 1 → lit_true (slice_set a (m.var - 1) (not m.neg)) (lit_at t.steps p) ≡ true
true_set a t n m shape inside is low high before p lt = elim (cases_lt p n) as (λ _. lit_true b (lit_at t.steps p) ≡ true) [
  | inl old ↦ (
      let k = lit_at t.steps p in
      let ne : k.var ≢ m.var = λ e. (let same = shape.distinct p n (omega (arith, old, inside)) inside (e ∙ ap (λ (l : Literal). l.var) is) in omega (arith, same, old)) in
      ap (λ (v : Bool). if k.neg then not v else v) (value_kept a m.var k.var (not m.neg) low ne) ∙ before p old)
  | inr le ↦ (
      let here : p ≡ n = omega arith in
      subst (λ (l : Literal). lit_true b l ≡ true) (is ∙ ap (lit_at t.steps) (sym here))
      (ap (λ (v : Bool). if m.neg then not v else v) (value_set a m.var (not m.neg) low high) ∙ set_there m.neg))
]
  where
    b : List Bool
    b = slice_set a (m.var - 1) (not m.neg)
