-- A literal is drawn by the weights.
use Rattle.std.proofs.Common.{◌≡◌, ◌∙◌, ℕ, suc, ◌+◌, ◌-◌, ◌<◌, ◌≤◌, Bool, false, List, ◌∷◌, ◌++◌, length, get_or, take, drop, refl, sym, ap, subst, inl, inr, arith, All}
use Rattle.std.specs.Prelude.{◌^◌, ◌/◌, min, if◌then◌else◌}
use Rattle.std.specs.List.{sum_by}
use Rattle.std.proofs.Math.Pow.{pow-add}
use Rattle.std.proofs.lemmas.Bool.{cases_Bool}
use Rattle.std.proofs.lemmas.Nat.{shl-shr}
use Rattle.std.proofs.lemmas.List.{take-append-drop, drop_more, get_or_at, length-append}
use Rattle.sat_words.specs.Literal.{Literal}
use Rattle.sat_words.specs.Truth.{value_of}
use Rattle.ring_walk.specs.WalkData.{broken_under}
use Rattle.ring_walk.specs.Walk.{IsFirstAbove, weight_of}

-- halved so often
pub halved : (m : ℕ) → m ≤ 16 → 65536 / 2 ^ m ≡ 2 ^ (16 - m)
halved m le =
    let e : (16 - m) + m ≡ 16 = omega arith in
    ap (λ (n : ℕ). n / 2 ^ m) (ap (λ (n : ℕ). 2 ^ n) (sym e) ∙ pow-add 2 (16 - m) m) ∙ shl-shr (2 ^ (16 - m)) m

pub first : (f : Literal → ℕ) (c : List Literal) (n k left : ℕ) (l : Literal) → k < length c → l ≡ get_or c k l → left + sum_by f (take k c) ≡ n → left < f l → IsFirstAbove f c n l
first f c n k left l lt is sum above = record {
  before = take k c;
  after = drop (k + 1) c;
  parts = sym (take-append-drop k c) ∙ ap (λ (d : List Literal). take k c ++ d) (drop_more c k l lt ∙ ap (λ (m : Literal). m ∷ drop (k + 1) c) (sym is));
  passed = omega arith;
  reached = omega arith;
}

-- what is drawn is one of the clause's literals
pub first_in : (P : Literal → Type 0) (f : Literal → ℕ) (c : List Literal) (n : ℕ) (l : Literal) → All P c → IsFirstAbove f c n l → P l
first_in P f c n l all h =
    let at : get_or c (length h.before) l ≡ l = ap (λ (d : List Literal). get_or d (length h.before) l) h.parts ∙ get_or_at h.before l h.after l (length h.before) refl in
    let len : length c ≡ length h.before + suc (length h.after) = ap (λ (d : List Literal). length d) h.parts ∙ length-append h.before (l ∷ h.after) in
    subst P at (all (length h.before) l (omega arith))

-- and its variable has no unit
pub first_free : (G : List (List Literal)) (fixed a : List Bool) (c : List Literal) (n : ℕ) (l : Literal) → IsFirstAbove (weight_of G fixed a) c n l → value_of fixed l.var ≡ false
first_free G fixed a c n l h = elim (cases_Bool (value_of fixed l.var)) as (λ _. value_of fixed l.var ≡ false) [
  | inl y ↦ (
      let z : weight_of G fixed a l ≡ 0 = ap (λ (b : Bool). if b then 0 else 2 ^ (16 - min (broken_under G a l.var) 16)) y in
      let p = h.passed in
      let r = h.reached in
      absurd (omega arith))
  | inr free ↦ free
]
