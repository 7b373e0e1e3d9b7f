-- Words that are taken and given back.
use Rattle.std.proofs.Common.{◌≡◌, ◌⊎◌, ℕ, suc, ◌+◌, ◌^◌, ◌<◌, ◌≤◌, ◌&&◌, ◌||◌, true, false, not, List, [], ◌∷◌, refl, sym, ap, ◌∙◌, arith, ⊎_elim, inl, inr, true≢false, Some, Result, Ok, Err}
use Rattle.std.specs.Prelude.{nat_lt, if◌then◌else◌, is_ok, OnOk}
use Rattle.std.proofs.lemmas.Bool.{or_parts, or_right, cases_lt, false≢true}
use Rattle.std.proofs.lemmas.Bool.Decides.{leb_tells, eqb_tells}
use Rattle.clause_cell.specs.declared.holes.Hole.{Hole}
use Rattle.clause_cell.specs.Free.{is_within, is_free, is_apart, is_clear, range, whole, first_fit, without_fit, with_range}
use Rattle.clause_cell.proofs.Ranges.{of_le, parts, taken_free, taken_busy, given_apart, given_free}
use Rattle.clause_cell.proofs.Exact.{fit_free}
use Rattle.ring_port.specs.Spare.{IsTaken}

-- what is ensured of an Ok
pub on_ok : {T E : Type 0} (r : Result T E) (P : Type 0) → is_ok r ≡ true → OnOk r P → P
on_ok (Ok x) P e h = h
on_ok (Err x) P e h = absurd (false≢true e)

pub within_here : (a n w : ℕ) → a ≤ w → w < a + n → is_within a n w ≡ true
within_here a n w le lt i = of_le a w le i && of_le (suc w) (a + n) lt i

-- what is taken was free
pub is_taken : (hs : List Hole) (need a : ℕ) → 0 < need → is_apart 0 hs ≡ true → first_fit need hs ≡ Some a → IsTaken hs (without_fit need hs) a need
is_taken hs need a some apart fit = record {
  were_free = λ w lo hi. fit_free need hs a w some apart fit (within_here a need w lo hi);
  taken = λ w lo hi. taken_busy 0 need hs a w some apart fit (within_here a need w lo hi);
  others = λ w free. (taken_free 0 need hs a w some apart fit ∙ or_right (is_within a need w) (is_free (without_fit need hs) w) free);
}

not_both : (a b c d : ℕ) → (c ≤ b) ⊎ (d ≤ a) → not (nat_lt b c && nat_lt a d) ≡ true
not_both a b c d h = grind (arith, leb_tells, h)

-- words of which none is free are clear of the holes
pub clear_of : (f a n : ℕ) (hs : List Hole) → 0 < n → is_apart f hs ≡ true → ((w : ℕ) → a ≤ w → w < a + n → is_free hs w ≡ false) → is_clear a n hs ≡ true
clear_of f a n [] some apart busy = refl
clear_of f a n (h ∷ hs) some apart busy =
    let p = parts f h hs apart in
    let long = p.some in
    let here : (w : ℕ) → a ≤ w → w < a + n → is_within h.first h.len w ≡ false = λ w lo hi. (or_parts (is_within h.first h.len w) (is_free hs w) (busy w lo hi)).0 in
    let clash : h.first < a + n → a < h.first + h.len → ⊥ = λ lo hi.
    ⊎_elim
    (λ (less : a < h.first). true≢false (sym (within_here h.first h.len h.first (omega arith) (omega arith)) ∙ here h.first (omega arith) lo))
    (λ (more : h.first ≤ a). true≢false (sym (within_here h.first h.len a more hi) ∙ here a (omega arith) (omega arith)))
    (cases_lt a h.first) in
    let beside : (a + n ≤ h.first) ⊎ (h.first + h.len ≤ a) = ⊎_elim
    (λ (lo : h.first < a + n). ⊎_elim (λ (hi : a < h.first + h.len). absurd (clash lo hi)) (λ (le : h.first + h.len ≤ a). inr le) (cases_lt a (h.first + h.len)))
    (λ (le : a + n ≤ h.first). inl le)
    (cases_lt h.first (a + n)) in
    let others = clear_of (h.first + h.len + 1) a n hs some p.others (λ w lo hi. (or_parts (is_within h.first h.len w) (is_free hs w) (busy w lo hi)).1) in
    λ i. not_both a h.first (a + n) (h.first + h.len) beside i && others i

pub is_given : (hs : List Hole) (a n w : ℕ) → 0 < n → is_apart 0 hs ≡ true → ((v : ℕ) → a ≤ v → v < a + n → is_free hs v ≡ false) → is_free (with_range a n hs) w ≡ (is_within a n w || is_free hs w)
is_given hs a n w some apart busy = given_free 0 a n hs w some apart (clear_of 0 a n hs some apart busy)

pub apart_given : (hs : List Hole) (a n : ℕ) → 0 < n → a + n ≤ 2 ^ 63 → is_apart 0 hs ≡ true → ((v : ℕ) → a ≤ v → v < a + n → is_free hs v ≡ false) → is_apart 0 (with_range a n hs) ≡ true
apart_given hs a n some few apart busy = given_apart 0 a n hs (omega arith) some few apart (clear_of 0 a n hs some apart busy)

-- the first stretch
one_hole : (a n : ℕ) → 0 < n → whole a n ≡ range a n ∷ []
one_hole a n some = ⊎_elim
    (λ t. absurd (let e = t.1 in omega arith))
    (λ t i. if t.0 i then [] else range a n ∷ [])
    (eqb_tells n 0)

pub first_given : (a n w : ℕ) → 0 < n → is_free (whole a n) w ≡ (is_within a n w || is_free [] w)
first_given a n w some = ap (λ hs. is_free hs w) (one_hole a n some)

pub first_apart : (a n : ℕ) → 0 < n → a + n ≤ 2 ^ 63 → is_apart 0 (whole a n) ≡ true
first_apart a n some few = ap (is_apart 0) (one_hole a n some) ∙ (λ i. of_le 0 a (omega arith) i && (of_le 1 n some i && (of_le (a + n) (2 ^ 63) few i && true)))
